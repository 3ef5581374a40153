-- An original number of a bone's pose set: two scenes have in common what doesn't read that number.
use Rattle.std.proofs.Common.{◌≡◌, ℕ, Bool, true, false, ◌&&◌, List, [], ◌∷◌, Option, Some, None, refl, sym, ap, ◌∙◌, subst, arith}
use Rattle.std.specs.Prelude.{ℤ, IsTrue, Contains, slice_get, option_map, option_and_then}
use Rattle.std.specs.Option.{option_map_or}
use Rattle.std.specs.List.{position}
use Rattle.std.proofs.lemmas.Bool.{false≢true}
use Rattle.std.proofs.lemmas.List.Elements.{All-weaker}
use Rattle.std.proofs.lemmas.Option.{same_Some, slice_get-map}
use Rattle.rig_scene.specs.declared.armature.ArmatureData.{ArmatureData}
use Rattle.rig_scene.specs.declared.armature.RestBone.{RestBone}
use Rattle.rig_scene.specs.declared.channel.Channel.{Channel}
use Rattle.rig_scene.specs.declared.channel.Channels.{Channels}
use Rattle.rig_scene.specs.declared.driver.Variable.{Variable}
use Rattle.rig_scene.specs.declared.driver.Variable.TheVariants as variable
use Rattle.rig_scene.specs.declared.id.AnimId.TheVariants as anim
use Rattle.rig_scene.specs.declared.id.ObjectId.{ObjectId}
use Rattle.rig_scene.specs.declared.object.Kind.{Kind}
use Rattle.rig_scene.specs.declared.object.Kind.TheVariants.{Empty, Armature, Pencil}
use Rattle.rig_scene.specs.declared.object.Object.{Object}
use Rattle.rig_scene.specs.declared.operation.OpId.{OpId}
use Rattle.rig_scene.specs.declared.operation.OpId.TheVariants.{Time, Animation, Driver, Local, World, PoseInit, Bone, PoseDone, Layer, Geometry, ModifierOp, GeometryDone}
use Rattle.rig_scene.specs.declared.path.Path.TheVariants as path
use Rattle.rig_scene.specs.Channel.{channel_of, with_channel, same_channel}
use Rattle.rig_scene.specs.ChannelNumber.{original_number, pose_of, pose_named}
use Rattle.rig_scene.specs.Drivers.{driver_of}
use Rattle.rig_scene.specs.FactsHold.{scene_facts}
use Rattle.rig_scene.specs.Id.{same_object}
use Rattle.rig_scene.specs.Operations.{operations, ins}
use Rattle.rig_scene.specs.Quantities.{modifiers_of}
use Rattle.rig_scene.specs.Same.{same_object-equal, same_object-itself, same_text-Decides}
use Rattle.rig_scene.specs.Scene.{SceneRecord, object_of, armature_of, pencil_of}
use Rattle.rig_scene.specs.Text.{same_text}
use Rattle.rig_scene.specs.WellFormed.{is_scene}
use Rattle.rig_edits.specs.declared.edit.Edit.TheVariants.{SetValue}
use Rattle.rig_edits.specs.declared.edit.IdName.TheVariants as named
use Rattle.rig_edits.specs.Accepted.{accepted}
use Rattle.rig_edits.specs.Conditions.{first_cause}
use Rattle.rig_edits.specs.Edited.{pose_changed, with_pose, edited}
use Rattle.rig_edits.specs.Named.{object_named, bone_index, update_at}
use Rattle.rig_edits.specs.NamedFacts.{named_by_id}
use Rattle.rig_edits.specs.Replaced.{map-updated_at}
use Rattle.rig_touch.specs.Agree.{Agree, posed_bone}
use Rattle.rig_touch.specs.AgreeObjects.{Keeps, SameOriginal, Rest, agree_rest, own_still, parent_still, bone_still, modifier_still, own_number_still, bone_number_still, pencil_number_still, other_number_still, no_number_still}
use Rattle.rig_touch.specs.AgreeValues.{named_by, untouched_value, unread, channel_other, first_fails, is_another}
use Rattle.rig_touch.specs.FirstChanged.{at_other, position_passes}
use Rattle.rig_touch.specs.OneObject.{another}
use Rattle.rig_touch.specs.Touch.{touch, is_property, property_readers}

-- ---- the poses of a kind

-- what doesn't depend on a pose
pose_armature : (s : SceneRecord) (bone : List ℕ) (change : Channels → Channels) (k : Kind)
    → armature_of s (pose_changed s bone change k) ≡ armature_of s k
pose_armature s bone change Empty = refl
pose_armature s bone change (Armature index pose) = refl
pose_armature s bone change (Pencil index modifiers) = refl

pose_pencil : (s : SceneRecord) (bone : List ℕ) (change : Channels → Channels) (k : Kind)
    → pencil_of s (pose_changed s bone change k) ≡ pencil_of s k
pose_pencil s bone change Empty = refl
pose_pencil s bone change (Armature index pose) = refl
pose_pencil s bone change (Pencil index modifiers) = refl

pose_modifiers : (s : SceneRecord) (bone : List ℕ) (change : Channels → Channels) (k : Kind)
    → modifiers_of (pose_changed s bone change k) ≡ modifiers_of k
pose_modifiers s bone change Empty = refl
pose_modifiers s bone change (Armature index pose) = refl
pose_modifiers s bone change (Pencil index modifiers) = refl

-- the pose of another bone
pose_other : (s : SceneRecord) (bone : List ℕ) (change : Channels → Channels) (k : Kind) (b : ℕ) → (bone_index s k bone ≡ Some b → ⊥)
    → pose_of (pose_changed s bone change k) b ≡ pose_of k b
pose_other s bone change Empty b differs = refl
pose_other s bone change (Armature index pose) b differs = by (bone_index s (Armature index pose) bone) differs
  where
    by : (r : Option ℕ) → (r ≡ Some b → ⊥) → slice_get (option_map_or (λ i. update_at change i pose) r pose) b ≡ slice_get pose b
    by None differs = refl
    by (Some i) differs = at_other change i pose b (λ e. differs (ap Some e))
pose_other s bone change (Pencil index modifiers) b differs = refl

-- a number of a pose that the change leaves as it is
pose_number : {B : Type 0} (number : Channels → B) (s : SceneRecord) (bone : List ℕ) (change : Channels → Channels)
    → ((pose : Channels) → number (change pose) ≡ number pose) → (k : Kind) (b : ℕ)
    → option_map number (pose_of (pose_changed s bone change k) b) ≡ option_map number (pose_of k b)
pose_number number s bone change same Empty b = refl
pose_number number s bone change same (Armature index pose) b = by (bone_index s (Armature index pose) bone)
  where
    by : (r : Option ℕ) → option_map number (slice_get (option_map_or (λ i. update_at change i pose) r pose) b)
        ≡ option_map number (slice_get pose b)
    by None = refl
    by (Some i) =
        sym (slice_get-map number (update_at change i pose) b) ∙ ap (λ numbers. slice_get numbers b)
        (map-updated_at number change same i pose)
        ∙ slice_get-map number pose b
pose_number number s bone change same (Pencil index modifiers) b = refl

-- a bone has one name
one_name : (bones : List RestBone) (m n : List ℕ) (i : ℕ) → position (λ b. same_text b.name m) bones ≡ Some i
    → position (λ b. same_text b.name n) bones ≡ Some i
    → same_text m n ≡ true
one_name bones m n i first second =
    let a = position_passes (λ (b : RestBone). same_text b.name m) bones i first in
    let b = position_passes (λ (b : RestBone). same_text b.name n) bones i second in
    let same : a.0 ≡ b.0 = same_Some a.0 b.0 (sym a.1 ∙ b.1) in
    let names : m ≡ n =
    sym ((same_text-Decides a.0.name m).0 a.2) ∙ ap (λ (b : RestBone). b.name) same ∙ (same_text-Decides b.0.name n).0 b.2 in
    (same_text-Decides m n).1 names

-- a number that isn't the one that is set, of the pose of a bone of a name
named_number : (s : SceneRecord) (bone : List ℕ) (set : Channel) (value : ℤ) (k : Kind) (name : List ℕ) (channel : Channel)
    → (same_text name bone && same_channel channel set) ≡ false
    → option_map (λ pose. channel_of pose channel) (pose_named s (pose_changed s bone (λ pose. with_channel pose set value) k) name)
    ≡ option_map (λ pose. channel_of pose channel) (pose_named s k name)
named_number s bone set value k name channel differs =
    ap (λ a. option_map (λ pose. channel_of pose channel) (option_and_then (pose_of (pose_changed s bone change k)) (place a)))
    (pose_armature s bone change k)
    ∙ by (place (armature_of s k)) refl
  where
    change : Channels → Channels
    change pose = with_channel pose set value

    place : Option ArmatureData → Option ℕ
    place a = option_and_then (λ (a : ArmatureData). position (λ (b : RestBone). same_text b.name name) a.bones) a

    -- the index of one name isn't that of another
    other_place : (a : Option ArmatureData) (i : ℕ) → same_text name bone ≡ false → place a ≡ Some i
        → position (λ (b : RestBone). same_text b.name bone) (option_map_or (λ (a : ArmatureData). a.bones) a []) ≡ Some i → ⊥
    other_place None i apart e f = cc
    other_place (Some a) i apart e f = false≢true (sym apart ∙ one_name a.bones name bone i e f)

    at : (i : ℕ) → place (armature_of s k) ≡ Some i → (b : Bool) → same_channel channel set ≡ b
        → option_map (λ pose. channel_of pose channel) (pose_of (pose_changed s bone change k) i)
        ≡ option_map (λ pose. channel_of pose channel) (pose_of k i)
    at i e true is =
        ap (option_map (λ pose. channel_of pose channel))
        (pose_other s bone change k i (other_place (armature_of s k) i
        (first_fails (same_text name bone) (same_channel channel set) differs is) e))
    at i e false is =
        pose_number (λ pose. channel_of pose channel) s bone change (λ pose. channel_other pose set channel value is) k i

    by : (r : Option ℕ) → place (armature_of s k) ≡ r
        → option_map (λ pose. channel_of pose channel) (option_and_then (pose_of (pose_changed s bone change k)) r)
        ≡ option_map (λ pose. channel_of pose channel) (option_and_then (pose_of k) r)
    by None e = refl
    by (Some i) e = at i e (same_channel channel set) refl

-- ---- the pose of a bone of an object

module _ (s : SceneRecord) (name bone : List ℕ) (set : Channel) (value : ℤ) (x : Object) (e : object_named s name ≡ Some x) where
  abbrev change : Object → Object
  change o = record o { kind = pose_changed s bone (λ pose. with_channel pose set value) o.kind }

  keeps : Keeps s x (change x)
  keeps = record {
    id = refl;
    action = refl;
    armature = pose_armature s bone (λ pose. with_channel pose set value) x.kind;
    pencil = pose_pencil s bone (λ pose. with_channel pose set value) x.kind;
  }

  original : (v : Variable) → is_property (anim.Object x.id) (path.Bone bone set) v ≡ false → SameOriginal s name change x e keeps v
  original (variable.Property (anim.Object o) (path.Own channel)) h = own_number_still s name change x e keeps channel refl o
  original (variable.Property (anim.Object o) (path.Bone other channel)) h = by (same_text other bone && same_channel channel set) refl
    where
      by : (b : Bool) → (same_text other bone && same_channel channel set) ≡ b
          → original_number s (anim.Object o) (path.Bone other channel)
          ≡ original_number (with_pose s name bone (λ pose. with_channel pose set value)) (anim.Object o) (path.Bone other channel)
      by true is =
          other_number_still s name change x e keeps o (path.Bone other channel)
          (another s name change x e refl o
          (is_another x.id o (first_fails (same_object o x.id) (same_text other bone && same_channel channel set) h is)))
      by false is = bone_number_still s name change x e keeps other channel (named_number s bone set value x.kind other channel is) o
  original (variable.Property (anim.Object o) (path.Layer layer axis)) h = no_number_still s name change x e keeps o layer axis
  original (variable.Property (anim.Pencil p) q) h = pencil_number_still s name change x e keeps p q
  original (variable.Transform object space channel) h = tt

  -- the operations that have the number
  abbrev Set : List OpId
  Set = option_map_or (λ b. Bone x.id b ∷ []) (bone_index s x.kind bone) []

  bone_rest : (o : ObjectId) (b : ℕ) → (Contains Set (Bone o b) → ⊥)
      → posed_bone s o b ≡ posed_bone (with_pose s name bone (λ pose. with_channel pose set value)) o b
  bone_rest o b h = by (same_object x.id o) refl
    where
      bone_of : Object → Option (RestBone × Channels)
      bone_of q =
          option_and_then (λ (a : ArmatureData). option_and_then
          (λ (r : RestBone). option_map (λ (pose : Channels). (r, pose)) (pose_of q.kind b)) (slice_get a.bones b))
          (armature_of s q.kind)

      place : same_object x.id o ≡ true → bone_index s x.kind bone ≡ Some b → ⊥
      place is at =
          h (subst (λ r. Contains (option_map_or (λ b. Bone x.id b ∷ []) r []) (Bone o b)) (sym at)
          (0, omega arith, ap (λ o. Bone o b) (same_object-equal x.id o is)))

      by : (c : Bool) → same_object x.id o ≡ c
          → posed_bone s o b ≡ posed_bone (with_pose s name bone (λ pose. with_channel pose set value)) o b
      by true is = bone_still s name change x e keeps b (pose_other s bone (λ pose. with_channel pose set value) x.kind b (place is)) o
      by false is =
          ap (option_and_then bone_of)
          (another s name change x e refl o (λ same. false≢true (sym is ∙ ap (same_object x.id) (sym same) ∙ same_object-itself x.id)))

  rest : (op : OpId) → (Contains Set op → ⊥) → (Contains (property_readers s (anim.Object x.id) (path.Bone bone set)) op → ⊥)
      → Rest s name change x e keeps op
  rest Time h r = tt
  rest (Animation id) h r = tt
  rest (Driver id target) h r =
      All-weaker (λ v. is_property (anim.Object x.id) (path.Bone bone set) v ≡ false) (SameOriginal s name change x e keeps) original
      (option_map_or (λ d. d.variables) (driver_of s id target) []) (unread s (anim.Object x.id) (path.Bone bone set) id target r)
  rest (Local o) h r = own_still s name change x e keeps refl o
  rest (World o) h r = parent_still s name change x e keeps refl o
  rest (PoseInit o) h r = tt
  rest (Bone o b) h r = bone_rest o b h
  rest (PoseDone o) h r = tt
  rest (Layer p l) h r = tt
  rest (Geometry o) h r = tt
  rest (ModifierOp o i) h r = modifier_still s name change x e keeps (pose_modifiers s bone (λ pose. with_channel pose set value) x.kind) o i
  rest (GeometryDone o) h r = tt

-- what isn't touched by an original number of a bone's pose
pub agree_set_pose : (s : SceneRecord) → IsTrue (is_scene s) → (object bone : List ℕ) (channel : Channel) (value : ℤ)
    → first_cause s (SetValue (named.Object object) (path.Bone bone channel) value) ≡ None → (op : OpId) → Contains (operations s) op
    → Contains (operations (edited s (SetValue (named.Object object) (path.Bone bone channel) value))) op
    → (Contains (touch s (SetValue (named.Object object) (path.Bone bone channel) value)) op → ⊥)
    → ins s op ≡ ins (edited s (SetValue (named.Object object) (path.Bone bone channel) value)) op
    → Agree s (edited s (SetValue (named.Object object) (path.Bone bone channel) value)) op
agree_set_pose s is object bone channel value accept op old new untouched links =
    let there = named_by s object (accepted s (SetValue (named.Object object) (path.Bone bone channel) value) accept).id_is_known in
    let x = there.0 in
    let h = untouched_value s object (path.Bone bone channel) value x op there.1 untouched in
    let found : option_and_then (λ (o : Object). bone_index s o.kind bone) (object_of s x.id) ≡ bone_index s x.kind bone =
    ap (option_and_then (λ (o : Object). bone_index s o.kind bone)) (named_by_id s (scene_facts s is) object x there.1) in
    agree_rest s object (change s object bone channel value x there.1) x there.1 (keeps s object bone channel value x there.1) op
    (rest s object bone channel value x there.1 op
    (subst (λ r. Contains (option_map_or (λ b. Bone x.id b ∷ []) r []) op → ⊥) found h.0) h.1)

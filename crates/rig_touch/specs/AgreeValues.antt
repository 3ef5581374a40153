-- An original number of an object, or of a bone's pose, set: two scenes have in common what doesn't read that number.
use Rattle.std.proofs.Common.{◌≡◌, ℕ, Bool, true, false, ◌&&◌, List, [], ◌∷◌, ◌++◌, filter, Option, Some, None, refl, sym, ap, ◌∙◌, subst, arith}
use Rattle.std.specs.Prelude.{ℤ, IsTrue, Contains, is_none, option_map}
use Rattle.std.specs.Option.{option_map_or}
use Rattle.std.specs.List.{All, list_any}
use Rattle.std.proofs.lemmas.Bool.{and_parts, false_from_ne_true, false≢true, true≢false}
use Rattle.std.proofs.lemmas.List.Elements.{All-nil, All-weaker, Contains-append_left, Contains-append_right}
use Rattle.rig_scene.specs.declared.channel.Channel.{Channel}
use Rattle.rig_scene.specs.declared.channel.Channel.TheVariants.{LocX, LocY, LocZ, RotW, RotX, RotY, RotZ, Scale}
use Rattle.rig_scene.specs.declared.channel.Channels.{Channels}
use Rattle.rig_scene.specs.declared.driver.Driver.{Driver as DriverRecord}
use Rattle.rig_scene.specs.declared.driver.Variable.{Variable}
use Rattle.rig_scene.specs.declared.driver.Variable.TheVariants as variable
use Rattle.rig_scene.specs.declared.id.AnimId.{AnimId}
use Rattle.rig_scene.specs.declared.id.AnimId.TheVariants as anim
use Rattle.rig_scene.specs.declared.id.ObjectId.{ObjectId}
use Rattle.rig_scene.specs.declared.object.Object.{Object}
use Rattle.rig_scene.specs.declared.operation.OpId.{OpId}
use Rattle.rig_scene.specs.declared.operation.OpId.TheVariants.{Time, Animation, Driver, Local, World, PoseInit, Bone, PoseDone, Layer, Geometry, ModifierOp, GeometryDone}
use Rattle.rig_scene.specs.declared.path.Path.{Path}
use Rattle.rig_scene.specs.declared.path.Path.TheVariants as path
use Rattle.rig_scene.specs.Channel.{channel_of, with_channel, same_channel}
use Rattle.rig_scene.specs.ChannelNumber.{original_number}
use Rattle.rig_scene.specs.Drivers.{driver_of}
use Rattle.rig_scene.specs.Id.{same_object, same_id}
use Rattle.rig_scene.specs.Operations.{operations, ins}
use Rattle.rig_scene.specs.Path.{same_path}
use Rattle.rig_scene.specs.Same.{same_object-itself, same_id-equal, same_path-equal}
use Rattle.rig_scene.specs.Scene.{SceneRecord}
use Rattle.rig_scene.specs.WellFormed.{is_scene}
use Rattle.rig_laws.specs.Lists.{find-Some}
use Rattle.rig_edits.specs.declared.edit.Edit.TheVariants.{SetValue}
use Rattle.rig_edits.specs.declared.edit.IdName.TheVariants as named
use Rattle.rig_edits.specs.Accepted.{accepted}
use Rattle.rig_edits.specs.Conditions.{first_cause, lacks_id}
use Rattle.rig_edits.specs.Edited.{with_object, edited}
use Rattle.rig_edits.specs.Lists.{none_passes, some_of}
use Rattle.rig_edits.specs.Named.{object_named}
use Rattle.rig_touch.specs.Agree.{Agree}
use Rattle.rig_touch.specs.AgreeObjects.{Keeps, SameOriginal, Rest, agree_rest, parent_still, bone_still, modifier_still, own_number_still, bone_number_still, pencil_number_still, other_number_still, no_number_still}
use Rattle.rig_touch.specs.Listed.{Contains-map, Contains-filter}
use Rattle.rig_touch.specs.OneObject.{another}
use Rattle.rig_touch.specs.Touch.{touch, is_property, channel_operations, property_readers}

-- ---- what is touched

-- the object of a name that means an id
pub named_by : (s : SceneRecord) (object : List ℕ) → lacks_id s (named.Object object) ≡ false
    → (x : Object) × (object_named s object ≡ Some x)
named_by s object e = some_of (object_named s object) (by (object_named s object) e)
  where
    by : (r : Option Object) → is_none (option_map (λ (o : Object). anim.Object o.id) r) ≡ false → is_none r ≡ false
    by None e = e
    by (Some x) e = refl

-- neither what has the number is touched nor a driver that reads it
pub untouched_value : (s : SceneRecord) (object : List ℕ) (p : Path) (value : ℤ) (x : Object) (op : OpId) → object_named s object ≡ Some x
    → (Contains (touch s (SetValue (named.Object object) p value)) op → ⊥)
    → (Contains (channel_operations s (anim.Object x.id) p) op → ⊥) × (Contains (property_readers s (anim.Object x.id) p) op → ⊥)
unfolding touch
untouched_value s object p value x op e untouched =
    let readers : AnimId → List OpId = λ a. channel_operations s a p ++ property_readers s a p in
    let h : Contains (readers (anim.Object x.id)) op → ⊥ =
    λ c. untouched (subst (λ r. Contains (option_map_or readers (option_map (λ (o : Object). anim.Object o.id) r) []) op) (sym e) c) in (
      λ c. h (Contains-append_left (channel_operations s (anim.Object x.id) p) (property_readers s (anim.Object x.id) p) op c),
      λ c. h (Contains-append_right (channel_operations s (anim.Object x.id) p) (property_readers s (anim.Object x.id) p) op c),
    )

-- no variable of a driver that isn't touched is the property of the channel
pub unread : (s : SceneRecord) (a : AnimId) (p : Path) (id : AnimId) (target : Path)
    → (Contains (property_readers s a p) (Driver id target) → ⊥)
    → All (λ v. is_property a p v ≡ false) (option_map_or (λ d. d.variables) (driver_of s id target) [])
unread s a p id target untouched = by (driver_of s id target) refl
  where
    reads : DriverRecord → Bool
    reads d = list_any (is_property a p) d.variables

    by : (r : Option DriverRecord) → driver_of s id target ≡ r → All (λ v. is_property a p v ≡ false) (option_map_or (λ d. d.variables) r [])
    by None e = All-nil (λ v. is_property a p v ≡ false)
    by (Some d) e =
        let found = find-Some (λ (d : DriverRecord). same_id d.id id && same_path d.path target) s.drivers d e in
        let same = and_parts (same_id d.id id) (same_path d.path target) found.1 in
        let ids : d.id ≡ id = same_id-equal d.id id same.0 in
        let paths : d.path ≡ target = same_path-equal d.path target same.1 in
        none_passes (is_property a p) d.variables
        (false_from_ne_true (reads d) (λ is. untouched
        (subst (Contains (property_readers s a p)) (λ j. Driver (ids j) (paths j))
        (Contains-map (λ (d : DriverRecord). Driver d.id d.path) (filter reads s.drivers) d (Contains-filter reads s.drivers d is found.0)))))

-- ---- numbers

-- another of eight numbers than the one that is set
pub channel_other : (c : Channels) (set channel : Channel) (value : ℤ) → same_channel channel set ≡ false
    → channel_of (with_channel c set value) channel ≡ channel_of c channel
channel_other c LocX LocX value e = absurd (true≢false e)
channel_other c LocY LocY value e = absurd (true≢false e)
channel_other c LocZ LocZ value e = absurd (true≢false e)
channel_other c RotW RotW value e = absurd (true≢false e)
channel_other c RotX RotX value e = absurd (true≢false e)
channel_other c RotY RotY value e = absurd (true≢false e)
channel_other c RotZ RotZ value e = absurd (true≢false e)
channel_other c Scale Scale value e = absurd (true≢false e)
channel_other c set channel value e = refl

-- of a test in two parts that fails, the first fails where the second holds
pub first_fails : (a b : Bool) → (a && b) ≡ false → b ≡ true → a ≡ false
first_fails true b e is = absurd (false≢true (sym e ∙ is))
first_fails false b e is = refl

-- what isn't the same is another
pub is_another : (a b : ObjectId) → same_object b a ≡ false → a ≡ b → ⊥
is_another a b differs same = false≢true (sym differs ∙ ap (same_object b) same ∙ same_object-itself b)

-- ---- an object's own channels

module _ (s : SceneRecord) (name : List ℕ) (set : Channel) (value : ℤ) (x : Object) (e : object_named s name ≡ Some x) where
  abbrev own_changed : Object → Object
  own_changed o = record o { own = with_channel o.own set value }

  own_keeps : Keeps s x (own_changed x)
  own_keeps = record { id = refl; action = refl; armature = refl; pencil = refl }

  own_original : (v : Variable) → is_property (anim.Object x.id) (path.Own set) v ≡ false → SameOriginal s name own_changed x e own_keeps v
  own_original (variable.Property (anim.Object o) (path.Own channel)) h = by (same_channel channel set) refl
    where
      by : (b : Bool) → same_channel channel set ≡ b
          → original_number s (anim.Object o) (path.Own channel)
          ≡ original_number (with_object s name own_changed) (anim.Object o) (path.Own channel)
      by true is =
          other_number_still s name own_changed x e own_keeps o (path.Own channel)
          (another s name own_changed x e refl o (is_another x.id o (first_fails (same_object o x.id) (same_channel channel set) h is)))
      by false is = own_number_still s name own_changed x e own_keeps channel (channel_other x.own set channel value is) o
  own_original (variable.Property (anim.Object o) (path.Bone bone channel)) h =
      bone_number_still s name own_changed x e own_keeps bone channel refl o
  own_original (variable.Property (anim.Object o) (path.Layer layer axis)) h = no_number_still s name own_changed x e own_keeps o layer axis
  own_original (variable.Property (anim.Pencil p) q) h = pencil_number_still s name own_changed x e own_keeps p q
  own_original (variable.Transform object space channel) h = tt

  own_rest : (op : OpId) → (Contains (Local x.id ∷ []) op → ⊥) → (Contains (property_readers s (anim.Object x.id) (path.Own set)) op → ⊥)
      → Rest s name own_changed x e own_keeps op
  own_rest Time h r = tt
  own_rest (Animation id) h r = tt
  own_rest (Driver id target) h r =
      All-weaker (λ v. is_property (anim.Object x.id) (path.Own set) v ≡ false) (SameOriginal s name own_changed x e own_keeps) own_original
      (option_map_or (λ d. d.variables) (driver_of s id target) []) (unread s (anim.Object x.id) (path.Own set) id target r)
  own_rest (Local o) h r =
      ap (option_map (λ (q : Object). q.own)) (another s name own_changed x e refl o (λ same. h (0, omega arith, ap Local same)))
  own_rest (World o) h r = parent_still s name own_changed x e own_keeps refl o
  own_rest (PoseInit o) h r = tt
  own_rest (Bone o b) h r = bone_still s name own_changed x e own_keeps b refl o
  own_rest (PoseDone o) h r = tt
  own_rest (Layer p l) h r = tt
  own_rest (Geometry o) h r = tt
  own_rest (ModifierOp o i) h r = modifier_still s name own_changed x e own_keeps refl o i
  own_rest (GeometryDone o) h r = tt

-- what isn't touched by an original number of an object
pub agree_set_own : (s : SceneRecord) → IsTrue (is_scene s) → (object : List ℕ) (channel : Channel) (value : ℤ)
    → first_cause s (SetValue (named.Object object) (path.Own channel) value) ≡ None → (op : OpId) → Contains (operations s) op
    → Contains (operations (edited s (SetValue (named.Object object) (path.Own channel) value))) op
    → (Contains (touch s (SetValue (named.Object object) (path.Own channel) value)) op → ⊥)
    → ins s op ≡ ins (edited s (SetValue (named.Object object) (path.Own channel) value)) op
    → Agree s (edited s (SetValue (named.Object object) (path.Own channel) value)) op
agree_set_own s is object channel value accept op old new untouched links =
    let there = named_by s object (accepted s (SetValue (named.Object object) (path.Own channel) value) accept).id_is_known in
    let h = untouched_value s object (path.Own channel) value there.0 op there.1 untouched in
    agree_rest s object (own_changed s object channel value there.0 there.1) there.0 there.1
    (own_keeps s object channel value there.0 there.1) op
    (own_rest s object channel value there.0 there.1 op h.0 h.1)

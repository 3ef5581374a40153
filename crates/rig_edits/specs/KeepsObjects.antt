-- One object in the place of another: edits that set a value or the parent of an object leave a scene.
use Rattle.std.proofs.Common.{◌≡◌, ◌≢◌, ℕ, ◌<◌, false, List, map, length, Option, Some, None, refl, sym, ap, ◌∙◌, subst, arith}
use Rattle.std.specs.Prelude.{IsTrue, IfSome, ℤ, is_some, is_none, slice_get, slice_set, nat_lt, option_and_then, option_map}
use Rattle.std.specs.List.{find, list_any, position_or_len}
use Rattle.std.specs.Option.{option_map_or}
use Rattle.std.proofs.lemmas.Bool.{true≢false, or_parts}
use Rattle.std.proofs.lemmas.List.Elements.{All-weaker, All-set}
use Rattle.std.proofs.lemmas.Option.{IfSome_then}
use Rattle.rig_scene.specs.declared.armature.ArmatureData.{ArmatureData}
use Rattle.rig_scene.specs.declared.armature.RestBone.{RestBone}
use Rattle.rig_scene.specs.declared.channel.Channels.{Channels}
use Rattle.rig_scene.specs.declared.id.AnimId.{AnimId}
use Rattle.rig_scene.specs.declared.id.AnimId.TheVariants as anim
use Rattle.rig_scene.specs.declared.id.ObjectId.{ObjectId}
use Rattle.rig_scene.specs.declared.modifier.Modifier.{Modifier}
use Rattle.rig_scene.specs.declared.object.Kind.{Kind}
use Rattle.rig_scene.specs.declared.object.Kind.TheVariants.{Empty, Armature, Pencil}
use Rattle.rig_scene.specs.declared.object.Object.{Object}
use Rattle.rig_scene.specs.declared.path.Path.{Path}
use Rattle.rig_scene.specs.declared.path.Path.TheVariants.{Own, Bone, Layer}
use Rattle.rig_scene.specs.Channel.{with_channel}
use Rattle.rig_scene.specs.Facts.{HasBone, PencilFacts, ParentFacts, ArmatureKindFacts, PencilKindFacts, ObjectFacts, DriverFacts, SceneFacts}
use Rattle.rig_scene.specs.FactsHold.{scene_facts}
use Rattle.rig_scene.specs.FactsSuffice.{scene_from_facts}
use Rattle.rig_scene.specs.Id.{same_object}
use Rattle.rig_scene.specs.Scene.{SceneRecord, object_of, armature_of}
use Rattle.rig_scene.specs.Text.{same_text}
use Rattle.rig_scene.specs.WellFormed.{is_scene, has_object, bones_of, has_bone, has_bone_named, has_path, is_pencil_kind, pose_count}
use Rattle.rig_edits.specs.declared.edit.Edit.TheVariants.{SetValue, SetParent}
use Rattle.rig_edits.specs.declared.edit.IdName.TheVariants as named
use Rattle.rig_edits.specs.declared.edit.NewParent.{NewParent}
use Rattle.rig_edits.specs.Accepted.{accepted}
use Rattle.rig_edits.specs.Conditions.{first_cause, lacks_id, lacks_object, lacks_parent}
use Rattle.rig_edits.specs.Edited.{with_object, pose_changed, with_pose, parent_of, edited}
use Rattle.rig_edits.specs.Named.{object_named, bone_index, update_at}
use Rattle.rig_edits.specs.Lists.{some_of}
use Rattle.rig_edits.specs.NamedFacts.{named_facts, named_object, named_bone}
use Rattle.rig_edits.specs.Refers.{Refers, pencil_carried, parent_carried, facts_carried, driver_carried}
use Rattle.rig_edits.specs.Replaced.{at_first, first_replaced, length-updated_at, map-replaced, length-same, AllPairs-same, sum_by-same, count-same, find-of_map}

-- the index of the armature of a kind
abbrev pub armature_number : Kind → Option ℕ
armature_number Empty = None
armature_number (Armature armature pose) = Some armature
armature_number (Pencil pencil modifiers) = None

-- what the rest of a scene sees of an object is the same of two objects
pub record SameOutline (o p : Object) : Type 0 where
  pub id : p.id ≡ o.id
  pub name : p.name ≡ o.name
  pub armature : armature_number p.kind ≡ armature_number o.kind
  pub is_pencil : is_pencil_kind p.kind ≡ is_pencil_kind o.kind
  pub poses : pose_count p.kind ≡ pose_count o.kind

-- an object's id and the index of its armature, which tell its bones
abbrev outline : Object → ObjectId × Option ℕ
outline o = (o.id, armature_number o.kind)

-- the armature of a kind is the one of its index
bones_by_kind : (s : SceneRecord) (k : Kind) → armature_of s k ≡ option_and_then (slice_get s.armatures) (armature_number k)
bones_by_kind s Empty = refl
bones_by_kind s (Armature armature pose) = refl
bones_by_kind s (Pencil pencil modifiers) = refl

-- the bones that an outline tells
abbrev bones_told : SceneRecord → ObjectId × Option ℕ → Option (List RestBone)
bones_told s n = option_map (λ (a : ArmatureData). a.bones) (option_and_then (slice_get s.armatures) n.1)

bones_by_outline : (s : SceneRecord) (o : Option Object)
    → option_and_then (λ (o : Object). option_map (λ (a : ArmatureData). a.bones) (armature_of s o.kind)) o
    ≡ option_and_then (bones_told s) (option_map outline o)
bones_by_outline s None = refl
bones_by_outline s (Some o) = ap (option_map (λ (a : ArmatureData). a.bones)) (bones_by_kind s o.kind)

-- a function of what is there changes nothing of whether it is there
some-of_map : {A B : Type 0} (f : A → B) (o : Option A) → is_some (option_map f o) ≡ is_some o
some-of_map f None = refl
some-of_map f (Some x) = refl

-- ---- one object in the place of another

-- the scene with an object at an index
abbrev pub with_object_at : SceneRecord → ℕ → Object → SceneRecord
with_object_at s i p = record s { objects = slice_set s.objects i p }

module _ (s : SceneRecord) (i : ℕ) (o p : Object) (at : slice_get s.objects i ≡ Some o) (same : SameOutline o p) where
  -- the outlines are the same
  same_outlines : map outline (with_object_at s i p).objects ≡ map outline s.objects
  same_outlines = map-replaced outline s.objects i o p at (λ j. (same.id j, same.armature j))

  -- what an id finds has the same outline
  found : (id : ObjectId) → option_map outline (object_of (with_object_at s i p) id) ≡ option_map outline (object_of s id)
  found id =
      sym (find-of_map outline (λ (n : ObjectId × Option ℕ). same_object n.0 id) (with_object_at s i p).objects)
      ∙ ap (find (λ (n : ObjectId × Option ℕ). same_object n.0 id)) same_outlines
      ∙ find-of_map outline (λ (n : ObjectId × Option ℕ). same_object n.0 id) s.objects

  -- each test of what is named answers the same
  same_has_object : (id : ObjectId) → has_object (with_object_at s i p) id ≡ has_object s id
  same_has_object id = sym (some-of_map outline (object_of (with_object_at s i p) id)) ∙ ap is_some (found id) ∙ some-of_map outline (object_of s id)

  same_bones : (id : ObjectId) → bones_of (with_object_at s i p) id ≡ bones_of s id
  same_bones id =
      bones_by_outline (with_object_at s i p) (object_of (with_object_at s i p) id)
      ∙ ap (option_and_then (bones_told s)) (found id)
      ∙ sym (bones_by_outline s (object_of s id))

  same_has_bone : (id : ObjectId) (bone : ℕ) → has_bone (with_object_at s i p) id bone ≡ has_bone s id bone
  same_has_bone id bone = ap (λ bones. option_map_or (λ bones. nat_lt bone (length bones)) bones false) (same_bones id)

  same_has_bone_named : (id : ObjectId) (name : List ℕ) → has_bone_named (with_object_at s i p) id name ≡ has_bone_named s id name
  same_has_bone_named id name = ap (λ bones. option_map_or (λ bones. list_any (λ b. same_text b.name name) bones) bones false) (same_bones id)

  same_has_path : (id : AnimId) (path : Path) → has_path (with_object_at s i p) id path ≡ has_path s id path
  same_has_path (anim.Object id) (Own channel) = same_has_object id
  same_has_path (anim.Object id) (Bone name channel) = same_has_bone_named id name
  same_has_path (anim.Object id) (Layer name axis) = refl
  same_has_path (anim.Pencil n) (Own channel) = refl
  same_has_path (anim.Pencil n) (Bone name channel) = refl
  same_has_path (anim.Pencil n) (Layer name axis) = refl

  -- all that is named is there still
  pub replaced_refers : Refers s (with_object_at s i p)
  replaced_refers = record {
    actions = omega arith;
    armatures = λ i a e. e;
    pencils = omega arith;
    next = omega arith;
    objects = λ id is. same_has_object id ∙ is;
    bones = λ id bone is. same_has_bone id bone ∙ is;
    paths = λ id path is. same_has_path id path ∙ is;
  }

  -- the scene with the object replaced has its facts, where the new object has them
  pub object_replaced : SceneFacts s → ObjectFacts (with_object_at s i p) p → SceneFacts (with_object_at s i p)
  object_replaced f new = record {
    actions = record {
      count = f.actions.count;
      curves = f.actions.curves;
      keys = f.actions.keys;
      names_distinct = f.actions.names_distinct;
      each = f.actions.each;
    };
    armatures = record {
      count = f.armatures.count;
      names_distinct = f.armatures.names_distinct;
      each = f.armatures.each;
    };
    pencils = record {
      count = f.pencils.count;
      drawings = f.pencils.drawings;
      points = f.pencils.points;
      layer_keys = f.pencils.layer_keys;
      names_distinct = f.pencils.names_distinct;
      each = All-weaker (PencilFacts s) (PencilFacts (with_object_at s i p)) (pencil_carried s (with_object_at s i p) replaced_refers) s.pencils f.pencils.each;
    };
    objects = record {
      count = omega (arith, f.objects.count, length-same (λ (o : Object). o.id) s.objects (with_object_at s i p).objects same_ids);
      pencil_objects = omega (
        arith,
        f.objects.pencil_objects,
        count-same (λ (o : Object). is_pencil_kind o.kind) s.objects (with_object_at s i p).objects
            (map-replaced (λ (o : Object). is_pencil_kind o.kind) s.objects i o p at same.is_pencil),
      );
      pose_bones = omega (
        arith,
        f.objects.pose_bones,
        sum_by-same (λ (o : Object). pose_count o.kind) s.objects (with_object_at s i p).objects
            (map-replaced (λ (o : Object). pose_count o.kind) s.objects i o p at same.poses),
      );
      names_distinct = AllPairs-same (λ (o : Object). o.name) s.objects (with_object_at s i p).objects
          (map-replaced (λ (o : Object). o.name) s.objects i o p at same.name) (λ m n. m ≢ n) f.objects.names_distinct;
      ids_rise = AllPairs-same (λ (o : Object). o.id) s.objects (with_object_at s i p).objects same_ids (λ a b. a.0 < b.0) f.objects.ids_rise;
      each = All-set (ObjectFacts (with_object_at s i p)) s.objects i p new
          (All-weaker (ObjectFacts s) (ObjectFacts (with_object_at s i p)) (facts_carried s (with_object_at s i p) replaced_refers) s.objects f.objects.each);
    };
    drivers = record {
      count = f.drivers.count;
      targets_distinct = f.drivers.targets_distinct;
      each = All-weaker (DriverFacts s) (DriverFacts (with_object_at s i p)) (driver_carried s (with_object_at s i p) replaced_refers) s.drivers f.drivers.each;
    };
  }
    where
      same_ids : map (λ (o : Object). o.id) (with_object_at s i p).objects ≡ map (λ (o : Object). o.id) s.objects
      same_ids = map-replaced (λ (o : Object). o.id) s.objects i o p at same.id

-- the object of a name changed, where what the scene sees of it stays and the new one has its facts
pub named_changed : (s : SceneRecord) (name : List ℕ) (change : Object → Object) (o : Object) → object_named s name ≡ Some o → SameOutline o (change o)
    → ((t : SceneRecord) → Refers s t → ObjectFacts s o → ObjectFacts t (change o)) → IsTrue (is_scene s) → IsTrue (is_scene (with_object s name change))
named_changed s name change o e same facts is =
    let test = λ (o : Object). same_text o.name name in
    let i = position_or_len test s.objects in
    let at = at_first test change s.objects o e in
    let f = scene_facts s is in
    subst (λ objects. IsTrue (is_scene (record s { objects = objects }))) (sym (first_replaced test change s.objects o e))
    (scene_from_facts (with_object_at s i (change o)) (object_replaced s i o (change o) at same f
    (facts (with_object_at s i (change o)) (replaced_refers s i o (change o) at same) (named_facts s f name o e))))

-- ---- an object's own channels

-- other numbers of an object leave a scene
own_changed : (s : SceneRecord) (name : List ℕ) (change : Channels → Channels) (o : Object) → object_named s name ≡ Some o → IsTrue (is_scene s)
    → IsTrue (is_scene (with_object s name (λ o. record o { own = change o.own })))
own_changed s name change o e is =
    named_changed s name (λ o. record o { own = change o.own }) o e
    (record { id = refl; name = refl; armature = refl; is_pencil = refl; poses = refl })
    (λ t refers f. let g = facts_carried s t refers o f in record {
      id_below_next = g.id_below_next;
      action_is_there = g.action_is_there;
      parent_is_there = g.parent_is_there;
      armature = g.armature;
      pencil = g.pencil;
    }) is

-- ---- the pose of a bone

-- a pose keeps its length
length-pose : (change : Channels → Channels) (pose : List Channels) (found : Option ℕ)
    → length (option_map_or (λ i. update_at change i pose) found pose) ≡ length pose
length-pose change pose None = refl
length-pose change pose (Some i) = length-updated_at change i pose

-- what a scene sees of an object doesn't depend on its poses
pose_outline : (s : SceneRecord) (bone : List ℕ) (change : Channels → Channels) (o : Object)
    → SameOutline o (record o { kind = pose_changed s bone change o.kind })
pose_outline s bone change o = record { id = refl; name = refl; armature = armature o.kind; is_pencil = is_pencil o.kind; poses = poses o.kind }
  where
    armature : (k : Kind) → armature_number (pose_changed s bone change k) ≡ armature_number k
    armature Empty = refl
    armature (Armature index pose) = refl
    armature (Pencil index modifiers) = refl

    is_pencil : (k : Kind) → is_pencil_kind (pose_changed s bone change k) ≡ is_pencil_kind k
    is_pencil Empty = refl
    is_pencil (Armature index pose) = refl
    is_pencil (Pencil index modifiers) = refl

    poses : (k : Kind) → pose_count (pose_changed s bone change k) ≡ pose_count k
    poses Empty = refl
    poses (Armature index pose) = length-pose change pose (bone_index s (Armature index pose) bone)
    poses (Pencil index modifiers) = refl

-- the pose keeps its length, so it has one for each bone still
pose_kind : (s t : SceneRecord) (bone : List ℕ) (change : Channels → Channels) (k : Kind)
    → ((index : ℕ) (pose : List Channels) → k ≡ Armature index pose → ArmatureKindFacts t index pose)
    → (index : ℕ) (pose : List Channels) → pose_changed s bone change k ≡ Armature index pose → ArmatureKindFacts t index pose
pose_kind s t bone change Empty f index pose e = cc
pose_kind s t bone change (Armature armature old) f index pose e =
    let g = f armature old refl in
    let same_index : armature ≡ index = cc in
    let new_pose : option_map_or (λ i. update_at change i old) (bone_index s (Armature armature old) bone) old ≡ pose = cc in
    record {
      armature = g.armature;
      is_armature = ap (slice_get t.armatures) (sym same_index) ∙ g.is_armature;
      poses = ap length (sym new_pose) ∙ length-pose change old (bone_index s (Armature armature old) bone) ∙ g.poses;
    }
pose_kind s t bone change (Pencil index modifiers) f n pose e = cc

-- a pencil object has its stack still
pose_stack : (s t : SceneRecord) (bone : List ℕ) (change : Channels → Channels) (k : Kind)
    → ((index : ℕ) (modifiers : List Modifier) → k ≡ Pencil index modifiers → PencilKindFacts t index modifiers)
    → (index : ℕ) (modifiers : List Modifier) → pose_changed s bone change k ≡ Pencil index modifiers → PencilKindFacts t index modifiers
pose_stack s t bone change Empty f index modifiers e = f index modifiers e
pose_stack s t bone change (Armature armature old) f index modifiers e = cc
pose_stack s t bone change (Pencil n old) f index modifiers e = f index modifiers e

-- other numbers of a bone's pose leave a scene
bone_changed : (s : SceneRecord) (name bone : List ℕ) (change : Channels → Channels) (o : Object) → object_named s name ≡ Some o → IsTrue (is_scene s)
    → IsTrue (is_scene (with_pose s name bone change))
bone_changed s name bone change o e is =
    named_changed s name (λ o. record o { kind = pose_changed s bone change o.kind }) o e (pose_outline s bone change o)
    (λ t refers f. let g = facts_carried s t refers o f in record {
      id_below_next = g.id_below_next;
      action_is_there = g.action_is_there;
      parent_is_there = g.parent_is_there;
      armature = pose_kind s t bone change o.kind g.armature;
      pencil = pose_stack s t bone change o.kind g.pencil;
    }) is

-- ---- the number of a channel of an object

-- an id of an object that is known has an object
known_id_object : (s : SceneRecord) (name : List ℕ) → lacks_id s (named.Object name) ≡ false → (o : Object) × (object_named s name ≡ Some o)
known_id_object s name e = go (object_named s name) e
  where
    go : (r : Option Object) → is_none (option_map (λ (o : Object). anim.Object o.id) r) ≡ false → (o : Object) × (r ≡ Some o)
    go None e = absurd (true≢false e)
    go (Some o) e = (o, refl)

-- a number that is set leaves a scene
pub keeps_set_value_of_object : (s : SceneRecord) (name : List ℕ) (path : Path) (value : ℤ) → IsTrue (is_scene s)
    → first_cause s (SetValue (named.Object name) path value) ≡ None → IsTrue (is_scene (edited s (SetValue (named.Object name) path value)))
keeps_set_value_of_object s name (Own channel) value is none =
    let there = known_id_object s name (accepted s (SetValue (named.Object name) (Own channel) value) none).id_is_known in
    own_changed s name (λ own. with_channel own channel value) there.0 there.1 is
keeps_set_value_of_object s name (Bone bone channel) value is none =
    let there = known_id_object s name (accepted s (SetValue (named.Object name) (Bone bone channel) value) none).id_is_known in
    bone_changed s name bone (λ pose. with_channel pose channel value) there.0 there.1 is
keeps_set_value_of_object s name (Layer layer axis) value is none = is

-- ---- what carries an object

-- an object that isn't lacking is there
pub known_object : (s : SceneRecord) (name : List ℕ) → lacks_object s name ≡ false → (o : Object) × (object_named s name ≡ Some o)
known_object s name e = some_of (object_named s name) e

-- the parent of a name is there, and so is its bone of a name
new_parent : (s : SceneRecord) (f : SceneFacts s) (parent : NewParent) → IfSome (parent_of s parent) (ParentFacts s)
new_parent s f parent = go (object_named s parent.object) refl
  where
    bone_of : (o : Object) → object_named s parent.object ≡ Some o → (bone : Option (List ℕ))
        → IfSome (option_and_then (bone_index s o.kind) bone) (HasBone s o.id)
    bone_of o e None = tt
    bone_of o e (Some bone) = found (bone_index s o.kind bone) refl
      where
        found : (r : Option ℕ) → bone_index s o.kind bone ≡ r → IfSome r (HasBone s o.id)
        found None k = tt
        found (Some i) k = named_bone s f parent.object bone o i e k

    go : (r : Option Object) → object_named s parent.object ≡ r
        → IfSome (option_map (λ (o : Object). record { object = o.id; bone = option_and_then (bone_index s o.kind) parent.bone }) r) (ParentFacts s)
    go None e = tt
    go (Some o) e = record { object_is_there = named_object s f parent.object o e; bone_is_there = bone_of o e parent.bone }

-- where one is given
new_parents : (s : SceneRecord) (f : SceneFacts s) (parent : Option NewParent) → IfSome (option_and_then (parent_of s) parent) (ParentFacts s)
new_parents s f None = tt
new_parents s f (Some parent) = new_parent s f parent

-- a parent that is set leaves a scene
pub keeps_set_parent : (s : SceneRecord) (object : List ℕ) (parent : Option NewParent) → IsTrue (is_scene s)
    → first_cause s (SetParent object parent) ≡ None → IsTrue (is_scene (edited s (SetParent object parent)))
keeps_set_parent s object parent is none =
    let known_ids = or_parts (lacks_object s object) (lacks_parent s parent) (accepted s (SetParent object parent) none).id_is_known in
    let there = known_object s object known_ids.0 in
    named_changed s object (λ o. record o { parent = option_and_then (parent_of s) parent }) there.0 there.1
    (record { id = refl; name = refl; armature = refl; is_pencil = refl; poses = refl })
    (λ t refers f. let g = facts_carried s t refers there.0 f in record {
      id_below_next = g.id_below_next;
      action_is_there = g.action_is_there;
      parent_is_there = IfSome_then (option_and_then (parent_of s) parent) (new_parents s (scene_facts s is) parent) (parent_carried s t refers);
      armature = g.armature;
      pencil = g.pencil;
    }) is

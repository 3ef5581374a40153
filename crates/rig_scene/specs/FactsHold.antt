-- A scene keeps each of its promises: what the one test of a whole scene says, record by record.
use Rattle.std.proofs.Common.{◌≡◌, ℕ, ◌+◌, ◌<◌, ◌≤◌, Bool, true, false, ◌&&◌, List, [], ◌∷◌, length, Option, Some, None, refl, sym, ap, ◌∙◌, subst, arith}
use Rattle.std.specs.Prelude.{◌==◌, IsTrue, IfSome, is_some, slice_get, nat_lt, int_le, pos, option_and_then, option_map}
use Rattle.std.specs.List.{All, list_all, enumerate_from}
use Rattle.std.specs.Option.{option_map_or}
use Rattle.std.proofs.lemmas.Bool.{and_parts, and_from, lt-ltb, ltb-true, leb-true, eqb-true, false≢true, false_from_ne_true}
use Rattle.std.proofs.lemmas.List.Elements.{All-weaker, All-cons, All-nil}
use Rattle.rig_scene.specs.declared.action.Action.{Action}
use Rattle.rig_scene.specs.declared.action.Curve.{Curve}
use Rattle.rig_scene.specs.declared.armature.ArmatureData.{ArmatureData}
use Rattle.rig_scene.specs.declared.armature.RestBone.{RestBone}
use Rattle.rig_scene.specs.declared.channel.Channels.{Channels}
use Rattle.rig_scene.specs.declared.id.ObjectId.{ObjectId}
use Rattle.rig_scene.specs.declared.driver.Driver.{Driver}
use Rattle.rig_scene.specs.declared.modifier.Effect.{Effect}
use Rattle.rig_scene.specs.declared.modifier.Effect.TheVariants.{Offset, Mirror, Array}
use Rattle.rig_scene.specs.declared.modifier.Modifier.{Modifier}
use Rattle.rig_scene.specs.declared.object.Kind.{Kind}
use Rattle.rig_scene.specs.declared.object.Kind.TheVariants.{Empty, Armature, Pencil}
use Rattle.rig_scene.specs.declared.object.Object.{Object}
use Rattle.rig_scene.specs.declared.object.Parent.{Parent}
use Rattle.rig_scene.specs.declared.pencil.Layer.{Layer}
use Rattle.rig_scene.specs.declared.pencil.LayerKey.{LayerKey}
use Rattle.rig_scene.specs.declared.pencil.PencilData.{PencilData}
use Rattle.rig_scene.specs.Path.{same_path}
use Rattle.rig_scene.specs.Text.{same_text}
use Rattle.rig_scene.specs.Scene.{SceneRecord, object_of, armature_of}
use Rattle.rig_scene.specs.WellFormed.{is_frame, is_below, are_keys, is_action, are_actions, are_bones_from, is_armature, are_armatures, is_drawing, are_layer_keys, is_pencil, are_pencils, has_object, has_bone, is_bound, are_bound, is_parent, is_effect, is_kind, is_object, are_objects, same_target, is_driver, are_drivers, is_scene}
use Rattle.rig_scene.specs.Id.{same_id}
use Rattle.rig_scene.specs.Parts.{three_parts, four_parts, five_parts, six_parts}
use Rattle.rig_scene.specs.Pairs.{all_pass, none_twice_by, pairs_from_distinct, pairs_from_rising, AllPairs-weaker}
use Rattle.rig_scene.specs.Same.{same_text-itself, same_path-itself, same_id-itself}
use Rattle.rig_scene.specs.Facts.{CurveFacts, ActionFacts, ActionsFacts, have_earlier_parents, ArmatureFacts, ArmaturesFacts, HasObject, HasBone, LayerFacts, PencilFacts, PencilsFacts, ParentFacts, ArmatureKindFacts, EffectFacts, PencilKindFacts, ObjectFacts, ObjectsFacts, DriverFacts, DriversFacts, SceneFacts}

-- ---- options and lists

some_is : {A : Type 0} (o : Option A) → is_some o ≡ true → (x : A) × (o ≡ Some x)
some_is None e = absurd (false≢true e)
some_is (Some x) e = (x, refl)

if_some : {A : Type 0} (p : A → Bool) (P : A → Type 0) → ((x : A) → IsTrue (p x) → P x) → (o : Option A) → IsTrue (option_map_or p o true) → IfSome o P
if_some p P h None is = tt
if_some p P h (Some x) is = h x is

below : (count : ℕ) (o : Option ℕ) → IsTrue (is_below count o) → IfSome o (λ n. n < count)
below count o is = if_some (λ n. nat_lt n count) (λ n. n < count) (λ n e. ltb-true n count e) o is

each : {A : Type 0} (p : A → Bool) (P : A → Type 0) → ((x : A) → IsTrue (p x) → P x) → (xs : List A) → IsTrue (list_all p xs) → All P xs
each p P h xs is = All-weaker (λ x. IsTrue (p x)) P h xs (all_pass p xs is)

-- ---- actions

pub curve_facts : (c : Curve) → IsTrue (are_keys c.keys) → CurveFacts c
curve_facts c is =
    let parts = and_parts _ _ is in
    record { frames_in_range = all_pass (λ k. is_frame k.frame) c.keys parts.0; frames_rise = parts.1 }

pub action_facts : (a : Action) → IsTrue (is_action a) → ActionFacts a
action_facts a is =
    let parts = and_parts _ _ is in
    record {
      paths_distinct = none_twice_by same_path (λ (c : Curve). c.path) same_path-itself a.curves parts.0;
      curves = each (λ (c : Curve). are_keys c.keys) CurveFacts curve_facts a.curves parts.1;
    }

actions_facts : (s : SceneRecord) → IsTrue (are_actions s.actions) → ActionsFacts s
actions_facts s is =
    let parts = five_parts _ _ _ _ _ is in
    record {
      count = leb-true _ _ parts.0;
      curves = leb-true _ _ parts.1;
      keys = leb-true _ _ parts.2;
      names_distinct = none_twice_by same_text (λ (a : Action). a.name) same_text-itself s.actions parts.3;
      each = each is_action ActionFacts action_facts s.actions parts.4;
    }

-- ---- armatures

earlier_from : (first : ℕ) (bones : List RestBone) → IsTrue (are_bones_from first bones) → IsTrue (list_all (λ (index, bone). is_below index bone.parent) (enumerate_from first bones))
earlier_from first [] is = refl
earlier_from first (bone ∷ bones) is =
    let parts = three_parts _ _ _ is in
    and_from _ _ parts.0 (earlier_from (first + 1) bones parts.2)

scales_from : (first : ℕ) (bones : List RestBone) → IsTrue (are_bones_from first bones) → All (λ b. IsTrue (int_le (pos 1) b.rest.scale)) bones
scales_from first [] is = All-nil (λ b. IsTrue (int_le (pos 1) b.rest.scale))
scales_from first (bone ∷ bones) is =
    let parts = three_parts _ _ _ is in
    All-cons (λ b. IsTrue (int_le (pos 1) b.rest.scale)) bone bones parts.1 (scales_from (first + 1) bones parts.2)

pub armature_facts : (a : ArmatureData) → IsTrue (is_armature a) → ArmatureFacts a
armature_facts a is =
    let parts = three_parts _ _ _ is in
    record {
      count = leb-true _ _ parts.0;
      names_distinct = none_twice_by same_text (λ (b : RestBone). b.name) same_text-itself a.bones parts.1;
      earlier_parents = earlier_from 0 a.bones parts.2;
      scales = scales_from 0 a.bones parts.2;
    }

-- the bones of an armature that meets its conditions have earlier bones as parents
pub armatures_have_earlier_parents : (a : ArmatureData) → IsTrue (is_armature a) → IsTrue (have_earlier_parents a.bones)
armatures_have_earlier_parents a is = (armature_facts a is).earlier_parents

armatures_facts : (s : SceneRecord) → IsTrue (are_armatures s.armatures) → ArmaturesFacts s
armatures_facts s is =
    let parts = three_parts _ _ _ is in
    record {
      count = leb-true _ _ parts.0;
      names_distinct = none_twice_by same_text (λ (a : ArmatureData). a.name) same_text-itself s.armatures parts.1;
      each = each is_armature ArmatureFacts armature_facts s.armatures parts.2;
    }

-- ---- what names an object, or a bone of one

pub object_is_there : (s : SceneRecord) (id : ObjectId) → IsTrue (has_object s id) → HasObject s id
object_is_there s id is =
    let found = some_is (object_of s id) is in
    record { object = found.0; is_object = found.1 }

module _ (s : SceneRecord) (id : ObjectId) (bone : ℕ) where
  bone_of_armature : (o : Object) → object_of s id ≡ Some o → (index : ℕ) (pose : List Channels) → o.kind ≡ Armature index pose → (r : Option ArmatureData) → slice_get s.armatures index ≡ r → IsTrue (option_map_or (λ bones. nat_lt bone (length bones)) (option_map (λ (a : ArmatureData). a.bones) r) false) → HasBone s id bone
  bone_of_armature o e index pose k None f is = absurd (false≢true is)
  bone_of_armature o e index pose k (Some a) f is =
      record { object = o; is_object = e; index = index; pose = pose; is_kind = k; armature = a; is_armature = f; bone_is_there = ltb-true _ _ is }

  bone_of_kind : (o : Object) → object_of s id ≡ Some o → (kind : Kind) → o.kind ≡ kind → IsTrue (option_map_or (λ bones. nat_lt bone (length bones)) (option_map (λ (a : ArmatureData). a.bones) (armature_of s kind)) false) → HasBone s id bone
  bone_of_kind o e Empty k is = absurd (false≢true is)
  bone_of_kind o e (Armature index pose) k is = bone_of_armature o e index pose k (slice_get s.armatures index) refl is
  bone_of_kind o e (Pencil index modifiers) k is = absurd (false≢true is)

  bone_of_object : (r : Option Object) → object_of s id ≡ r → IsTrue (option_map_or (λ bones. nat_lt bone (length bones)) (option_and_then (λ (o : Object). option_map (λ (a : ArmatureData). a.bones) (armature_of s o.kind)) r) false) → HasBone s id bone
  bone_of_object None e is = absurd (false≢true is)
  bone_of_object (Some o) e is = bone_of_kind o e o.kind refl is

  pub bone_is_there : IsTrue (has_bone s id bone) → HasBone s id bone
  bone_is_there is = bone_of_object (object_of s id) refl is

-- ---- pencils

layer_facts : (s : SceneRecord) (p : PencilData) (l : Layer) → IsTrue (are_layer_keys (length p.drawings) l.keys) → IsTrue (is_bound s l.bound) → LayerFacts s p l
layer_facts s p l is bound =
    let parts = and_parts _ _ is in
    record {
      frames_in_range = each (λ (k : LayerKey). is_frame k.frame && nat_lt k.drawing (length p.drawings)) (λ k. IsTrue (is_frame k.frame)) (λ k h. (and_parts _ _ h).0) l.keys parts.0;
      frames_rise = parts.1;
      drawings_are_there = each (λ (k : LayerKey). is_frame k.frame && nat_lt k.drawing (length p.drawings)) (λ k. k.drawing < length p.drawings) (λ k h. ltb-true _ _ (and_parts _ _ h).1) l.keys parts.0;
      bound_bone_is_there = if_some (λ b. has_bone s b.object b.bone) (λ b. HasBone s b.object b.bone) (λ b h. bone_is_there s b.object b.bone h) l.bound bound;
    }

layers_facts : (s : SceneRecord) (p : PencilData) (layers : List Layer) → IsTrue (list_all (λ l. are_layer_keys (length p.drawings) l.keys) layers) → IsTrue (list_all (λ l. is_bound s l.bound) layers) → All (LayerFacts s p) layers
layers_facts s p [] is bound = All-nil (LayerFacts s p)
layers_facts s p (l ∷ layers) is bound =
    let here = and_parts _ _ is in
    let there = and_parts _ _ bound in
    All-cons (LayerFacts s p) l layers (layer_facts s p l here.0 there.0) (layers_facts s p layers here.1 there.1)

pencil_facts : (s : SceneRecord) (p : PencilData) → IsTrue (is_pencil (length s.actions) p) → IsTrue (list_all (λ l. is_bound s l.bound) p.layers) → PencilFacts s p
pencil_facts s p is bound =
    let parts = five_parts _ _ _ _ _ is in
    record {
      action_is_there = below (length s.actions) p.action parts.0;
      strokes_have_points = each is_drawing (λ d. All (λ k. 0 < length k.points) d.strokes) (λ d h. each (λ k. nat_lt 0 (length k.points)) (λ k. 0 < length k.points) (λ k e. ltb-true _ _ e) d.strokes h) p.drawings parts.1;
      count = leb-true _ _ parts.2;
      names_distinct = none_twice_by same_text (λ (l : Layer). l.name) same_text-itself p.layers parts.3;
      layers = layers_facts s p p.layers parts.4 bound;
    }

each_pencil : (s : SceneRecord) (pencils : List PencilData) → IsTrue (list_all (is_pencil (length s.actions)) pencils) → IsTrue (list_all (λ p. list_all (λ l. is_bound s l.bound) p.layers) pencils) → All (PencilFacts s) pencils
each_pencil s [] is bound = All-nil (PencilFacts s)
each_pencil s (p ∷ pencils) is bound =
    let here = and_parts _ _ is in
    let there = and_parts _ _ bound in
    All-cons (PencilFacts s) p pencils (pencil_facts s p here.0 there.0) (each_pencil s pencils here.1 there.1)

pencils_facts : (s : SceneRecord) → IsTrue (are_pencils (length s.actions) s.pencils) → IsTrue (are_bound s) → PencilsFacts s
pencils_facts s is bound =
    let parts = six_parts _ _ _ _ _ _ is in
    record {
      count = leb-true _ _ parts.0;
      drawings = leb-true _ _ parts.1;
      points = leb-true _ _ parts.2;
      layer_keys = leb-true _ _ parts.3;
      names_distinct = none_twice_by same_text (λ (p : PencilData). p.name) same_text-itself s.pencils parts.4;
      each = each_pencil s s.pencils parts.5 bound;
    }

-- ---- objects

parent_facts : (s : SceneRecord) (parent : Parent) → IsTrue (is_parent s parent) → ParentFacts s parent
parent_facts s parent is =
    let parts = and_parts _ _ is in
    record {
      object_is_there = object_is_there s parent.object parts.0;
      bone_is_there = if_some (has_bone s parent.object) (HasBone s parent.object) (bone_is_there s parent.object) parent.bone parts.1;
    }

effect_facts : (s : SceneRecord) (e : Effect) → IsTrue (is_effect s e) → EffectFacts s e
effect_facts s (Offset loc scale) is = tt
effect_facts s (Mirror mirror) is = if_some (has_object s) (HasObject s) (object_is_there s) mirror.centre is
effect_facts s (Array count offset) is = let parts = and_parts _ _ is in (leb-true _ _ parts.0, leb-true _ _ parts.1)

armature_kind : (s : SceneRecord) (index : ℕ) (pose : List Channels) (r : Option ArmatureData) → slice_get s.armatures index ≡ r → IsTrue (option_map_or (λ a. length pose == length a.bones) r false) → ArmatureKindFacts s index pose
armature_kind s index pose None e is = absurd (false≢true is)
armature_kind s index pose (Some a) e is = record { armature = a; is_armature = e; poses = eqb-true _ _ is }

pencil_kind : (s : SceneRecord) (index : ℕ) (modifiers : List Modifier) → IsTrue (is_kind s (Pencil index modifiers)) → PencilKindFacts s index modifiers
pencil_kind s index modifiers is =
    let parts = four_parts _ _ _ _ is in
    record {
      pencil_is_there = ltb-true _ _ parts.0;
      count = leb-true _ _ parts.1;
      names_distinct = none_twice_by same_text (λ (m : Modifier). m.name) same_text-itself modifiers parts.2;
      effects = each (λ (m : Modifier). is_effect s m.effect) (λ m. EffectFacts s m.effect) (λ m h. effect_facts s m.effect h) modifiers parts.3;
    }

pub object_facts : (s : SceneRecord) (o : Object) → IsTrue (is_object s o) → ObjectFacts s o
object_facts s o is =
    let parts = four_parts _ _ _ _ is in
    record {
      id_below_next = ltb-true _ _ parts.0;
      action_is_there = below (length s.actions) o.action parts.1;
      parent_is_there = if_some (is_parent s) (ParentFacts s) (parent_facts s) o.parent parts.2;
      armature = λ index pose e. armature_kind s index pose (slice_get s.armatures index) refl (subst (λ k. IsTrue (is_kind s k)) e parts.3);
      pencil = λ index modifiers e. pencil_kind s index modifiers (subst (λ k. IsTrue (is_kind s k)) e parts.3);
    }

objects_facts : (s : SceneRecord) → IsTrue (are_objects s) → ObjectsFacts s
objects_facts s is =
    let parts = six_parts _ _ _ _ _ _ is in
    record {
      count = leb-true _ _ parts.0;
      pencil_objects = leb-true _ _ parts.1;
      pose_bones = leb-true _ _ parts.2;
      names_distinct = none_twice_by same_text (λ (o : Object). o.name) same_text-itself s.objects parts.3;
      ids_rise = AllPairs-weaker (λ o p. IsTrue (nat_lt o.id.0 p.id.0)) (λ o p. o.id.0 < p.id.0) (λ o p h. ltb-true _ _ h) s.objects
          (pairs_from_rising (λ (o p : Object). nat_lt o.id.0 p.id.0) (λ x y z h k. through x.id.0 y.id.0 z.id.0 h k) s.objects parts.4);
      each = each (is_object s) (ObjectFacts s) (object_facts s) s.objects parts.5;
    }
  where
    through : (x y z : ℕ) → IsTrue (nat_lt x y) → IsTrue (nat_lt y z) → IsTrue (nat_lt x z)
    through x y z h k = lt-ltb x z (omega (arith, ltb-true x y h, ltb-true y z k))

-- ---- drivers

driver_facts : (s : SceneRecord) (d : Driver) → IsTrue (is_driver s d) → DriverFacts s d
driver_facts s d is =
    let parts = four_parts _ _ _ _ is in
    record {
      path_is_there = parts.0;
      has_variables = leb-true _ _ parts.1;
      count = leb-true _ _ parts.2;
      variables_are_there = all_pass _ d.variables parts.3;
    }

other_target : (d e : Driver) → same_target e d ≡ false → (d.id ≡ e.id) × (d.path ≡ e.path) → ⊥
other_target d e differs eq = false≢true (sym differs ∙ ap (λ i. same_id e.id i && same_path e.path d.path) eq.0 ∙ ap (λ p. same_id e.id e.id && same_path e.path p) eq.1 ∙ and_from _ _ (same_id-itself e.id) (same_path-itself e.path))

drivers_facts : (s : SceneRecord) → IsTrue (are_drivers s) → DriversFacts s
drivers_facts s is =
    let parts = three_parts _ _ _ is in
    record {
      count = leb-true _ _ parts.0;
      targets_distinct = AllPairs-weaker (λ d e. same_target e d ≡ false) (λ d e. ¬ ((d.id ≡ e.id) × (d.path ≡ e.path))) other_target s.drivers (pairs_from_distinct same_target s.drivers parts.1);
      each = each (is_driver s) (DriverFacts s) (driver_facts s) s.drivers parts.2;
    }

-- ---- the whole

pub scene_facts : (s : SceneRecord) → IsTrue (is_scene s) → SceneFacts s
unfolding is_scene
scene_facts s is =
    let parts = six_parts _ _ _ _ _ _ is in
    record {
      actions = actions_facts s parts.0;
      armatures = armatures_facts s parts.1;
      pencils = pencils_facts s parts.2 parts.3;
      objects = objects_facts s parts.4;
      drivers = drivers_facts s parts.5;
    }

-- what has more than a scene may have is none
pub above_limit : (s : SceneRecord) (count limit : ℕ) → (SceneFacts s → count ≤ limit) → limit < count → is_scene s ≡ false
above_limit s count limit within above = false_from_ne_true (is_scene s) (λ is. beyond (within (scene_facts s is)))
  where
    beyond : count ≤ limit → ⊥
    beyond l = omega arith

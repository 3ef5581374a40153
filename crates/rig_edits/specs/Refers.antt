-- What the records of one scene name is there in another too, so what they promise holds there.
use Rattle.std.proofs.Common.{◌≡◌, ℕ, ◌<◌, ◌≤◌, false, List, length, Option, Some, ap, ◌∙◌, arith, Bool, refl}
use Rattle.std.specs.Prelude.{IsTrue, IfSome, is_some, slice_get, nat_lt, option_and_then, option_map}
use Rattle.std.specs.List.{All, list_any}
use Rattle.std.specs.Option.{option_map_or}
use Rattle.std.proofs.lemmas.Bool.{lt-ltb}
use Rattle.std.proofs.lemmas.List.Elements.{All-weaker}
use Rattle.std.proofs.lemmas.Option.{IfSome_then}
use Rattle.rig_scene.specs.declared.armature.ArmatureData.{ArmatureData}
use Rattle.rig_scene.specs.declared.channel.Channels.{Channels}
use Rattle.rig_scene.specs.declared.driver.Driver.{Driver}
use Rattle.rig_scene.specs.declared.driver.Variable.{Variable}
use Rattle.rig_scene.specs.declared.id.AnimId.{AnimId}
use Rattle.rig_scene.specs.declared.id.ObjectId.{ObjectId}
use Rattle.rig_scene.specs.declared.modifier.Effect.{Effect}
use Rattle.rig_scene.specs.declared.modifier.Effect.TheVariants.{Offset, Mirror, Array}
use Rattle.rig_scene.specs.declared.modifier.Modifier.{Modifier}
use Rattle.rig_scene.specs.declared.object.Object.{Object}
use Rattle.rig_scene.specs.declared.object.Parent.{Parent}
use Rattle.rig_scene.specs.declared.path.Path.{Path}
use Rattle.rig_scene.specs.declared.pencil.Layer.{Layer as LayerRecord}
use Rattle.rig_scene.specs.declared.pencil.PencilData.{PencilData}
use Rattle.rig_scene.specs.Facts.{HasObject, HasBone, LayerFacts, PencilFacts, ParentFacts, ArmatureKindFacts, EffectFacts, PencilKindFacts, ObjectFacts, DriverFacts, ActionsFacts, PencilsFacts, SceneFacts}
use Rattle.rig_scene.specs.FactsHold.{object_is_there, bone_is_there}
use Rattle.rig_scene.specs.Scene.{SceneRecord, armature_of}
use Rattle.rig_scene.specs.WellFormed.{has_object, bones_of, has_bone, has_path, is_variable}
use Rattle.rig_scene.specs.declared.action.Action.{Action}
use Rattle.rig_scene.specs.declared.path.Path.TheVariants.{Own, Bone, Layer}
use Rattle.rig_scene.specs.Text.{same_text}
use Rattle.rig_scene.specs.declared.driver.Space.TheVariants as space
use Rattle.rig_scene.specs.declared.driver.Variable.TheVariants as variable
use Rattle.rig_scene.specs.declared.id.AnimId.TheVariants as anim

-- what names, ids and indices refer to in one scene is there in another
pub record Refers (s t : SceneRecord) : Type 0 where
  pub actions : length s.actions ≤ length t.actions
  pub armatures : (i : ℕ) (a : ArmatureData) → slice_get s.armatures i ≡ Some a → slice_get t.armatures i ≡ Some a
  pub pencils : length s.pencils ≤ length t.pencils
  pub next : s.next ≤ t.next
  pub objects : (id : ObjectId) → IsTrue (has_object s id) → IsTrue (has_object t id)
  pub bones : (id : ObjectId) (bone : ℕ) → IsTrue (has_bone s id bone) → IsTrue (has_bone t id bone)
  pub paths : (id : AnimId) (path : Path) → IsTrue (has_path s id path) → IsTrue (has_path t id path)

-- ---- facts and tests

pub object_has : (s : SceneRecord) (id : ObjectId) → HasObject s id → IsTrue (has_object s id)
object_has s id h = ap is_some h.is_object

pub bone_has : (s : SceneRecord) (id : ObjectId) (bone : ℕ) → HasBone s id bone → IsTrue (has_bone s id bone)
bone_has s id bone h =
    let bones : bones_of s id ≡ Some h.armature.bones =
    ap (option_and_then (λ (o : Object). option_map (λ (a : ArmatureData). a.bones) (armature_of s o.kind))) h.is_object
    ∙ ap (λ k. option_map (λ (a : ArmatureData). a.bones) (armature_of s k)) h.is_kind
    ∙ ap (option_map (λ (a : ArmatureData). a.bones)) h.is_armature in
    ap (λ bones. option_map_or (λ bones. nat_lt bone (length bones)) bones false) bones ∙ lt-ltb _ _ h.bone_is_there

-- ---- what is carried over

module _ (s t : SceneRecord) (refers : Refers s t) where
  pub object_carried : (id : ObjectId) → HasObject s id → HasObject t id
  object_carried id h = object_is_there t id (refers.objects id (object_has s id h))

  pub bone_carried : (id : ObjectId) (bone : ℕ) → HasBone s id bone → HasBone t id bone
  bone_carried id bone h = bone_is_there t id bone (refers.bones id bone (bone_has s id bone h))

  pub index_carried : (m n : ℕ) → m ≤ n → (o : Option ℕ) → IfSome o (λ i. i < m) → IfSome o (λ i. i < n)
  index_carried m n l o h = IfSome_then o h (λ i k. omega (arith, k, l))

  pub layer_carried : (p : PencilData) (l : LayerRecord) → LayerFacts s p l → LayerFacts t p l
  layer_carried p l f = record {
    frames_in_range = f.frames_in_range;
    frames_rise = f.frames_rise;
    drawings_are_there = f.drawings_are_there;
    bound_bone_is_there = IfSome_then l.bound f.bound_bone_is_there (λ b h. bone_carried b.object b.bone h);
  }

  pub pencil_carried : (p : PencilData) → PencilFacts s p → PencilFacts t p
  pencil_carried p f = record {
    action_is_there = index_carried (length s.actions) (length t.actions) refers.actions p.action f.action_is_there;
    strokes_have_points = f.strokes_have_points;
    count = f.count;
    names_distinct = f.names_distinct;
    layers = All-weaker (LayerFacts s p) (LayerFacts t p) (layer_carried p) p.layers f.layers;
  }

  pub parent_carried : (parent : Parent) → ParentFacts s parent → ParentFacts t parent
  parent_carried parent f = record {
    object_is_there = object_carried parent.object f.object_is_there;
    bone_is_there = IfSome_then parent.bone f.bone_is_there (bone_carried parent.object);
  }

  pub effect_carried : (e : Effect) → EffectFacts s e → EffectFacts t e
  effect_carried (Offset loc scale) f = tt
  effect_carried (Mirror mirror) f = IfSome_then mirror.centre f object_carried
  effect_carried (Array count offset) f = f

  pub armature_kind_carried : (index : ℕ) (pose : List Channels) → ArmatureKindFacts s index pose → ArmatureKindFacts t index pose
  armature_kind_carried index pose f = record {
    armature = f.armature;
    is_armature = refers.armatures index f.armature f.is_armature;
    poses = f.poses;
  }

  pub effects_carried : (modifiers : List Modifier) → All (λ m. EffectFacts s m.effect) modifiers → All (λ m. EffectFacts t m.effect) modifiers
  effects_carried = All-weaker (λ (m : Modifier). EffectFacts s m.effect) (λ m. EffectFacts t m.effect) (λ m h. effect_carried m.effect h)

  pub pencil_kind_carried : (index : ℕ) (modifiers : List Modifier) → PencilKindFacts s index modifiers → PencilKindFacts t index modifiers
  pencil_kind_carried index modifiers f = record {
    pencil_is_there = omega (arith, f.pencil_is_there, refers.pencils);
    count = f.count;
    names_distinct = f.names_distinct;
    effects = effects_carried modifiers f.effects;
  }

  pub facts_carried : (o : Object) → ObjectFacts s o → ObjectFacts t o
  facts_carried o f = record {
    id_below_next = omega (arith, f.id_below_next, refers.next);
    action_is_there = index_carried (length s.actions) (length t.actions) refers.actions o.action f.action_is_there;
    parent_is_there = IfSome_then o.parent f.parent_is_there parent_carried;
    armature = λ index pose e. armature_kind_carried index pose (f.armature index pose e);
    pencil = λ index modifiers e. pencil_kind_carried index modifiers (f.pencil index modifiers e);
  }

  -- a space of an object is its world or local transform, or that of a bone
  variable_carried : (v : Variable) → IsTrue (is_variable s v) → IsTrue (is_variable t v)
  variable_carried (variable.Property id path) is = refers.paths id path is
  variable_carried (variable.Transform object space.World channel) is = refers.objects object is
  variable_carried (variable.Transform object space.Local channel) is = refers.objects object is
  variable_carried (variable.Transform object (space.Pose bone) channel) is = refers.bones object bone is

  pub driver_carried : (d : Driver) → DriverFacts s d → DriverFacts t d
  driver_carried d f = record {
    path_is_there = refers.paths d.id d.path f.path_is_there;
    has_variables = f.has_variables;
    count = f.count;
    variables_are_there = All-weaker (λ v. IsTrue (is_variable s v)) (λ v. IsTrue (is_variable t v)) variable_carried d.variables f.variables_are_there;
  }

-- ---- a scene with other actions and pencils

-- whether the pencil at an index has a layer of a name
abbrev pub has_layer : List PencilData → ℕ → List ℕ → Bool
has_layer pencils k name = option_map_or (λ pencil. list_any (λ l. same_text l.name name) pencil.layers) (slice_get pencils k) false

-- as many actions, and as many pencils, each with the layers of the same names, keep what the others promise
module _ (s : SceneRecord) (actions : List Action) (pencils : List PencilData)
    (many_actions : length actions ≡ length s.actions) (many_pencils : length pencils ≡ length s.pencils)
    (layers : (k : ℕ) (name : List ℕ) → has_layer pencils k name ≡ has_layer s.pencils k name) where
  abbrev after : SceneRecord
  after = record s { actions = actions; pencils = pencils }

  path_still : (id : AnimId) (path : Path) → has_path after id path ≡ has_path s id path
  path_still (anim.Object o) (Own channel) = refl
  path_still (anim.Object o) (Bone name channel) = refl
  path_still (anim.Object o) (Layer name axis) = refl
  path_still (anim.Pencil p) (Own channel) = refl
  path_still (anim.Pencil p) (Bone name channel) = refl
  path_still (anim.Pencil p) (Layer name axis) = layers p name

  -- what the scene refers to is there
  still : Refers s after
  still = record {
    actions = omega (arith, many_actions);
    armatures = λ i a at. at;
    pencils = omega (arith, many_pencils);
    next = omega arith;
    objects = λ id is. is;
    bones = λ id bone is. is;
    paths = λ id path is. path_still id path ∙ is;
  }

  pub pencils_still : (qs : List PencilData) → All (PencilFacts s) qs → All (PencilFacts after) qs
  pencils_still qs h = All-weaker (PencilFacts s) (PencilFacts after) (pencil_carried s after still) qs h

  pub scene_still : SceneFacts s → ActionsFacts after → PencilsFacts after → SceneFacts after
  scene_still f action_facts pencil_facts = record {
    actions = action_facts;
    armatures = record { count = f.armatures.count; names_distinct = f.armatures.names_distinct; each = f.armatures.each };
    pencils = pencil_facts;
    objects = record {
      count = f.objects.count;
      pencil_objects = f.objects.pencil_objects;
      pose_bones = f.objects.pose_bones;
      names_distinct = f.objects.names_distinct;
      ids_rise = f.objects.ids_rise;
      each = All-weaker (ObjectFacts s) (ObjectFacts after) (facts_carried s after still) s.objects f.objects.each;
    };
    drivers = record {
      count = f.drivers.count;
      targets_distinct = f.drivers.targets_distinct;
      each = All-weaker (DriverFacts s) (DriverFacts after) (driver_carried s after still) s.drivers f.drivers.each;
    };
  }

-- What a scene promises of its records is carried over to a scene of other objects and drivers, where the objects that they refer to stay.
use Rattle.std.proofs.Common.{sym, ◌≡◌, ℕ, ◌≤◌, Bool, false, List, length, get_or, Option, Some, None, refl, ap, ◌∙◌, subst, arith}
use Rattle.std.specs.Prelude.{IfSome, IsTrue, is_some, nat_lt, option_and_then, option_map, ⊤}
use Rattle.std.specs.List.{All, list_any}
use Rattle.std.specs.Option.{option_map_or}
use Rattle.std.proofs.lemmas.Bool.{false≢true}
use Rattle.std.proofs.lemmas.Option.{IfSome_then}
use Rattle.rig_scene.specs.declared.armature.ArmatureData.{ArmatureData}
use Rattle.rig_scene.specs.declared.armature.RestBone.{RestBone}
use Rattle.rig_scene.specs.declared.driver.Driver.{Driver}
use Rattle.rig_scene.specs.declared.driver.Space.{Space}
use Rattle.rig_scene.specs.declared.driver.Space.TheVariants as space
use Rattle.rig_scene.specs.declared.driver.Variable.{Variable}
use Rattle.rig_scene.specs.declared.driver.Variable.TheVariants.{Property, Transform}
use Rattle.rig_scene.specs.declared.id.AnimId.{AnimId}
use Rattle.rig_scene.specs.declared.id.AnimId.TheVariants as anim
use Rattle.rig_scene.specs.declared.id.ObjectId.{ObjectId}
use Rattle.rig_scene.specs.declared.modifier.Effect.{Effect}
use Rattle.rig_scene.specs.declared.modifier.Effect.TheVariants.{Offset, Mirror, Array}
use Rattle.rig_scene.specs.declared.modifier.Modifier.{Modifier}
use Rattle.rig_scene.specs.declared.object.Kind.{Kind}
use Rattle.rig_scene.specs.declared.object.Object.{Object}
use Rattle.rig_scene.specs.declared.object.Parent.{Parent}
use Rattle.rig_scene.specs.declared.path.Path.{Path}
use Rattle.rig_scene.specs.declared.path.Path.TheVariants.{Own, Bone, Layer}
use Rattle.rig_scene.specs.declared.pencil.BoneRef.{BoneRef}
use Rattle.rig_scene.specs.declared.pencil.Layer.{Layer as LayerRecord}
use Rattle.rig_scene.specs.declared.pencil.PencilData.{PencilData}
use Rattle.rig_scene.specs.Facts.{HasObject, HasBone, LayerFacts, PencilFacts, PencilsFacts, ParentFacts, EffectFacts, ObjectFacts, ObjectsFacts, DriverFacts, DriversFacts, SceneFacts}
use Rattle.rig_scene.specs.FactsHold.{object_is_there}
use Rattle.rig_scene.specs.Scene.{SceneRecord, object_of, armature_of}
use Rattle.rig_scene.specs.Text.{same_text}
use Rattle.rig_scene.specs.WellFormed.{bones_of, has_path, has_space, is_variable}
use Rattle.rig_edits.specs.Lists.{IfSome-both, IfSome-all, All-both}
use Rattle.rig_edits.specs.NamedFacts.{bones_of_found}
use Rattle.rig_edits.specs.Named.{modifiers_of}

-- a scene of other objects and drivers
abbrev pub with_others : SceneRecord → List Object → List Driver → ℕ → SceneRecord
with_others s objects drivers next = record s { objects = objects; drivers = drivers; next = next }

-- ---- what a record refers to stays

module _ (Stays : ObjectId → Type 0) where
  -- the centre of a mirror stays
  abbrev pub EffectStays : Effect → Type 0
  EffectStays (Offset loc scale) = ⊤
  EffectStays (Mirror mirror) = IfSome mirror.centre Stays
  EffectStays (Array count offset) = ⊤

  -- the objects to whose bones layers are bound stay
  abbrev pub LayersStay : PencilData → Type 0
  LayersStay p = All (λ l. IfSome l.bound (λ b. Stays b.object)) p.layers

  -- what an object refers to stays
  pub record ObjectStays (o : Object) : Type 0 where
    pub parent : IfSome o.parent (λ p. Stays p.object)
    pub effects : All (λ m. EffectStays m.effect) (modifiers_of o.kind)

  -- an object's id stays with it, and a pencil's always
  abbrev pub IdStays : AnimId → Type 0
  IdStays (anim.Object o) = Stays o
  IdStays (anim.Pencil p) = ⊤

  -- what a variable reads stays
  abbrev pub VariableStays : Variable → Type 0
  VariableStays (Property id path) = IdStays id
  VariableStays (Transform object space channel) = Stays object

-- the bones of an object
abbrev bones_of_object : SceneRecord → Object → Option (List RestBone)
bones_of_object s o = option_map (λ (a : ArmatureData). a.bones) (armature_of s o.kind)

-- each object that stays is still found by its id
abbrev pub FoundStill : SceneRecord → List Object → List Driver → ℕ → (ObjectId → Type 0) → Type 0
FoundStill s objects drivers next Stays =
    (id : ObjectId) (o : Object) → Stays id → object_of s id ≡ Some o → object_of (with_others s objects drivers next) id ≡ Some o

module _ (s : SceneRecord) (objects : List Object) (drivers : List Driver) (next : ℕ) (Stays : ObjectId → Type 0)
    (found : FoundStill s objects drivers next Stays) (later : s.next ≤ next) where
  -- the new scene
  abbrev new : SceneRecord
  new = with_others s objects drivers next

  -- ---- what names an object, or a bone of one

  -- an object that stays is there
  pub has_object : (id : ObjectId) → Stays id → HasObject s id → HasObject new id
  has_object id stays h = record { object = h.object; is_object = found id h.object stays h.is_object }

  -- its bones are there
  pub has_bone : (id : ObjectId) (bone : ℕ) → Stays id → HasBone s id bone → HasBone new id bone
  has_bone id bone stays h = record {
    object = h.object;
    is_object = found id h.object stays h.is_object;
    index = h.index;
    pose = h.pose;
    is_kind = h.is_kind;
    armature = h.armature;
    is_armature = h.is_armature;
    bone_is_there = h.bone_is_there;
  }

  -- ---- pencils

  -- a layer keeps its conditions
  layer : (p : PencilData) (l : LayerRecord) → IfSome l.bound (λ b. Stays b.object) → LayerFacts s p l → LayerFacts new p l
  layer p l stays f = record {
    frames_in_range = f.frames_in_range;
    frames_rise = f.frames_rise;
    drawings_are_there = f.drawings_are_there;
    bound_bone_is_there = IfSome-both (λ b. Stays b.object) (λ b. HasBone s b.object b.bone) (λ b. HasBone new b.object b.bone)
        (λ (b : BoneRef) stay h. has_bone b.object b.bone stay h) l.bound stays f.bound_bone_is_there;
  }

  -- a pencil keeps its conditions
  pencil : (p : PencilData) → LayersStay Stays p → PencilFacts s p → PencilFacts new p
  pencil p stays f = record {
    action_is_there = f.action_is_there;
    strokes_have_points = f.strokes_have_points;
    count = f.count;
    names_distinct = f.names_distinct;
    layers = All-both (λ l. IfSome l.bound (λ b. Stays b.object)) (LayerFacts s p) (LayerFacts new p) (layer p) p.layers stays f.layers;
  }

  -- the pencils of the scene keep theirs
  pencils : All (LayersStay Stays) s.pencils → PencilsFacts s → PencilsFacts new
  pencils stay f = record {
    count = f.count;
    drawings = f.drawings;
    points = f.points;
    layer_keys = f.layer_keys;
    names_distinct = f.names_distinct;
    each = All-both (LayersStay Stays) (PencilFacts s) (PencilFacts new) pencil s.pencils stay f.each;
  }

  -- ---- objects

  -- a parent keeps its conditions
  parent : (p : Parent) → Stays p.object → ParentFacts s p → ParentFacts new p
  parent p stays f = record {
    object_is_there = has_object p.object stays f.object_is_there;
    bone_is_there = IfSome_then p.bone f.bone_is_there (λ b. has_bone p.object b stays);
  }

  -- an effect keeps its conditions
  effect : (e : Effect) → EffectStays Stays e → EffectFacts s e → EffectFacts new e
  effect (Offset loc scale) stays f = tt
  effect (Mirror mirror) stays f = IfSome-both Stays (HasObject s) (HasObject new) has_object mirror.centre stays f
  effect (Array count offset) stays f = f

  -- an object that stays, and refers to those that do
  pub object : (o : Object) → ObjectStays Stays o → ObjectFacts s o → ObjectFacts new o
  object o stays f = record {
    id_below_next = let l = f.id_below_next in omega arith;
    action_is_there = f.action_is_there;
    parent_is_there = IfSome-both (λ p. Stays p.object) (ParentFacts s) (ParentFacts new) parent o.parent stays.parent f.parent_is_there;
    armature = λ index pose is. let g = f.armature index pose is in
        record { armature = g.armature; is_armature = g.is_armature; poses = g.poses };
    pencil = λ index modifiers is. let g = f.pencil index modifiers is in record {
      pencil_is_there = g.pencil_is_there;
      count = g.count;
      names_distinct = g.names_distinct;
      effects = All-both (λ m. EffectStays Stays m.effect) (λ m. EffectFacts s m.effect) (λ m. EffectFacts new m.effect)
          (λ (m : Modifier). effect m.effect) modifiers
          (subst (λ k. All (λ m. EffectStays Stays m.effect) (modifiers_of k)) is stays.effects) g.effects;
    };
  }

  -- ---- drivers

  -- an object's bones stay with it
  bones : (id : ObjectId) (test : List RestBone → Bool) → Stays id → IsTrue (option_map_or test (bones_of s id) false)
      → IsTrue (option_map_or test (bones_of new id) false)
  bones id test stays is = by (object_of s id) refl
    where
      there : (k : Kind) → IsTrue (option_map_or test (option_map (λ (a : ArmatureData). a.bones) (armature_of s k)) false)
          → IsTrue (option_map_or test (option_map (λ (a : ArmatureData). a.bones) (armature_of new k)) false)
      there k is = is

      by : (r : Option Object) → object_of s id ≡ r → IsTrue (option_map_or test (bones_of new id) false)
      by None e = absurd (false≢true (sym (ap (λ r. option_map_or test (option_and_then (bones_of_object s) r) false) e) ∙ is))
      by (Some o) e =
          ap (λ r. option_map_or test r false) (bones_of_found new id o (found id o stays e))
          ∙ there o.kind (sym (ap (λ r. option_map_or test r false) (bones_of_found s id o e)) ∙ is)

  -- the test for an object that stays
  object_has : (id : ObjectId) → Stays id → IsTrue (is_some (object_of s id)) → IsTrue (is_some (object_of new id))
  object_has id stays is = let h = object_is_there s id is in ap is_some (found id h.object stays h.is_object)

  -- a path of what stays is there
  pub path : (id : AnimId) (p : Path) → IdStays Stays id → IsTrue (has_path s id p) → IsTrue (has_path new id p)
  path (anim.Object o) (Own channel) stays is = object_has o stays is
  path (anim.Object o) (Bone name channel) stays is = bones o (λ bones. list_any (λ b. same_text b.name name) bones) stays is
  path (anim.Object o) (Layer name axis) stays is = is
  path (anim.Pencil p) (Own channel) stays is = is
  path (anim.Pencil p) (Bone name channel) stays is = is
  path (anim.Pencil p) (Layer name axis) stays is = is

  -- a transform of an object that stays is there
  transform : (o : ObjectId) (t : Space) → Stays o → IsTrue (has_space s o t) → IsTrue (has_space new o t)
  transform o space.World stays is = object_has o stays is
  transform o space.Local stays is = object_has o stays is
  transform o (space.Pose bone) stays is = bones o (λ bones. nat_lt bone (length bones)) stays is

  -- a variable reads what is there
  pub variable : (v : Variable) → VariableStays Stays v → IsTrue (is_variable s v) → IsTrue (is_variable new v)
  variable (Property id p) stays is = path id p stays is
  variable (Transform o t channel) stays is = transform o t stays is

  -- a driver of what stays, which reads what stays
  pub driver : (d : Driver) → IdStays Stays d.id → All (VariableStays Stays) d.variables → DriverFacts s d → DriverFacts new d
  driver d stays variables f = record {
    path_is_there = path d.id d.path stays f.path_is_there;
    has_variables = f.has_variables;
    count = f.count;
    variables_are_there =
        All-both (VariableStays Stays) (λ v. IsTrue (is_variable s v)) (λ v. IsTrue (is_variable new v)) variable d.variables variables
        f.variables_are_there;
  }

  -- ---- the whole

  -- the facts of the new scene, from those of its objects and drivers
  pub scene : SceneFacts s → All (LayersStay Stays) s.pencils → ObjectsFacts new → DriversFacts new → SceneFacts new
  scene f stay os ds = record {
    actions = record {
      count = f.actions.count;
      curves = f.actions.curves;
      keys = f.actions.keys;
      names_distinct = f.actions.names_distinct;
      each = f.actions.each;
    };
    armatures = record { count = f.armatures.count; names_distinct = f.armatures.names_distinct; each = f.armatures.each };
    pencils = pencils stay f.pencils;
    objects = os;
    drivers = ds;
  }

-- ---- where all stay

module _ (Stays : ObjectId → Type 0) (all : (id : ObjectId) → Stays id) where
  -- each effect refers to what stays
  effects_stay : (e : Effect) → EffectStays Stays e
  effects_stay (Offset loc scale) = tt
  effects_stay (Mirror mirror) = IfSome-all Stays all mirror.centre
  effects_stay (Array count offset) = tt

  -- the layers of each pencil do
  pub layers_stay : (ps : List PencilData) → All (LayersStay Stays) ps
  layers_stay ps = λ k d l i e m. IfSome-all (λ (b : BoneRef). Stays b.object) (λ b. all b.object) (get_or (get_or ps k d).layers i e).bound

  -- each object does
  pub object_stays : (o : Object) → ObjectStays Stays o
  object_stays o = record {
    parent = IfSome-all (λ (p : Parent). Stays p.object) (λ p. all p.object) o.parent;
    effects = λ k d l. effects_stay _;
  }

  -- each id stays
  pub id_stays : (id : AnimId) → IdStays Stays id
  id_stays (anim.Object o) = all o
  id_stays (anim.Pencil p) = tt

  -- each variable reads what stays
  pub variable_stays : (v : Variable) → VariableStays Stays v
  variable_stays (Property id p) = id_stays id
  variable_stays (Transform o t channel) = all o

  -- a driver keeps its conditions
  pub driver_stays : (s : SceneRecord) (objects : List Object) (drivers : List Driver) (next : ℕ)
      → FoundStill s objects drivers next Stays → s.next ≤ next
      → (d : Driver) → DriverFacts s d → DriverFacts (with_others s objects drivers next) d
  driver_stays s objects drivers next found later d f =
      driver s objects drivers next Stays found later d (id_stays d.id) (λ k e l. variable_stays _) f

-- The objects that an operation of a scene names, and those that it reads by their ids, are there.
use Rattle.std.proofs.Common.{◌≡◌, ℕ, Bool, true, false, [], ◌∷◌, Option, Some, None, refl, sym, ap, subst}
use Rattle.std.specs.Prelude.{IsTrue, IfSome, Contains, is_some, slice_get, nat_le, option_map, option_and_then, ⊤}
use Rattle.std.specs.Option.{option_map_or}
use Rattle.std.specs.List.{All}
use Rattle.std.proofs.lemmas.Bool.{and_parts, false≢true}
use Rattle.std.proofs.lemmas.List.Elements.{All-nil, All-contains, All-weaker}
use Rattle.rig_scene.specs.declared.armature.ArmatureData.{ArmatureData}
use Rattle.rig_scene.specs.declared.driver.Driver.{Driver as DriverRecord}
use Rattle.rig_scene.specs.declared.driver.Variable.{Variable}
use Rattle.rig_scene.specs.declared.driver.Variable.TheVariants as variable
use Rattle.rig_scene.specs.declared.id.AnimId.{AnimId}
use Rattle.rig_scene.specs.declared.id.AnimId.TheVariants as anim
use Rattle.rig_scene.specs.declared.id.ObjectId.{ObjectId}
use Rattle.rig_scene.specs.declared.object.Object.{Object}
use Rattle.rig_scene.specs.declared.operation.OpId.{OpId}
use Rattle.rig_scene.specs.declared.operation.OpId.TheVariants.{Time, Animation, Driver, Local, World, PoseInit, Bone, PoseDone, Layer, Geometry, ModifierOp, GeometryDone}
use Rattle.rig_scene.specs.declared.path.Path.{Path}
use Rattle.rig_scene.specs.declared.path.Path.TheVariants as paths
use Rattle.rig_scene.specs.declared.pencil.BoneRef.{BoneRef}
use Rattle.rig_scene.specs.declared.pencil.Layer.{Layer as LayerRecord}
use Rattle.rig_scene.specs.declared.pencil.PencilData.{PencilData}
use Rattle.rig_scene.specs.Drivers.{driver_of, is_driven}
use Rattle.rig_scene.specs.Facts.{HasBone, LayerFacts, PencilFacts, DriverFacts}
use Rattle.rig_scene.specs.FactsHold.{scene_facts}
use Rattle.rig_scene.specs.Operations.{operations}
use Rattle.rig_scene.specs.Scene.{SceneRecord, object_of, armature_of}
use Rattle.rig_scene.specs.WellFormed.{is_scene, has_object, bones_of, has_path, is_variable}
use Rattle.rig_laws.specs.HasOperation.{operation_has}
use Rattle.rig_laws.specs.HasQuantity.{driver_found}
use Rattle.rig_laws.specs.Lists.{All-one, option_and_then-Some}
use Rattle.rig_laws.specs.Members.{has_geometry, has_operation}
use Rattle.rig_edits.specs.Replaced.{All-slice_get}
use Rattle.rig_touch.specs.Agree.{layer_at}

-- ---- what an operation names

module _ (s : SceneRecord) where
  abbrev pub IdThere : AnimId → Type 0
  IdThere (anim.Object o) = IsTrue (has_object s o)
  IdThere (anim.Pencil p) = ⊤

  -- the id whose number a variable reads
  abbrev pub ReadThere : Variable → Type 0
  ReadThere (variable.Property id path) = IdThere id
  ReadThere (variable.Transform object space channel) = ⊤

  -- the objects to whose bones layers are bound
  abbrev pub BoundThere : ℕ → ℕ → Type 0
  BoundThere p l =
      (layer : LayerRecord) → layer_at s p l ≡ Some layer → All (λ bound. IsTrue (has_object s bound.object))
      (option_map_or (λ bound. bound ∷ []) layer.bound [])

  -- the objects of an operation, and those that it reads by their ids
  abbrev pub NamesThere : OpId → Type 0
  NamesThere Time = ⊤
  NamesThere (Animation id) = IdThere id
  NamesThere (Driver id path) = IdThere id × All ReadThere (option_map_or (λ d. d.variables) (driver_of s id path) [])
  NamesThere (Local o) = IsTrue (has_object s o)
  NamesThere (World o) = IsTrue (has_object s o)
  NamesThere (PoseInit o) = IsTrue (has_object s o)
  NamesThere (Bone o b) = IsTrue (has_object s o)
  NamesThere (PoseDone o) = IsTrue (has_object s o)
  NamesThere (Layer p l) = BoundThere p l
  NamesThere (Geometry o) = IsTrue (has_object s o)
  NamesThere (ModifierOp o i) = IsTrue (has_object s o)
  NamesThere (GeometryDone o) = IsTrue (has_object s o)

-- ---- options

-- what gives something comes of something
some_before : {A B : Type 0} (f : A → Option B) (r : Option A) → is_some (option_and_then f r) ≡ true → is_some r ≡ true
some_before f None e = e
some_before f (Some x) e = refl

-- what passes a test is there
some_passes : {A : Type 0} (p : A → Bool) (r : Option A) → option_map_or p r false ≡ true → is_some r ≡ true
some_passes p None e = e
some_passes p (Some x) e = refl

-- ---- what is there

module _ (s : SceneRecord) (met : IsTrue (is_scene s)) where
  -- an object with bones is there
  with_bones : (o : ObjectId) → is_some (bones_of s o) ≡ true → IsTrue (has_object s o)
  with_bones o e = some_before (λ (o : Object). option_map (λ (a : ArmatureData). a.bones) (armature_of s o.kind)) (object_of s o) e

  -- the id of a path
  with_path : (id : AnimId) (path : Path) → IsTrue (has_path s id path) → IdThere s id
  with_path (anim.Object o) (paths.Own channel) h = h
  with_path (anim.Object o) (paths.Bone name channel) h = with_bones o (some_passes _ (bones_of s o) h)
  with_path (anim.Object o) (paths.Layer name axis) h = absurd (false≢true h)
  with_path (anim.Pencil p) path h = tt

  read : (v : Variable) → IsTrue (is_variable s v) → ReadThere s v
  read (variable.Property id path) h = with_path id path h
  read (variable.Transform object space channel) h = tt

  of_driver : (id : AnimId) (path : Path) → IsTrue (is_driven s id path) → NamesThere s (Driver id path)
  of_driver id path h =
      let d = driver_found s met id path h in
      let f : DriverFacts s d.0 = All-contains (DriverFacts s) s.drivers d.0 (scene_facts s met).drivers.each d.1 in (
        subst (IdThere s) d.2 (with_path d.0.id d.0.path f.path_is_there),
        subst (λ r. All (ReadThere s) (option_map_or (λ (d : DriverRecord). d.variables) r [])) (sym d.4)
            (All-weaker (λ v. IsTrue (is_variable s v)) (ReadThere s) read d.0.variables f.variables_are_there),
      )

  bound : (r : Option BoneRef) → IfSome r (λ b. HasBone s b.object b.bone)
      → All (λ (b : BoneRef). IsTrue (has_object s b.object)) (option_map_or (λ b. b ∷ []) r [])
  bound None h = All-nil (λ (b : BoneRef). IsTrue (has_object s b.object))
  bound (Some b) h = All-one (λ (b : BoneRef). IsTrue (has_object s b.object)) b (ap is_some h.is_object)

  of_layer : (p l : ℕ) → BoundThere s p l
  of_layer p l layer e =
      let at = option_and_then-Some (λ (pencil : PencilData). slice_get pencil.layers l) (slice_get s.pencils p) layer e in
      let f : PencilFacts s at.0 = All-slice_get (PencilFacts s) s.pencils p at.0 at.1 (scene_facts s met).pencils.each in
      let g : LayerFacts s at.0 layer = All-slice_get (LayerFacts s at.0) at.0.layers l layer at.2 f.layers in
      bound layer.bound g.bound_bone_is_there

  -- what an operation of the scene names
  pub names_there : (op : OpId) → Contains (operations s) op → NamesThere s op
  names_there op within = by op (operation_has s met op within)
    where
      by : (op : OpId) → IsTrue (has_operation s op) → NamesThere s op
      by Time h = tt
      by (Animation (anim.Object o)) h = some_before (λ (o : Object). o.action) (object_of s o) h
      by (Animation (anim.Pencil p)) h = tt
      by (Driver id path) h = of_driver id path h
      by (Local o) h = h
      by (World o) h = h
      by (PoseInit o) h = some_passes _ (object_of s o) h
      by (Bone o b) h = with_bones o (some_passes _ (bones_of s o) h)
      by (PoseDone o) h = some_passes _ (object_of s o) h
      by (Layer p l) h = of_layer p l
      by (Geometry o) h = some_passes _ (object_of s o) h
      by (ModifierOp o i) h = some_passes _ (object_of s o) (and_parts (nat_le 1 i) (has_geometry s o i) h).1
      by (GeometryDone o) h = some_passes _ (object_of s o) h

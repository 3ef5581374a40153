-- What a quantity of a scene reads is a quantity of it.
use Rattle.std.specs.Prelude.{◌≡◌, ℕ, zero, suc, ◌<◌, List, [], ◌∷◌, map, length, Bool, true, false, IsTrue, Option, Some, None, IfSome, is_some, slice_get, if◌then◌else◌, option_map, option_and_then, nat_lt, Contains, All}
use Rattle.std.specs.Option.{option_map_or}
use Rattle.std.specs.List.{flat_map, range_with_len}
use Rattle.std.proofs.Common.{refl, sym, ap, subst, arith, ◌∙◌}
use Rattle.std.proofs.lemmas.Bool.{lt-ltb, leb-true, le-leb}
use Rattle.std.proofs.lemmas.Option.{slice_get_within}
use Rattle.std.proofs.lemmas.List.Elements.{All-nil, All-cons, All-append, All-map, All-contains, All-weaker, filter_passes}
use Rattle.rig_scene.specs.Found.{Contains-slice_get}
use Rattle.rig_scene.specs.Pairs.{All-flat_map}
use Rattle.rig_scene.specs.declared.armature.RestBone.{RestBone}
use Rattle.rig_scene.specs.declared.id.AnimId.{AnimId}
use Rattle.rig_scene.specs.declared.id.AnimId.TheVariants as anim
use Rattle.rig_scene.specs.declared.id.ObjectId.{ObjectId}
use Rattle.rig_scene.specs.declared.path.Path.{Path}
use Rattle.rig_scene.specs.declared.path.Path.TheVariants as path
use Rattle.rig_scene.specs.declared.driver.Space.{Space}
use Rattle.rig_scene.specs.declared.driver.Space.TheVariants as space
use Rattle.rig_scene.specs.declared.driver.Variable.{Variable}
use Rattle.rig_scene.specs.declared.driver.Variable.TheVariants.{Property, Transform}
use Rattle.rig_scene.specs.declared.modifier.Effect.{Effect}
use Rattle.rig_scene.specs.declared.modifier.Effect.TheVariants.{Offset, Mirror, Array}
use Rattle.rig_scene.specs.declared.modifier.Modifier.{Modifier}
use Rattle.rig_scene.specs.declared.object.Kind.{Kind}
use Rattle.rig_scene.specs.declared.object.Kind.TheVariants as kind
use Rattle.rig_scene.specs.declared.object.Object.{Object}
use Rattle.rig_scene.specs.declared.object.Parent.{Parent}
use Rattle.rig_scene.specs.declared.quantity.Quantity.{Quantity}
use Rattle.rig_scene.specs.declared.quantity.Quantity.TheVariants.{Chan, Local, World, Bone, Layer, Geom}
use Rattle.rig_scene.specs.declared.quantity.Read.{Read}
use Rattle.rig_scene.specs.Scene.{SceneRecord, object_of, armature_of}
use Rattle.rig_scene.specs.WellFormed.{is_scene, is_variable, has_space, has_object, has_bone, bones_of}
use Rattle.rig_scene.specs.Facts.{HasObject, HasBone, ObjectFacts, ParentFacts, PencilFacts, LayerFacts, DriverFacts, EffectFacts}
use Rattle.rig_scene.specs.FactsHold.{scene_facts}
use Rattle.rig_scene.specs.Drivers.{driver_of, is_driven, driven_paths}
use Rattle.rig_scene.specs.Channel.{channels, axes}
use Rattle.rig_scene.specs.Quantities.{inner_read, reference_read, space_quantity, variable_reads, driven_reads, parent_reads, bone_reads, layer_reads, effect_reads, modifiers_of, geometry_reads, reads, quantities}
use Rattle.rig_laws.specs.Lists.{All-one, All-option, All-below, some_where, option_and_then-Some}
use Rattle.rig_laws.specs.FoundObject.{found_id, found_object}
use Rattle.rig_laws.specs.EarlierParent.{earlier_parent}
use Rattle.rig_laws.specs.Members.{has_layer, has_modifiers, has_geometry, has_quantity, IsReadOf}
use Rattle.rig_laws.specs.HasQuantity.{driver_found, quantities_are_there, quantity_is_there}

-- what an option promises of its value
pub of_some : {X : Type 0} (P : X → Type 0) (o : Option X) → IfSome o P → (x : X) → o ≡ Some x → P x
of_some P o h x e = subst (λ r. IfSome r P) e h

module _ (s : SceneRecord) where
  pub has_bone_by : (id : ObjectId) (bones : List RestBone) (b : ℕ) → bones_of s id ≡ Some bones → b < length bones → IsTrue (has_bone s id b)
  has_bone_by id bones b e l = ap (λ f. option_map_or (λ bones. nat_lt b (length bones)) f false) e ∙ lt-ltb b (length bones) l

  driven_closed : (id : AnimId) (paths : List Path) → All (λ r. IsTrue (has_quantity s r.source)) (driven_reads s id paths)
  driven_closed id paths = All-map (λ r. IsTrue (has_quantity s r.source)) (λ p. inner_read (Chan id p)) (driven_paths s id paths) (filter_passes (is_driven s id) paths)

  space_closed : (o : ObjectId) (sp : Space) → IsTrue (has_space s o sp) → IsTrue (has_quantity s (space_quantity o sp))
  space_closed o space.World h = h
  space_closed o space.Local h = h
  space_closed o (space.Pose bone) h = h

  pub variable_closed : (v : Variable) → IsTrue (is_variable s v) → All (λ r. IsTrue (has_quantity s r.source)) (variable_reads s v)
  variable_closed (Property id p) h = by (is_driven s id p) refl
    where
      by : (b : Bool) → is_driven s id p ≡ b → All (λ r. IsTrue (has_quantity s r.source)) (if b then reference_read (Chan id p) ∷ [] else [])
      by true e = All-one (λ r. IsTrue (has_quantity s r.source)) (reference_read (Chan id p)) e
      by false e = All-nil (λ r. IsTrue (has_quantity s r.source))
  variable_closed (Transform o sp channel) h = All-one (λ r. IsTrue (has_quantity s r.source)) (reference_read (space_quantity o sp)) (space_closed o sp h)

  has_object_by : (o : ObjectId) → HasObject s o → IsTrue (has_object s o)
  has_object_by o h = ap is_some h.is_object

  pub has_bone_from : (o : ObjectId) (b : ℕ) → HasBone s o b → IsTrue (has_bone s o b)
  has_bone_from o b h = has_bone_by o h.armature.bones b (bones_found_in o h) h.bone_is_there
    where
      bones_found_in : (o : ObjectId) (h : HasBone s o b) → bones_of s o ≡ Some h.armature.bones
      bones_found_in o h =
          ap (option_and_then (λ o. option_map (λ a. a.bones) (armature_of s o.kind))) h.is_object
          ∙ ap (λ k. option_map (λ a. a.bones) (armature_of s k)) h.is_kind ∙ ap (option_map (λ a. a.bones)) h.is_armature

  parent_closed : (parent : Option Parent) → IfSome parent (ParentFacts s) → All (λ r. IsTrue (has_quantity s r.source)) (parent_reads parent)
  parent_closed None h = All-nil (λ r. IsTrue (has_quantity s r.source))
  parent_closed (Some parent) h =
      All-cons (λ r. IsTrue (has_quantity s r.source)) (reference_read (World parent.object)) (option_map_or (λ b. reference_read (Bone parent.object b) ∷ []) parent.bone [])
      (has_object_by parent.object h.object_is_there)
      (All-option (λ r. IsTrue (has_quantity s r.source)) (λ b. reference_read (Bone parent.object b) ∷ []) parent.bone
      (λ b e. All-one (λ r. IsTrue (has_quantity s r.source)) (reference_read (Bone parent.object b))
      (has_bone_from parent.object b (of_some (HasBone s parent.object) parent.bone h.bone_is_there b e))))

  effect_closed : (o : ObjectId) → IsTrue (has_object s o) → (effect : Effect) → EffectFacts s effect → All (λ r. IsTrue (has_quantity s r.source)) (effect_reads o effect)
  effect_closed o is (Offset loc scale) h = All-nil (λ r. IsTrue (has_quantity s r.source))
  effect_closed o is (Mirror mirror) h =
      All-option (λ r. IsTrue (has_quantity s r.source)) (λ centre. inner_read (World o) ∷ reference_read (World centre) ∷ []) mirror.centre
      (λ centre e. All-cons (λ r. IsTrue (has_quantity s r.source)) (inner_read (World o)) (reference_read (World centre) ∷ []) is
      (All-one (λ r. IsTrue (has_quantity s r.source)) (reference_read (World centre)) (has_object_by centre (of_some (HasObject s) mirror.centre h centre e))))
  effect_closed o is (Array count offset) h = All-nil (λ r. IsTrue (has_quantity s r.source))

  has_geometry_by : (id : ObjectId) (o : Object) → object_of s id ≡ Some o → (i : ℕ) → has_modifiers i o.kind ≡ true → IsTrue (has_geometry s id i)
  has_geometry_by id o e i h = ap (λ f. option_map_or (λ object. has_modifiers i object.kind) f false) e ∙ h

  fewer_modifiers : (i : ℕ) (k : Kind) → has_modifiers (suc i) k ≡ true → has_modifiers i k ≡ true
  fewer_modifiers i kind.Empty h = h
  fewer_modifiers i (kind.Armature n pose) h = h
  fewer_modifiers i (kind.Pencil p modifiers) h = le-leb i (length modifiers) (let l = leb-true (suc i) (length modifiers) h in omega arith)

  layers_closed : (o : Object) → All (λ r. IsTrue (has_quantity s r.source)) (geometry_reads s o 0)
  layers_closed o = by o.kind
    where
      by : (k : Kind) → All (λ r. IsTrue (has_quantity s r.source)) (geometry_reads s (record o { kind = k }) 0)
      by kind.Empty = All-nil (λ r. IsTrue (has_quantity s r.source))
      by (kind.Armature n pose) = All-nil (λ r. IsTrue (has_quantity s r.source))
      by (kind.Pencil p modifiers) =
          All-option (λ r. IsTrue (has_quantity s r.source)) (λ pencil. map (λ l. inner_read (Layer p l)) (range_with_len 0 (length pencil.layers))) (slice_get s.pencils p)
          (λ pencil e. All-map (λ r. IsTrue (has_quantity s r.source)) (λ l. inner_read (Layer p l)) (range_with_len 0 (length pencil.layers))
          (All-below (λ l. IsTrue (has_layer s p l)) (length pencil.layers)
          (λ l h. ap (λ f. option_map_or (λ pencil. nat_lt l (length pencil.layers)) f false) e ∙ lt-ltb l (length pencil.layers) h)))

  effects_of : (k : Kind) → ((p : ℕ) (modifiers : List Modifier) → k ≡ kind.Pencil p modifiers → All (λ m. EffectFacts s m.effect) modifiers) → All (λ m. EffectFacts s m.effect) (modifiers_of k)
  effects_of kind.Empty h = All-nil (λ m. EffectFacts s m.effect)
  effects_of (kind.Armature n pose) h = All-nil (λ m. EffectFacts s m.effect)
  effects_of (kind.Pencil p modifiers) h = h p modifiers refl

  module _ (met : IsTrue (is_scene s)) where
    facts_of : (id : ObjectId) (o : Object) → object_of s id ≡ Some o → ObjectFacts s o
    facts_of id o e = All-contains (ObjectFacts s) s.objects o (scene_facts s met).objects.each (found_object s id o e)

    geometry_closed : (id : ObjectId) (o : Object) → object_of s id ≡ Some o → (i : ℕ) → has_modifiers i o.kind ≡ true → All (λ r. IsTrue (has_quantity s r.source)) (geometry_reads s o i)
    geometry_closed id o e zero h = layers_closed o
    geometry_closed id o e (suc i) h =
        let own : object_of s o.id ≡ Some o = subst (λ x. object_of s x ≡ Some o) (sym (found_id s id o e)) e in
        All-cons (λ r. IsTrue (has_quantity s r.source)) (inner_read (Geom o.id i)) (option_map_or (λ m. effect_reads o.id m.effect) (slice_get (modifiers_of o.kind) i) [])
        (has_geometry_by o.id o own i (fewer_modifiers i o.kind h))
        (All-option (λ r. IsTrue (has_quantity s r.source)) (λ m. effect_reads o.id m.effect) (slice_get (modifiers_of o.kind) i)
        (λ m f. effect_closed o.id (ap is_some own) m.effect
        (All-contains (λ m. EffectFacts s m.effect) (modifiers_of o.kind) m (effects_of o.kind (λ p modifiers k. ((facts_of id o e).pencil p modifiers k).effects))
        (Contains-slice_get (modifiers_of o.kind) i m f))))

    bone_closed : (o : ObjectId) (b : ℕ) → IsTrue (has_bone s o b) → All (λ r. IsTrue (has_quantity s r.source)) (reads s (Bone o b))
    bone_closed o b h =
        All-option (λ r. IsTrue (has_quantity s r.source)) (bone_reads s o) (option_and_then (λ bones. slice_get bones b) (bones_of s o))
        (λ bone e.
        let found = option_and_then-Some (λ bones. slice_get bones b) (bones_of s o) bone e in
        All-append (λ r. IsTrue (has_quantity s r.source)) (driven_reads s (anim.Object o) (map (path.Bone bone.name) channels)) (option_map_or (λ b. inner_read (Bone o b) ∷ []) bone.parent [])
        (driven_closed (anim.Object o) (map (path.Bone bone.name) channels))
        (All-option (λ r. IsTrue (has_quantity s r.source)) (λ b. inner_read (Bone o b) ∷ []) bone.parent
        (λ p f. All-one (λ r. IsTrue (has_quantity s r.source)) (inner_read (Bone o p))
        (has_bone_by o found.0 p found.1
        (let l = earlier_parent s met o found.0 found.1 b bone found.2 p f in
        let m = slice_get_within found.0 b bone found.2 in
        omega arith)))))

    layer_closed : (p l : ℕ) → All (λ r. IsTrue (has_quantity s r.source)) (reads s (Layer p l))
    layer_closed p l =
        All-option (λ r. IsTrue (has_quantity s r.source)) (layer_reads s p) (option_and_then (λ pencil. slice_get pencil.layers l) (slice_get s.pencils p))
        (λ layer e.
        let found = option_and_then-Some (λ pencil. slice_get pencil.layers l) (slice_get s.pencils p) layer e in
        let pencil = All-contains (PencilFacts s) s.pencils found.0 (scene_facts s met).pencils.each (Contains-slice_get s.pencils p found.0 found.1) in
        let facts = All-contains (LayerFacts s found.0) found.0.layers layer pencil.layers (Contains-slice_get found.0.layers l layer found.2) in
        All-append (λ r. IsTrue (has_quantity s r.source)) (driven_reads s (anim.Pencil p) (map (path.Layer layer.name) axes)) (option_map_or (λ b. reference_read (Bone b.object b.bone) ∷ []) layer.bound [])
        (driven_closed (anim.Pencil p) (map (path.Layer layer.name) axes))
        (All-option (λ r. IsTrue (has_quantity s r.source)) (λ b. reference_read (Bone b.object b.bone) ∷ []) layer.bound
        (λ b f. All-one (λ r. IsTrue (has_quantity s r.source)) (reference_read (Bone b.object b.bone))
        (has_bone_from b.object b.bone (of_some (λ b. HasBone s b.object b.bone) layer.bound facts.bound_bone_is_there b f)))))

    -- the sources of what a quantity reads, where the scene has what it names
    pub reads_are_there : (q : Quantity) → IsTrue (has_quantity s q) → All (λ r. IsTrue (has_quantity s r.source)) (reads s q)
    reads_are_there (Chan id p) h =
        All-option (λ r. IsTrue (has_quantity s r.source)) (λ d. flat_map (variable_reads s) d.variables) (driver_of s id p)
        (λ d e.
        let found = driver_found s met id p h in
        let same : found.0 ≡ d = cc (found.4, e) in
        let facts = All-contains (DriverFacts s) s.drivers d (scene_facts s met).drivers.each (subst (Contains s.drivers) same found.1) in
        All-flat_map (λ r. IsTrue (has_quantity s r.source)) (variable_reads s) d.variables
        (All-weaker (λ v. IsTrue (is_variable s v)) (λ v. All (λ r. IsTrue (has_quantity s r.source)) (variable_reads s v)) variable_closed d.variables facts.variables_are_there))
    reads_are_there (Local o) h = driven_closed (anim.Object o) (map path.Own channels)
    reads_are_there (World o) h =
        All-cons (λ r. IsTrue (has_quantity s r.source)) (inner_read (Local o)) (option_map_or (λ object. parent_reads object.parent) (object_of s o) []) h
        (All-option (λ r. IsTrue (has_quantity s r.source)) (λ object. parent_reads object.parent) (object_of s o)
        (λ object e. parent_closed object.parent (facts_of o object e).parent_is_there))
    reads_are_there (Bone o b) h = bone_closed o b h
    reads_are_there (Layer p l) h = layer_closed p l
    reads_are_there (Geom o i) h =
        All-option (λ r. IsTrue (has_quantity s r.source)) (λ object. geometry_reads s object i) (object_of s o)
        (λ object e. geometry_closed o object e i
        (let found = some_where (λ object. has_modifiers i object.kind) (object_of s o) h in
        let same : found.0 ≡ object = cc (found.1, e) in
        ap (λ o. has_modifiers i o.kind) (sym same) ∙ found.2))

    -- each read of a quantity of a scene has a quantity of the scene as its source
    pub reads_closed : (q : Quantity) (r : Read) → IsReadOf s q r → Contains (quantities s) r.source
    reads_closed q r is =
        let there = All-contains (λ q. IsTrue (has_quantity s q)) (quantities s) q (quantities_are_there s met) is.0 in
        quantity_is_there s met r.source (All-contains (λ r. IsTrue (has_quantity s r.source)) (reads s q) r (reads_are_there q there) is.1)

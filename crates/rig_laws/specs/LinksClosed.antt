-- What an operation of a scene needs is an operation of it.
use Rattle.std.specs.Prelude.{◌≡◌, ℕ, zero, suc, ◌≤◌, [], ◌∷◌, ◌++◌, map, length, Bool, true, false, IsTrue, Some, if◌then◌else◌, Contains, All}
use Rattle.std.specs.Option.{option_map_or}
use Rattle.std.specs.List.{flat_map, range_with_len}
use Rattle.std.proofs.Common.{refl, sym, ap, subst, arith, ◌∙◌, true≢false}
use Rattle.std.proofs.lemmas.Bool.{and_parts, le-leb}
use Rattle.std.proofs.lemmas.List.Elements.{All-nil, All-cons, All-append, All-map, All-contains, All-weaker, All-head}
use Rattle.rig_scene.specs.declared.id.AnimId.{AnimId}
use Rattle.rig_scene.specs.declared.id.AnimId.TheVariants as anim
use Rattle.rig_scene.specs.declared.id.ObjectId.{ObjectId}
use Rattle.rig_scene.specs.declared.driver.Variable.{Variable}
use Rattle.rig_scene.specs.declared.driver.Variable.TheVariants.{Property, Transform}
use Rattle.rig_scene.specs.declared.object.Kind.{Kind}
use Rattle.rig_scene.specs.declared.object.Kind.TheVariants as kind
use Rattle.rig_scene.specs.declared.object.Object.{Object}
use Rattle.rig_scene.specs.declared.operation.OpId.{OpId}
use Rattle.rig_scene.specs.declared.operation.OpId.TheVariants.{Time, Animation, Driver, Local, World, PoseInit, Bone, PoseDone, Layer, Geometry, ModifierOp, GeometryDone}
use Rattle.rig_scene.specs.declared.quantity.Quantity.{Quantity}
use Rattle.rig_scene.specs.declared.quantity.Quantity.TheVariants as quantity
use Rattle.rig_scene.specs.Scene.{SceneRecord, object_of}
use Rattle.rig_scene.specs.WellFormed.{is_scene, is_variable}
use Rattle.rig_scene.specs.Facts.{DriverFacts}
use Rattle.rig_scene.specs.FactsHold.{scene_facts, bone_is_there}
use Rattle.rig_scene.specs.Pairs.{All-of_map, All-flat_map}
use Rattle.rig_scene.specs.Drivers.{driver_of, is_driven}
use Rattle.rig_scene.specs.Quantities.{reads, reference_read, space_quantity, modifiers_of}
use Rattle.rig_scene.specs.Operations.{InLink, kept_link, animation_of, operations, link_of, links_of, variable_links, layer_time, bone_links, last_geometry, ins}
use Rattle.rig_laws.specs.LayerTime.{All-layer_time}
use Rattle.rig_laws.specs.Lists.{All-one, All-option, some_where}
use Rattle.rig_laws.specs.FoundObject.{found_id, found_object}
use Rattle.rig_laws.specs.Members.{has_modifiers, has_geometry, is_posed, has_quantity, has_operation, IsInLinkOf}
use Rattle.rig_laws.specs.HasQuantity.{driver_found, kind_there}
use Rattle.rig_laws.specs.ReadsClosed.{variable_closed, reads_are_there}
use Rattle.rig_laws.specs.HasOperation.{of_quantity, animation_there, operation_has, has_operation_is}

-- the operation that a link names is there
abbrev Needs : SceneRecord → InLink → Type 0
Needs s link = IsTrue (has_operation s link.op)

module _ (s : SceneRecord) (met : IsTrue (is_scene s)) where
  of_animation : (id : AnimId) → All (Needs s) (map kept_link (animation_of s id))
  of_animation id = All-map (Needs s) kept_link (animation_of s id) (animation_there s met id)

  of_reads : (q : Quantity) → IsTrue (has_quantity s q) → All (Needs s) (links_of s q)
  of_reads q h =
      All-map (Needs s) (link_of s q) (reads s q)
      (All-weaker (λ r. IsTrue (has_quantity s r.source)) (λ r. Needs s (link_of s q r)) (λ r there. of_quantity s r.source there) (reads s q) (reads_are_there s met q h))

  of_variable : (q : Quantity) (v : Variable) → IsTrue (is_variable s v) → All (Needs s) (variable_links s q v)
  of_variable q (Property id p) h = by (is_driven s id p) refl
    where
      by : (b : Bool) → is_driven s id p ≡ b → All (Needs s) (if b then link_of s q (reference_read (quantity.Chan id p)) ∷ [] else map kept_link (animation_of s id))
      by true e = All-one (Needs s) (link_of s q (reference_read (quantity.Chan id p))) e
      by false e = of_animation id
  of_variable q (Transform o space channel) h =
      All-one (Needs s) (link_of s q (reference_read (space_quantity o space)))
      (of_quantity s (space_quantity o space) (All-head (λ r. IsTrue (has_quantity s r.source)) (reference_read (space_quantity o space)) [] (variable_closed s (Transform o space channel) h)))

  of_bones : (o : Object) → Contains s.objects o → (k : Kind) → o.kind ≡ k → All (Needs s) (bone_links o.id k)
  of_bones o e kind.Empty f = All-nil (Needs s)
  of_bones o e (kind.Armature n pose) f =
      All-map (Needs s) (λ b. kept_link (Bone o.id b)) (range_with_len 0 (length pose))
      (All-of_map (λ q. IsTrue (has_quantity s q)) (quantity.Bone o.id) (range_with_len 0 (length pose)) (kind_there s met o e (kind.Armature n pose) f))
  of_bones o e (kind.Pencil p modifiers) f = All-nil (Needs s)

  of_last : (o : ObjectId) (object : Object) → object_of s o ≡ Some object → (k : Kind) → object.kind ≡ k → has_modifiers 0 k ≡ true → IsTrue (has_operation s (last_geometry o (length (modifiers_of k))))
  of_last o object e kind.Empty f h = absurd (true≢false (sym h))
  of_last o object e (kind.Armature n pose) f h = absurd (true≢false (sym h))
  of_last o object e (kind.Pencil p modifiers) f h = by (length modifiers) refl
    where
      there : (i : ℕ) → i ≤ length modifiers → IsTrue (has_geometry s o i)
      there i l = ap (λ f. option_map_or (λ object. has_modifiers i object.kind) f false) e ∙ ap (has_modifiers i) f ∙ le-leb i (length modifiers) l

      by : (n : ℕ) → length modifiers ≡ n → IsTrue (has_operation s (last_geometry o n))
      by zero g = there 0 (omega arith)
      by (suc n) g = of_quantity s (quantity.Geom o (suc n)) (there (suc n) (omega arith))

  -- the operations that an operation needs, where the scene has what it names
  pub ins_are_there : (op : OpId) → IsTrue (has_operation s op) → All (λ link. IsTrue (has_operation s link.op)) (ins s op)
  unfolding ins
  ins_are_there Time h = All-nil (Needs s)
  ins_are_there (Animation id) h = All-one (Needs s) (kept_link Time) refl
  ins_are_there (Driver id p) h =
      All-option (Needs s) (λ d. flat_map (variable_links s (quantity.Chan id p)) d.variables) (driver_of s id p)
      (λ d e.
      let found = driver_found s met id p h in
      let same : found.0 ≡ d = cc (found.4, e) in
      let facts = All-contains (DriverFacts s) s.drivers d (scene_facts s met).drivers.each (subst (Contains s.drivers) same found.1) in
      All-flat_map (Needs s) (variable_links s (quantity.Chan id p)) d.variables
      (All-weaker (λ v. IsTrue (is_variable s v)) (λ v. All (Needs s) (variable_links s (quantity.Chan id p) v)) (of_variable (quantity.Chan id p)) d.variables facts.variables_are_there))
  ins_are_there (Local o) h = All-append (Needs s) (map kept_link (animation_of s (anim.Object o))) (links_of s (quantity.Local o)) (of_animation (anim.Object o)) (of_reads (quantity.Local o) h)
  ins_are_there (World o) h = of_reads (quantity.World o) h
  ins_are_there (PoseInit o) h = of_animation (anim.Object o)
  ins_are_there (Bone o b) h =
      let has = bone_is_there s o b h in
      All-cons (Needs s) (kept_link (PoseInit o)) (links_of s (quantity.Bone o b))
      (ap (λ f. option_map_or (λ object. is_posed object.kind) f false) has.is_object ∙ ap is_posed has.is_kind)
      (of_reads (quantity.Bone o b) h)
  ins_are_there (PoseDone o) h =
      All-option (Needs s) (λ object. bone_links o object.kind) (object_of s o)
      (λ object e. subst (λ id. All (Needs s) (bone_links id object.kind)) (found_id s o object e) (of_bones object (found_object s o object e) object.kind refl))
  ins_are_there (Layer p l) h =
      All-append (Needs s) (layer_time s p l ++ map kept_link (animation_of s (anim.Pencil p))) (links_of s (quantity.Layer p l))
      (All-append (Needs s) (layer_time s p l) (map kept_link (animation_of s (anim.Pencil p))) (All-layer_time s p l (Needs s) refl) (of_animation (anim.Pencil p)))
      (of_reads (quantity.Layer p l) h)
  ins_are_there (Geometry o) h = of_reads (quantity.Geom o 0) h
  ins_are_there (ModifierOp o i) h = of_reads (quantity.Geom o i) (and_parts _ (has_geometry s o i) h).1
  ins_are_there (GeometryDone o) h =
      let found = some_where (λ object. has_modifiers 0 object.kind) (object_of s o) h in
      All-option (Needs s) (λ object. kept_link (last_geometry o (length (modifiers_of object.kind))) ∷ []) (object_of s o)
      (λ object e.
      let same : found.0 ≡ object = cc (found.1, e) in
      All-one (Needs s) (kept_link (last_geometry o (length (modifiers_of object.kind))))
      (of_last o object e object.kind refl (ap (λ o. has_modifiers 0 o.kind) (sym same) ∙ found.2)))

  -- what an operation of a scene needs is an operation of it
  pub ins_closed : (op : OpId) (link : InLink) → IsInLinkOf s op link → Contains (operations s) link.op
  ins_closed op link is =
      has_operation_is s met link.op (All-contains (λ link. IsTrue (has_operation s link.op)) (ins s op) link (ins_are_there op (operation_has s met op is.0)) is.1)

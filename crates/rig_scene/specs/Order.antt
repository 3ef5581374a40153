-- The operations that stand for a quantity are, in their order, the quantities in theirs.
use Rattle.std.proofs.Common.{◌≡◌, ℕ, zero, suc, ◌+◌, Bool, true, false, cond, List, [], ◌∷◌, ◌++◌, map, length, Option, Some, refl, sym, ap, ◌∙◌, subst, arith}
use Rattle.std.specs.Prelude.{◌↔◌}
use Rattle.std.specs.List.{filter_map, flat_map, range_with_len, enumerate_from, cons_option}
use Rattle.std.proofs.lemmas.List.{append-nil}
use Rattle.std.proofs.lemmas.List.Elements.{filter_map-append}
use Rattle.std.proofs.lemmas.Option.{same_Some}
use Rattle.rig_scene.specs.declared.id.AnimId.{AnimId}
use Rattle.rig_scene.specs.declared.id.AnimId.TheVariants as anim
use Rattle.rig_scene.specs.declared.id.ObjectId.{ObjectId}
use Rattle.rig_scene.specs.declared.driver.Driver.{Driver as DriverRecord}
use Rattle.rig_scene.specs.declared.object.Kind.{Kind}
use Rattle.rig_scene.specs.declared.object.Kind.TheVariants as kind
use Rattle.rig_scene.specs.declared.object.Object.{Object}
use Rattle.rig_scene.specs.declared.operation.OpId.{OpId}
use Rattle.rig_scene.specs.declared.operation.OpId.TheVariants.{Time, Animation, Driver, Local, World, PoseInit, Bone, PoseDone, Layer, Geometry, ModifierOp, GeometryDone}
use Rattle.rig_scene.specs.declared.pencil.PencilData.{PencilData}
use Rattle.rig_scene.specs.declared.quantity.Quantity.{Quantity}
use Rattle.rig_scene.specs.declared.quantity.Quantity.TheVariants as quantity
use Rattle.rig_scene.specs.Scene.{SceneRecord}
use Rattle.rig_scene.specs.Drivers.{drivers_of, has_action}
use Rattle.rig_scene.specs.Quantities.{chans_of, pencil_quantities, kind_quantities, object_quantities, quantities}
use Rattle.rig_scene.specs.Operations.{animation_of, driver_operations, pencil_operations, kind_operations, object_operations, operations, operation_of}
use Rattle.rig_scene.specs.StandsFor.{quantity_of}

-- ---- one quantity, one operation

pub quantity_of-operation_of : (q : Quantity) → quantity_of (operation_of q) ≡ Some q
quantity_of-operation_of (quantity.Chan id path) = refl
quantity_of-operation_of (quantity.Local o) = refl
quantity_of-operation_of (quantity.World o) = refl
quantity_of-operation_of (quantity.Bone o b) = refl
quantity_of-operation_of (quantity.Layer p l) = refl
quantity_of-operation_of (quantity.Geom o zero) = refl
quantity_of-operation_of (quantity.Geom o (suc i)) = refl

pub operation_of-injective : (q r : Quantity) → operation_of q ≡ operation_of r → q ≡ r
operation_of-injective q r e =
    same_Some q r (sym (quantity_of-operation_of q) ∙ ap quantity_of e ∙ quantity_of-operation_of r)

operation_from : (op : OpId) (q : Quantity) → quantity_of op ≡ Some q → op ≡ operation_of q
operation_from Time q e = cc
operation_from (Animation id) q e = cc
operation_from (Driver id path) q e = ap operation_of (same_Some (quantity.Chan id path) q e)
operation_from (Local o) q e = ap operation_of (same_Some (quantity.Local o) q e)
operation_from (World o) q e = ap operation_of (same_Some (quantity.World o) q e)
operation_from (PoseInit o) q e = cc
operation_from (Bone o b) q e = ap operation_of (same_Some (quantity.Bone o b) q e)
operation_from (PoseDone o) q e = cc
operation_from (Layer p l) q e = ap operation_of (same_Some (quantity.Layer p l) q e)
operation_from (Geometry o) q e = ap operation_of (same_Some (quantity.Geom o 0) q e)
operation_from (ModifierOp o zero) q e = cc
operation_from (ModifierOp o (suc i)) q e = ap operation_of (same_Some (quantity.Geom o (suc i)) q e)
operation_from (GeometryDone o) q e = cc

-- an operation stands for a quantity exactly where it is the quantity's
pub quantity_of-is : (op : OpId) (q : Quantity) → quantity_of op ≡ Some q ↔ op ≡ operation_of q
quantity_of-is op q = (operation_from op q, λ e. ap quantity_of e ∙ quantity_of-operation_of q)

-- ---- in order

module _ {X Y : Type 0} (h : X → Option Y) where
  -- what a list of lists leaves
  filter_map-flat_map : {Z : Type 0} (f : Z → List X) (g : Z → List Y) → ((z : Z) → filter_map h (f z) ≡ g z) → (zs : List Z) → filter_map h (flat_map f zs) ≡ flat_map g zs
  filter_map-flat_map f g e [] = refl
  filter_map-flat_map f g e (z ∷ zs) = filter_map-append h (f z) (flat_map f zs) ∙ (λ i. e z i ++ filter_map-flat_map f g e zs i)

  -- a list of which each stands for one
  filter_map-map : {Z : Type 0} (f : Z → X) (g : Z → Y) → ((z : Z) → h (f z) ≡ Some (g z)) → (zs : List Z) → filter_map h (map f zs) ≡ map g zs
  filter_map-map f g e [] = refl
  filter_map-map f g e (z ∷ zs) = λ i. cons_option (e z i) (filter_map-map f g e zs i)

no_animation : (scene : SceneRecord) (id : AnimId) (b : Bool) → filter_map quantity_of (cond b (Animation id ∷ []) []) ≡ []
no_animation scene id true = refl
no_animation scene id false = refl

-- the operations of an id that come first are its animation and its drivers
of_drivers : (scene : SceneRecord) (id : AnimId) (rest : List OpId) → filter_map quantity_of (animation_of scene id ++ driver_operations scene id ++ rest) ≡ chans_of scene id ++ filter_map quantity_of rest
of_drivers scene id rest =
    filter_map-append quantity_of (animation_of scene id ++ driver_operations scene id) rest
    ∙ ap (λ qs. qs ++ filter_map quantity_of rest)
    (filter_map-append quantity_of (animation_of scene id) (driver_operations scene id)
    ∙ (λ i. no_animation scene id (has_action scene id) i ++ filter_map-map quantity_of (λ (d : DriverRecord). Driver d.id d.path) (λ d. quantity.Chan d.id d.path) (λ d. refl) (drivers_of scene id) i))

of_pencil : (scene : SceneRecord) (p : ℕ) (pencil : PencilData) → filter_map quantity_of (pencil_operations scene p pencil) ≡ pencil_quantities scene p pencil
of_pencil scene p pencil =
    of_drivers scene (anim.Pencil p) (map (Layer p) (range_with_len 0 (length pencil.layers)))
    ∙ ap (λ qs. chans_of scene (anim.Pencil p) ++ qs) (filter_map-map quantity_of (Layer p) (quantity.Layer p) (λ l. refl) (range_with_len 0 (length pencil.layers)))

one_more : (a : ℕ) → suc a ≡ a + 1
one_more a = omega arith

-- modifiers from a number above 0 on
of_modifiers : (o : ObjectId) (a n : ℕ) → filter_map quantity_of (map (ModifierOp o) (range_with_len (suc a) n)) ≡ map (quantity.Geom o) (range_with_len (suc a) n)
of_modifiers o a zero = refl
of_modifiers o a (suc n) =
    ap (λ qs. quantity.Geom o (suc a) ∷ qs)
    (subst (λ next. filter_map quantity_of (map (ModifierOp o) (range_with_len next n)) ≡ map (quantity.Geom o) (range_with_len next n)) (one_more (suc a)) (of_modifiers o (suc a) n))

of_kind : (o : ObjectId) (k : Kind) → filter_map quantity_of (kind_operations o k) ≡ kind_quantities o k
of_kind o kind.Empty = refl
of_kind o (kind.Armature armature pose) =
    filter_map-append quantity_of (map (Bone o) (range_with_len 0 (length pose))) (PoseDone o ∷ [])
    ∙ append-nil (filter_map quantity_of (map (Bone o) (range_with_len 0 (length pose))))
    ∙ filter_map-map quantity_of (Bone o) (quantity.Bone o) (λ b. refl) (range_with_len 0 (length pose))
of_kind o (kind.Pencil pencil modifiers) =
    ap (λ qs. quantity.Geom o 0 ∷ qs)
    (filter_map-append quantity_of (map (ModifierOp o) (range_with_len 1 (length modifiers))) (GeometryDone o ∷ [])
    ∙ append-nil (filter_map quantity_of (map (ModifierOp o) (range_with_len 1 (length modifiers))))
    ∙ of_modifiers o 0 (length modifiers))
    ∙ ap (λ n. map (quantity.Geom o) (range_with_len 0 n)) (one_more (length modifiers))

of_object : (scene : SceneRecord) (o : Object) → filter_map quantity_of (object_operations scene o) ≡ object_quantities scene o
of_object scene o =
    of_drivers scene (anim.Object o.id) (Local o.id ∷ World o.id ∷ kind_operations o.id o.kind)
    ∙ ap (λ qs. chans_of scene (anim.Object o.id) ++ quantity.Local o.id ∷ quantity.World o.id ∷ qs) (of_kind o.id o.kind)

-- the quantities, in the order of the operations that stand for them
pub quantities_in_order : (scene : SceneRecord) → filter_map quantity_of (operations scene) ≡ quantities scene
quantities_in_order scene =
    filter_map-append quantity_of (flat_map (λ e. pencil_operations scene e.0 e.1) (enumerate_from 0 scene.pencils)) (flat_map (object_operations scene) scene.objects)
    ∙ (λ i. filter_map-flat_map quantity_of (λ (e : ℕ × PencilData). pencil_operations scene e.0 e.1) (λ e. pencil_quantities scene e.0 e.1) (λ e. of_pencil scene e.0 e.1) (enumerate_from 0 scene.pencils) i
    ++ filter_map-flat_map quantity_of (object_operations scene) (object_quantities scene) (of_object scene) scene.objects i)

-- The operations of a scene are those whose parts it has, and what an operation needs is one of them.
use Rattle.std.specs.Prelude.{◌≡◌, ◌↔◌, ℕ, zero, suc, ◌≤◌, [], ◌∷◌, ◌++◌, map, length, Bool, true, false, IsTrue, Option, Some, None, slice_get, if◌then◌else◌, nat_le, Contains, All}
use Rattle.std.specs.Option.{option_map_or}
use Rattle.std.specs.List.{flat_map, range_with_len, enumerate_from}
use Rattle.std.proofs.Common.{refl, sym, ap, subst, arith, ◌∙◌, true≢false}
use Rattle.std.proofs.lemmas.Bool.{and_parts, and_from, le-leb}
use Rattle.std.proofs.lemmas.List.Elements.{All-nil, All-cons, All-append, All-map, All-contains, All-weaker, Contains-append_left, Contains-append_right}
use Rattle.rig_cycles.specs.Elements.{element_first, element_later}
use Rattle.rig_scene.specs.Pairs.{All-flat_map}
use Rattle.rig_scene.specs.declared.id.AnimId.{AnimId}
use Rattle.rig_scene.specs.declared.id.AnimId.TheVariants as anim
use Rattle.rig_scene.specs.declared.id.ObjectId.{ObjectId}
use Rattle.rig_scene.specs.declared.object.Kind.{Kind}
use Rattle.rig_scene.specs.declared.object.Kind.TheVariants as kind
use Rattle.rig_scene.specs.declared.object.Object.{Object}
use Rattle.rig_scene.specs.declared.operation.OpId.{OpId}
use Rattle.rig_scene.specs.declared.operation.OpId.TheVariants.{Time, Animation, Driver, Local, World, PoseInit, Bone, PoseDone, Layer, Geometry, ModifierOp, GeometryDone}
use Rattle.rig_scene.specs.declared.pencil.PencilData.{PencilData}
use Rattle.rig_scene.specs.declared.quantity.Quantity.{Quantity}
use Rattle.rig_scene.specs.declared.quantity.Quantity.TheVariants as quantity
use Rattle.rig_scene.specs.Scene.{SceneRecord, object_of}
use Rattle.rig_scene.specs.WellFormed.{is_scene}
use Rattle.rig_scene.specs.Drivers.{drivers_of, has_action, action_index}
use Rattle.rig_scene.specs.Quantities.{quantities}
use Rattle.rig_scene.specs.Operations.{animation_of, driver_operations, pencil_operations, kind_operations, object_operations, operations, operation_of}
use Rattle.rig_scene.specs.StandsFor.{quantity_of}
use Rattle.rig_scene.specs.Order.{quantities_in_order, quantity_of-is}
use Rattle.rig_laws.specs.Lists.{All-of_any, All-one, All-elements, All-between, All-filter_map, Contains-flat_map, Contains-numbered, Contains-filter_map, option_and_then-Some, is_some-Some, some_where}
use Rattle.rig_laws.specs.FoundObject.{found_id, found_object}
use Rattle.rig_laws.specs.Members.{has_modifiers, has_geometry, is_posed, has_pose, has_quantity, has_operation}
use Rattle.rig_laws.specs.HasQuantity.{object_found, quantities_are_there, quantity_is_there}

-- the operation that stands for a quantity is there where the quantity is
pub of_quantity : (s : SceneRecord) (q : Quantity) → IsTrue (has_quantity s q) → IsTrue (has_operation s (operation_of q))
of_quantity s (quantity.Chan id p) h = h
of_quantity s (quantity.Local o) h = h
of_quantity s (quantity.World o) h = h
of_quantity s (quantity.Bone o b) h = h
of_quantity s (quantity.Layer p l) h = h
of_quantity s (quantity.Geom o zero) h = h
of_quantity s (quantity.Geom o (suc i)) h = and_from (nat_le 1 (suc i)) (has_geometry s o (suc i)) (le-leb 1 (suc i) (omega arith)) h

-- an operation that stands for no quantity is there
abbrev IsOther : SceneRecord → OpId → Type 0
IsOther s op = quantity_of op ≡ None → IsTrue (has_operation s op)

module _ (s : SceneRecord) (met : IsTrue (is_scene s)) where
  -- ---- each operation of a scene is there

  pub animation_there : (id : AnimId) → All (λ op. IsTrue (has_operation s op)) (animation_of s id)
  animation_there id = by (has_action s id) refl
    where
      by : (b : Bool) → has_action s id ≡ b → All (λ op. IsTrue (has_operation s op)) (if b then Animation id ∷ [] else [])
      by true e = All-one (λ op. IsTrue (has_operation s op)) (Animation id) e
      by false e = All-nil (λ op. IsTrue (has_operation s op))

  opening_others : (id : AnimId) → All (IsOther s) (animation_of s id ++ driver_operations s id)
  opening_others id =
      All-append (IsOther s) (animation_of s id) (driver_operations s id)
      (All-weaker (λ op. IsTrue (has_operation s op)) (IsOther s) (λ op h e. h) (animation_of s id) (animation_there id))
      (All-map (IsOther s) (λ d. Driver d.id d.path) (drivers_of s id) (All-of_any (λ d. IsOther s (Driver d.id d.path)) (drivers_of s id) (λ d e. absurd (cc))))

  pencil_others : (p : ℕ) (pencil : PencilData) → All (IsOther s) (pencil_operations s p pencil)
  pencil_others p pencil =
      All-append (IsOther s) (animation_of s (anim.Pencil p) ++ driver_operations s (anim.Pencil p)) (map (Layer p) (range_with_len 0 (length pencil.layers))) (opening_others (anim.Pencil p))
      (All-map (IsOther s) (Layer p) (range_with_len 0 (length pencil.layers)) (All-of_any (λ l. IsOther s (Layer p l)) (range_with_len 0 (length pencil.layers)) (λ l e. absurd (cc))))

  pose_there : (o : Object) → Contains s.objects o → is_posed o.kind ≡ true → IsTrue (has_pose s o.id)
  pose_there o e h = ap (λ f. option_map_or (λ object. is_posed object.kind) f false) (object_found s met o e) ∙ h

  geometry_there : (o : Object) → Contains s.objects o → (i : ℕ) → has_modifiers i o.kind ≡ true → IsTrue (has_geometry s o.id i)
  geometry_there o e i h = ap (λ f. option_map_or (λ object. has_modifiers i object.kind) f false) (object_found s met o e) ∙ h

  modifier_other : (o : ObjectId) (i : ℕ) → 1 ≤ i → IsOther s (ModifierOp o i)
  modifier_other o zero l e = absurd (omega arith)
  modifier_other o (suc i) l e = absurd (cc)

  kind_others : (o : Object) → Contains s.objects o → (k : Kind) → o.kind ≡ k → All (IsOther s) (kind_operations o.id k)
  kind_others o e kind.Empty f = All-nil (IsOther s)
  kind_others o e (kind.Armature n pose) f =
      let there : IsTrue (has_pose s o.id) = pose_there o e (ap is_posed f) in
      All-cons (IsOther s) (PoseInit o.id) (map (Bone o.id) (range_with_len 0 (length pose)) ++ PoseDone o.id ∷ []) (λ n. there)
      (All-append (IsOther s) (map (Bone o.id) (range_with_len 0 (length pose))) (PoseDone o.id ∷ [])
      (All-map (IsOther s) (Bone o.id) (range_with_len 0 (length pose)) (All-of_any (λ b. IsOther s (Bone o.id b)) (range_with_len 0 (length pose)) (λ b e. absurd (cc))))
      (All-one (IsOther s) (PoseDone o.id) (λ n. there)))
  kind_others o e (kind.Pencil p modifiers) f =
      let there : IsTrue (has_geometry s o.id 0) = geometry_there o e 0 (ap (has_modifiers 0) f ∙ le-leb 0 (length modifiers) (omega arith)) in
      All-cons (IsOther s) (Geometry o.id) (map (ModifierOp o.id) (range_with_len 1 (length modifiers)) ++ GeometryDone o.id ∷ []) (λ n. there)
      (All-append (IsOther s) (map (ModifierOp o.id) (range_with_len 1 (length modifiers))) (GeometryDone o.id ∷ [])
      (All-map (IsOther s) (ModifierOp o.id) (range_with_len 1 (length modifiers)) (All-between (λ i. IsOther s (ModifierOp o.id i)) 1 (length modifiers) (λ i l m. modifier_other o.id i l)))
      (All-one (IsOther s) (GeometryDone o.id) (λ n. there)))

  object_others : (o : Object) → Contains s.objects o → All (IsOther s) (object_operations s o)
  object_others o e =
      All-append (IsOther s) (animation_of s (anim.Object o.id) ++ driver_operations s (anim.Object o.id)) (Local o.id ∷ World o.id ∷ kind_operations o.id o.kind) (opening_others (anim.Object o.id))
      (All-cons (IsOther s) (Local o.id) (World o.id ∷ kind_operations o.id o.kind) (λ n. absurd (cc))
      (All-cons (IsOther s) (World o.id) (kind_operations o.id o.kind) (λ n. absurd (cc)) (kind_others o e o.kind refl)))

  others : All (IsOther s) (operations s)
  others =
      All-cons (IsOther s) Time (flat_map (λ e. pencil_operations s e.0 e.1) (enumerate_from 0 s.pencils) ++ flat_map (object_operations s) s.objects) (λ e. refl)
      (All-append (IsOther s) (flat_map (λ e. pencil_operations s e.0 e.1) (enumerate_from 0 s.pencils)) (flat_map (object_operations s) s.objects)
      (All-flat_map (IsOther s) (λ e. pencil_operations s e.0 e.1) (enumerate_from 0 s.pencils)
      (All-of_any (λ e. All (IsOther s) (pencil_operations s e.0 e.1)) (enumerate_from 0 s.pencils) (λ e. pencil_others e.0 e.1)))
      (All-flat_map (IsOther s) (object_operations s) s.objects (All-elements (λ o. All (IsOther s) (object_operations s o)) s.objects object_others)))

  pub operation_has : (op : OpId) → Contains (operations s) op → IsTrue (has_operation s op)
  operation_has op within = by (quantity_of op) refl
    where
      by : (o : Option Quantity) → quantity_of op ≡ o → IsTrue (has_operation s op)
      by None e = All-contains (IsOther s) (operations s) op others within e
      by (Some q) e =
          let there : Contains (quantities s) q = subst (λ l. Contains l q) (quantities_in_order s) (Contains-filter_map quantity_of (operations s) op q within e) in
          subst (λ x. IsTrue (has_operation s x)) (sym ((quantity_of-is op q).0 e))
          (of_quantity s q (All-contains (λ q. IsTrue (has_quantity s q)) (quantities s) q (quantities_are_there s met) there))

  -- ---- what is there is an operation of the scene

  pub quantity_operation : (q : Quantity) → IsTrue (has_quantity s q) → Contains (operations s) (operation_of q)
  quantity_operation q h =
      All-contains (λ q. Contains (operations s) (operation_of q)) (quantities s) q
      (subst (λ l. All (λ q. Contains (operations s) (operation_of q)) l) (quantities_in_order s)
      (All-filter_map (Contains (operations s)) (λ q. Contains (operations s) (operation_of q)) quantity_of (operations s)
      (λ op q c e. subst (Contains (operations s)) ((quantity_of-is op q).0 e) c)
      (All-elements (Contains (operations s)) (operations s) (λ op c. c))))
      (quantity_is_there s met q h)

  in_pencil : (p : ℕ) (pencil : PencilData) → slice_get s.pencils p ≡ Some pencil → (op : OpId) → Contains (animation_of s (anim.Pencil p)) op → Contains (operations s) op
  in_pencil p pencil e op h =
      element_later Time _ op
      (Contains-append_left (flat_map (λ e. pencil_operations s e.0 e.1) (enumerate_from 0 s.pencils)) (flat_map (object_operations s) s.objects) op
      (Contains-flat_map (λ e. pencil_operations s e.0 e.1) (enumerate_from 0 s.pencils) (p, pencil) op (Contains-numbered s.pencils p pencil e)
      (Contains-append_left (animation_of s (anim.Pencil p) ++ driver_operations s (anim.Pencil p)) (map (Layer p) (range_with_len 0 (length pencil.layers))) op
      (Contains-append_left (animation_of s (anim.Pencil p)) (driver_operations s (anim.Pencil p)) op h))))

  in_object : (o : Object) → Contains s.objects o → (op : OpId) → Contains (object_operations s o) op → Contains (operations s) op
  in_object o e op h =
      element_later Time _ op
      (Contains-append_right (flat_map (λ e. pencil_operations s e.0 e.1) (enumerate_from 0 s.pencils)) (flat_map (object_operations s) s.objects) op
      (Contains-flat_map (object_operations s) s.objects o op e h))

  in_kind : (o : Object) → Contains s.objects o → (k : Kind) → o.kind ≡ k → (op : OpId) → Contains (kind_operations o.id k) op → Contains (operations s) op
  in_kind o e k f op h =
      in_object o e op
      (Contains-append_right (animation_of s (anim.Object o.id) ++ driver_operations s (anim.Object o.id)) (Local o.id ∷ World o.id ∷ kind_operations o.id o.kind) op
      (element_later (Local o.id) (World o.id ∷ kind_operations o.id o.kind) op
      (element_later (World o.id) (kind_operations o.id o.kind) op (subst (λ k. Contains (kind_operations o.id k) op) (sym f) h))))

  animated : (id : AnimId) → IsTrue (has_action s id) → Contains (animation_of s id) (Animation id)
  animated id h = subst (λ b. Contains (if b then Animation id ∷ [] else []) (Animation id)) (sym h) (element_first (Animation id) [])

  animation_operation : (id : AnimId) → IsTrue (has_action s id) → Contains (operations s) (Animation id)
  animation_operation (anim.Object o) h =
      let number = is_some-Some (action_index s (anim.Object o)) h in
      let found = option_and_then-Some (λ object. object.action) (object_of s o) number.0 number.1 in
      let object = found.0 in
      in_object object (found_object s o object found.1) (Animation (anim.Object o))
      (Contains-append_left (animation_of s (anim.Object object.id) ++ driver_operations s (anim.Object object.id)) (Local object.id ∷ World object.id ∷ kind_operations object.id object.kind) (Animation (anim.Object o))
      (Contains-append_left (animation_of s (anim.Object object.id)) (driver_operations s (anim.Object object.id)) (Animation (anim.Object o))
      (subst (λ id. Contains (animation_of s (anim.Object id)) (Animation (anim.Object o))) (sym (found_id s o object found.1)) (animated (anim.Object o) h))))
  animation_operation (anim.Pencil p) h =
      let number = is_some-Some (action_index s (anim.Pencil p)) h in
      let found = option_and_then-Some (λ pencil. pencil.action) (slice_get s.pencils p) number.0 number.1 in
      in_pencil p found.0 found.1 (Animation (anim.Pencil p)) (animated (anim.Pencil p) h)

  posed : (o : Object) → Contains s.objects o → (k : Kind) → o.kind ≡ k → is_posed k ≡ true → Contains (operations s) (PoseInit o.id) × Contains (operations s) (PoseDone o.id)
  posed o e kind.Empty f h = absurd (true≢false (sym h))
  posed o e (kind.Armature n pose) f h = (
    in_kind o e (kind.Armature n pose) f (PoseInit o.id) (element_first (PoseInit o.id) _),
    in_kind o e (kind.Armature n pose) f (PoseDone o.id)
        (element_later (PoseInit o.id) (map (Bone o.id) (range_with_len 0 (length pose)) ++ PoseDone o.id ∷ []) (PoseDone o.id)
        (Contains-append_right (map (Bone o.id) (range_with_len 0 (length pose))) (PoseDone o.id ∷ []) (PoseDone o.id) (element_first (PoseDone o.id) []))),
  )
  posed o e (kind.Pencil p modifiers) f h = absurd (true≢false (sym h))

  pose_operations : (o : ObjectId) → IsTrue (has_pose s o) → Contains (operations s) (PoseInit o) × Contains (operations s) (PoseDone o)
  pose_operations o h =
      let found = some_where (λ object. is_posed object.kind) (object_of s o) h in
      subst (λ id. Contains (operations s) (PoseInit id) × Contains (operations s) (PoseDone id)) (found_id s o found.0 found.1)
      (posed found.0 (found_object s o found.0 found.1) found.0.kind refl found.2)

  ended : (o : Object) → Contains s.objects o → (k : Kind) → o.kind ≡ k → has_modifiers 0 k ≡ true → Contains (operations s) (GeometryDone o.id)
  ended o e kind.Empty f h = absurd (true≢false (sym h))
  ended o e (kind.Armature n pose) f h = absurd (true≢false (sym h))
  ended o e (kind.Pencil p modifiers) f h =
      in_kind o e (kind.Pencil p modifiers) f (GeometryDone o.id)
      (element_later (Geometry o.id) (map (ModifierOp o.id) (range_with_len 1 (length modifiers)) ++ GeometryDone o.id ∷ []) (GeometryDone o.id)
      (Contains-append_right (map (ModifierOp o.id) (range_with_len 1 (length modifiers))) (GeometryDone o.id ∷ []) (GeometryDone o.id) (element_first (GeometryDone o.id) [])))

  pub has_operation_is : (op : OpId) → IsTrue (has_operation s op) → Contains (operations s) op
  has_operation_is Time h = element_first Time _
  has_operation_is (Animation id) h = animation_operation id h
  has_operation_is (Driver id p) h = quantity_operation (quantity.Chan id p) h
  has_operation_is (Local o) h = quantity_operation (quantity.Local o) h
  has_operation_is (World o) h = quantity_operation (quantity.World o) h
  has_operation_is (PoseInit o) h = (pose_operations o h).0
  has_operation_is (Bone o b) h = quantity_operation (quantity.Bone o b) h
  has_operation_is (PoseDone o) h = (pose_operations o h).1
  has_operation_is (Layer p l) h = quantity_operation (quantity.Layer p l) h
  has_operation_is (Geometry o) h = quantity_operation (quantity.Geom o 0) h
  has_operation_is (ModifierOp o zero) h = absurd (true≢false (sym h))
  has_operation_is (ModifierOp o (suc i)) h = quantity_operation (quantity.Geom o (suc i)) (and_parts (nat_le 1 (suc i)) (has_geometry s o (suc i)) h).1
  has_operation_is (GeometryDone o) h =
      let found = some_where (λ object. has_modifiers 0 object.kind) (object_of s o) h in
      subst (λ id. Contains (operations s) (GeometryDone id)) (found_id s o found.0 found.1)
      (ended found.0 (found_object s o found.0 found.1) found.0.kind refl found.2)

  pub operation_exactly : (op : OpId) → Contains (operations s) op ↔ IsTrue (has_operation s op)
  operation_exactly op = (operation_has op, has_operation_is op)

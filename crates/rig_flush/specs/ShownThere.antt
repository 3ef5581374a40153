-- The operations that a frame shows are operations of the scene.
use Rattle.std.specs.Prelude.{ℕ, [], ◌∷◌, ◌++◌, length, map, Contains, All}
use Rattle.std.specs.List.{flat_map, range_with_len, enumerate_from}
use Rattle.std.proofs.lemmas.List.Elements.{All-cons, Contains-append_left, Contains-append_right}
use Rattle.rig_cycles.specs.Elements.{element_first, element_later}
use Rattle.rig_laws.specs.Lists.{All-elements, Contains-flat_map}
use Rattle.rig_scene.specs.declared.id.AnimId.TheVariants as anim
use Rattle.rig_scene.specs.declared.id.ObjectId.{ObjectId}
use Rattle.rig_scene.specs.declared.object.Kind.{Kind}
use Rattle.rig_scene.specs.declared.object.Kind.TheVariants.{Empty, Armature, Pencil}
use Rattle.rig_scene.specs.declared.object.Object.{Object}
use Rattle.rig_scene.specs.declared.operation.OpId.{OpId}
use Rattle.rig_scene.specs.declared.operation.OpId.TheVariants.{Time, Local, World, PoseInit, Bone, PoseDone, Geometry, ModifierOp, GeometryDone}
use Rattle.rig_scene.specs.declared.pencil.PencilData.{PencilData}
use Rattle.rig_scene.specs.Operations.{animation_of, driver_operations, pencil_operations, kind_operations, object_operations, operations}
use Rattle.rig_scene.specs.Pairs.{All-flat_map}
use Rattle.rig_scene.specs.Scene.{SceneRecord}
use Rattle.rig_flush.specs.Shown.{shown_of_kind, shown_operations}

-- they are operations of the object's kind
shown_in_kind : (o : ObjectId) (k : Kind) (op : OpId) → Contains (shown_of_kind o k) op → Contains (kind_operations o k) op
shown_in_kind o Empty op h = h
shown_in_kind o (Armature armature pose) op h =
    element_later (PoseInit o) (map (Bone o) (range_with_len 0 (length pose)) ++ PoseDone o ∷ []) op
    (Contains-append_left (map (Bone o) (range_with_len 0 (length pose))) (PoseDone o ∷ []) op h)
shown_in_kind o (Pencil pencil modifiers) op h =
    element_later (Geometry o) (map (ModifierOp o) (range_with_len 1 (length modifiers)) ++ GeometryDone o ∷ []) op
    (Contains-append_right (map (ModifierOp o) (range_with_len 1 (length modifiers))) (GeometryDone o ∷ []) op h)

module _ (s : SceneRecord) where
  in_object : (o : Object) → Contains s.objects o → (op : OpId) → Contains (World o.id ∷ kind_operations o.id o.kind) op
      → Contains (operations s) op
  in_object o e op h =
      let id = anim.Object o.id in
      let pencils = flat_map (λ (e : ℕ × PencilData). pencil_operations s e.0 e.1) (enumerate_from 0 s.pencils) in
      let transforms = World o.id ∷ kind_operations o.id o.kind in
      element_later Time _ op
      (Contains-append_right pencils (flat_map (object_operations s) s.objects) op
      (Contains-flat_map (object_operations s) s.objects o op e
      (Contains-append_right (animation_of s id ++ driver_operations s id) (Local o.id ∷ transforms) op
      (element_later (Local o.id) transforms op h))))

  object_shown : (o : Object) → Contains s.objects o → All (Contains (operations s)) (World o.id ∷ shown_of_kind o.id o.kind)
  object_shown o e =
      All-cons (Contains (operations s)) (World o.id) (shown_of_kind o.id o.kind)
      (in_object o e (World o.id) (element_first (World o.id) (kind_operations o.id o.kind)))
      (All-elements (Contains (operations s)) (shown_of_kind o.id o.kind)
      (λ op h. in_object o e op (element_later (World o.id) (kind_operations o.id o.kind) op (shown_in_kind o.id o.kind op h))))

  pub all_shown : All (Contains (operations s)) (shown_operations s)
  all_shown =
      All-flat_map (Contains (operations s)) (λ o. World o.id ∷ shown_of_kind o.id o.kind) s.objects (All-elements _ s.objects object_shown)

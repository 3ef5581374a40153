use Rattle.std.proofs.Common.{◌≡◌, ◌++◌, List, drop, map, filter}
use Rattle.rig_scene.specs.declared.object.Object.{Object}
use Rattle.rig_scene.specs.declared.operation.OpId.{OpId}
use Rattle.rig_scene.specs.declared.operation.OpId.TheVariants as op
use Rattle.rig_touch.specs.Touch.{has_pencil}
use Rattle.rig_touch.proofs.pencil.push_geometries.Given as goal

abbrev pub invariant-loop-object : goal.invariant-loop-object
invariant-loop-object l =
    let geometries : List Object → List OpId = λ objects. map (λ o. op.Geometry o.id) (filter (λ o. has_pencil l.pencil o.kind) objects) in
    l.ops ++ geometries (drop l.object-index l.objects) ≡ l.initial.ops ++ geometries l.objects

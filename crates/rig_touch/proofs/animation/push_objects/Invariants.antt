use Rattle.std.proofs.Common.{◌≡◌, ◌++◌, List, drop, map, filter}
use Rattle.rig_scene.specs.declared.id.AnimId.TheVariants as anim
use Rattle.rig_scene.specs.declared.object.Object.{Object}
use Rattle.rig_scene.specs.declared.operation.OpId.{OpId}
use Rattle.rig_scene.specs.declared.operation.OpId.TheVariants as op
use Rattle.rig_touch.specs.Touch.{uses_action}
use Rattle.rig_touch.proofs.animation.push_objects.Given as goal

abbrev pub invariant-loop-object : goal.invariant-loop-object
invariant-loop-object l =
    let animations : List Object → List OpId = λ objects. map (λ o. op.Animation (anim.Object o.id)) (filter (λ o. uses_action l.action o.action) objects) in
    l.ops ++ animations (drop l.object-index l.objects) ≡ l.initial.ops ++ animations l.objects

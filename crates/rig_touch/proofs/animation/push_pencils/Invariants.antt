use Rattle.std.proofs.Common.{◌≡◌, ◌++◌, ℕ, List, drop, map, filter}
use Rattle.std.specs.List.{enumerate_from}
use Rattle.rig_scene.specs.declared.id.AnimId.TheVariants as anim
use Rattle.rig_scene.specs.declared.operation.OpId.{OpId}
use Rattle.rig_scene.specs.declared.operation.OpId.TheVariants as op
use Rattle.rig_scene.specs.declared.pencil.PencilData.{PencilData}
use Rattle.rig_touch.specs.Touch.{uses_action}
use Rattle.rig_touch.proofs.animation.push_pencils.Given as goal

abbrev pub invariant-loop-p : goal.invariant-loop-p
invariant-loop-p l =
    let animations : List (ℕ × PencilData) → List OpId = λ pencils. map (λ e. op.Animation (anim.Pencil e.0)) (filter (λ e. uses_action l.action e.1.action) pencils) in
    l.ops ++ animations (enumerate_from l.p (drop l.p l.pencils)) ≡ l.initial.ops ++ animations (enumerate_from 0 l.pencils)

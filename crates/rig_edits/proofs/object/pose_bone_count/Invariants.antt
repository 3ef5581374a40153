use Rattle.std.proofs.Common.{◌≡◌, ◌+◌, drop, sum_by}
use Rattle.rig_scene.specs.WellFormed.{pose_count}
use Rattle.rig_edits.proofs.object.pose_bone_count.Given as goal

abbrev pub invariant-loop-object : goal.invariant-loop-object
invariant-loop-object l =
    l.count + sum_by (λ o. pose_count o.kind) (drop l.object-index l.object-items) ≡ sum_by (λ o. pose_count o.kind) l.objects

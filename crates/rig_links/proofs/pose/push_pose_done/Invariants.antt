use Rattle.std.proofs.Common.{◌≡◌, ◌+◌, ◌++◌, map}
use Rattle.std.specs.List.{range_with_len}
use Rattle.rig_links.specs.Numbers.{between}
use Rattle.rig_links.proofs.pose.push_pose_done.Given as goal

abbrev pub invariant-loop-bone : goal.invariant-loop-bone
invariant-loop-bone l = l.links.items ≡ l.initial.links.items ++ map (λ b. between l.reader (l.start + 1 + b)) (range_with_len 0 l.bone)

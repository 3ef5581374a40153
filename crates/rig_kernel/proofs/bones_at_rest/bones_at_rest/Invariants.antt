use Rattle.std.proofs.Common.{◌≡◌, length}
use Rattle.rig_kernel.proofs.RestBones.{AreAtRest}
use Rattle.rig_kernel.proofs.bones_at_rest.bones_at_rest.Given as goal

abbrev pub invariant-loop-bone : goal.invariant-loop-bone
invariant-loop-bone l = (length l.at_rest ≡ l.bone-index) × AreAtRest l.bones l.at_rest

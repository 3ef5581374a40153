use Rattle.std.proofs.Common.{◌≡◌, length}
use Rattle.rig_flush.proofs.from_scratch.no_outputs.Given as goal

abbrev pub invariant-loop-n : goal.invariant-loop-n
invariant-loop-n l = length l.kept.items ≡ l._n

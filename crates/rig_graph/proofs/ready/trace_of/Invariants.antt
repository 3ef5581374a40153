use Rattle.std.proofs.Common.{◌≡◌, take}
use Rattle.rig_flush.specs.Evaluation.{marks_of}
use Rattle.rig_graph.proofs.ready.trace_of.Given as goal

abbrev pub invariant-loop-n : goal.invariant-loop-n
invariant-loop-n l = l.trace.items ≡ marks_of (take l.n-index l.numbers)

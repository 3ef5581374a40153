use Rattle.std.proofs.Common.{◌≡◌, take}
use Rattle.rig_flush.specs.Tables.{numbers_of}
use Rattle.rig_graph.proofs.last_plan.numbers_of.Given as goal

abbrev pub invariant-loop-index : goal.invariant-loop-index
invariant-loop-index l = l.numbers.items ≡ numbers_of l.nodes (take l.index l.tags)

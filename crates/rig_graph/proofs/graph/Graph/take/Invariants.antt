use Rattle.std.proofs.Common.{◌≡◌, take}
use Rattle.rig_graph.specs.State.{state_of}
use Rattle.rig_graph.specs.Taken.{taken_all}
use Rattle.rig_graph.proofs.graph.Graph.take.Given as goal

abbrev pub invariant-loop-entry : goal.invariant-loop-entry
invariant-loop-entry l = state_of l.self ≡ taken_all (state_of l.initial.self) (take l.entry-index l.entries)

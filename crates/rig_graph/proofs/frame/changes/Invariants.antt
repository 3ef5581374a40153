use Rattle.std.proofs.Common.{◌≡◌, ◌++◌, drop}
use Rattle.rig_graph.specs.Parts.{changes_of}
use Rattle.rig_graph.proofs.frame.changes.Given as goal

abbrev pub invariant-loop-index : goal.invariant-loop-index
invariant-loop-index l =
    l.changes.items ++ changes_of l.shown.members (drop l.index l.reached.members) (drop l.index l.results)
    ≡ changes_of l.shown.members l.reached.members l.results

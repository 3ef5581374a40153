use Rattle.std.proofs.Common.{◌≡◌, ◌++◌, map, take, Some}
use Rattle.rig_graph.specs.Parts.{given_at}
use Rattle.rig_graph.proofs.frame.add_shown.Given as goal

abbrev pub invariant-loop-n : goal.invariant-loop-n
invariant-loop-n l =
    (map Some l.done.outs
    ≡ map Some l.initial.done.outs ++ map (given_at l.reached.members l.results l.copies.kept) (take l.n-index l.shown))
    × (l.done.frame ≡ l.initial.done.frame) × (l.done.mode ≡ l.initial.done.mode) × (l.done.cuts ≡ l.initial.done.cuts)

use Rattle.std.proofs.Common.{◌≡◌, ◌++◌, drop}
use Rattle.std.specs.List.{flat_map}
use Rattle.rig_text.specs.Check.{cut_line}
use Rattle.rig_text.proofs.check.push_cuts.Given as goal

-- what is there, and the lines of the cut reads to come
abbrev pub invariant-loop-cut : goal.invariant-loop-cut
invariant-loop-cut l =
    l.text.items ++ flat_map (cut_line l.scene) (drop l.cut-index l.cuts) ≡ l.fn.text.items ++ flat_map (cut_line l.scene) l.cuts

use Rattle.std.proofs.Common.{◌≡◌, drop, not}
use Rattle.std.specs.List.{list_any}
use Rattle.rig_cut.specs.Graphs.{flag}
use Rattle.rig_cut.proofs.walk.is_any_kept.Given as goal

abbrev pub invariant-loop-link : goal.invariant-loop-link
invariant-loop-link l = list_any (λ j. not (flag l.cuts j)) (drop l.link-index l.links) ≡ list_any (λ j. not (flag l.cuts j)) l.links

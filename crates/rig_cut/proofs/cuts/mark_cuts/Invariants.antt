use Rattle.std.proofs.Common.{◌≡◌}
use Rattle.rig_cut.proofs.Listings.{flags_at}
use Rattle.rig_cut.proofs.cuts.mark_cuts.Given as goal

abbrev pub invariant-loop-i : goal.invariant-loop-i
invariant-loop-i l = record {
  count : l.found.count ≡ l.graph.nodes;
  flags : l.cuts ≡ flags_at l.links l.i;
}

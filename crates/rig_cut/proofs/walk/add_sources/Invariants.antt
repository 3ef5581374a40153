use Rattle.std.proofs.Common.{◌≡◌, take}
use Rattle.rig_cut.specs.Search.{with_sources}
use Rattle.rig_cut.proofs.walk.add_sources.Given as goal

abbrev pub invariant-loop-link : goal.invariant-loop-link
invariant-loop-link l = record {
  count : l.found.count ≡ l.initial.found.count;
  members : l.found.members ≡ with_sources l.graph l.cuts l.initial.found.members (take l.link-index l.links);
}

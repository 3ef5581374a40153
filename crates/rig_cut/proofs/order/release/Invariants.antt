use Rattle.std.specs.Prelude.{slice_index}
use Rattle.std.specs.List.{count_by}
use Rattle.std.proofs.Common.{◌≡◌, ℕ, ◌+◌, ◌<◌, take}
use Rattle.rig_cut.specs.NodeSets.{Begins}
use Rattle.rig_cut.specs.Release.{is_kept_into, AreReady}
use Rattle.rig_cut.proofs.order.release.Given as goal

abbrev pub invariant-loop-link : goal.invariant-loop-link
invariant-loop-link l = record {
  count : l.order.count ≡ l.graph.nodes;
  pending : (n : ℕ) → n < l.graph.nodes → slice_index l.pending n + count_by (is_kept_into l.graph l.cuts n) (take l.link-index l.links) ≡ slice_index l.initial.pending n;
  ready : AreReady l.graph.nodes l.pending l.order.members;
  first : Begins l.initial.order.members l.order.members;
}

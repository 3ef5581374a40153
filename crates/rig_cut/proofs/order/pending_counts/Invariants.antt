use Rattle.std.specs.Prelude.{slice_index}
use Rattle.std.specs.List.{count_by, range_with_len}
use Rattle.std.proofs.Common.{◌≡◌, ℕ, ◌<◌, take, length}
use Rattle.rig_cut.specs.Release.{is_kept_into}
use Rattle.rig_cut.proofs.order.pending_counts.Given as goal

abbrev pub invariant-loop-link : goal.invariant-loop-link
invariant-loop-link l = record {
  len : length l.pending.items ≡ l.graph.nodes;
  counts : (n : ℕ) → n < l.graph.nodes →
      slice_index l.pending.items n ≡ count_by (is_kept_into l.graph l.cuts n) (take l.link (range_with_len 0 (length l.graph.sources)));
}

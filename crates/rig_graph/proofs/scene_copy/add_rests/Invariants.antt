use Rattle.std.proofs.Common.{◌≡◌, ℕ, ◌<◌, length, get_or, slice_get, true, option_map}
use Rattle.rig_copies.specs.Copies.{kept_at}
use Rattle.rig_laws.specs.Output.{rest_output}
use Rattle.rig_links.specs.declared.table.In.{In}
use Rattle.rig_graph.proofs.scene_copy.add_rests.Given as goal

abbrev pub invariant-loop-link : goal.invariant-loop-link
invariant-loop-link l = record {
  one_each : length l.rests.items ≡ length l.nodes;
  added : (d : In) (k : ℕ) → k < l.link-index → (get_or l.row k d).cut ≡ true →
      kept_at l.rests.items (get_or l.row k d).source ≡ option_map rest_output (slice_get l.nodes (get_or l.row k d).source);
  others : (n : ℕ) → kept_at l.initial.rests.items n ≡ option_map rest_output (slice_get l.nodes n) →
      kept_at l.rests.items n ≡ option_map rest_output (slice_get l.nodes n);
}

use Rattle.std.proofs.Common.{◌≡◌, ℕ, ◌<◌, List, length, slice_get, true, Some, option_map}
use Rattle.std.specs.List.{Contains}
use Rattle.rig_copies.specs.Copies.{kept_at}
use Rattle.rig_laws.specs.Output.{rest_output}
use Rattle.rig_links.specs.declared.table.In.{In}
use Rattle.rig_graph.proofs.scene_copy.rest_outputs.Given as goal

abbrev pub invariant-loop-n : goal.invariant-loop-n
invariant-loop-n l = record {
  one_each : length l.rests.items ≡ length l.nodes;
  added : (k : ℕ) (row : List In) → k < l.n → slice_get l.links.ins k ≡ Some row → (i : In) → Contains row i → i.cut ≡ true →
      kept_at l.rests.items i.source ≡ option_map rest_output (slice_get l.nodes i.source);
}

use Rattle.std.proofs.Common.{◌≡◌, ◌≤◌, Some, length, map, take, vec_len, vec_capacity}
use Rattle.rig_flush.specs.Counted.{raised_by}
use Rattle.rig_graph.specs.Parts.{output_at_number}
use Rattle.rig_graph.proofs.run.run_reached.Given as goal

abbrev pub invariant-loop-place : goal.invariant-loop-place
invariant-loop-place g l = record {
  results : map Some l.results.items ≡ map (output_at_number l.copy.scene l.mode l.frame) (take l.place l.reached.members);
  copies : l.copies ≡ l.initial.copies;
  tally : g.Y.Tally.count l.tally ≡ raised_by l.place (g.Y.Tally.count l.initial.tally);
  len : vec_len l.results ≡ l.place;
  room : length l.reached.members ≤ vec_capacity l.results;
}

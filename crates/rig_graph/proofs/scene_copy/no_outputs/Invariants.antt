use Rattle.std.proofs.Common.{◌≡◌, length, vec_len, vec_capacity}
use Rattle.rig_graph.proofs.scene_copy.no_outputs.Given as goal

abbrev pub invariant-loop-n : goal.invariant-loop-n
invariant-loop-n l = record {
  items : length l.outs.items ≡ l._n;
  pushed : vec_len l.outs ≡ l._n;
  room : vec_capacity l.outs ≡ l.count;
}

use Rattle.std.proofs.Common.{◌≡◌, length, vec_len, vec_capacity}
use Rattle.rig_copies.proofs.room.moved_spares.Given as goal

abbrev pub invariant-loop-n : goal.invariant-loop-n
invariant-loop-n l = record {
  count : vec_len l.moved ≡ l.n;
  room : vec_capacity l.moved ≡ length l.new;
  length : length l.spares.items ≡ length l.initial.spares.items;
}

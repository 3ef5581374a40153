use Rattle.std.proofs.Common.{◌≡◌, ◌+◌, ◌++◌, replicate, None, vec_len, vec_capacity}
use Rattle.rig_copies.proofs.room.push_nothing.Given as goal

abbrev pub invariant-loop-index : goal.invariant-loop-index
invariant-loop-index g l = record {
  items : l.items.items ≡ l.initial.items.items ++ replicate l._index None;
  count : vec_len l.items ≡ vec_len l.initial.items + l._index;
  room : vec_capacity l.items ≡ vec_capacity l.initial.items;
}

use Rattle.std.proofs.Common.{◌≡◌, map, take, length, vec_len, vec_capacity}
use Rattle.rig_copies.specs.Keys.{key_for}
use Rattle.rig_copies.proofs.keys.moved_keys.Given as goal

abbrev pub invariant-loop-n : goal.invariant-loop-n
invariant-loop-n l = record {
  items : l.moved.items ≡ map (key_for l.old l.keys) (take l.n l.new);
  count : vec_len l.moved ≡ l.n;
  room : vec_capacity l.moved ≡ length l.new;
}

use Rattle.std.proofs.Common.{◌≡◌, map, take, slice_get, Some}
use Rattle.rig_flush.proofs.shown.numbers_of.Given as goal

abbrev pub invariant-loop-op : goal.invariant-loop-op
invariant-loop-op l = map (slice_get l.nodes) l.numbers.items ≡ map Some (take l.op-index l.ops)

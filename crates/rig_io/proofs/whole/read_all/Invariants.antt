-- The bytes so far are those that came, within the limit, and no read failed.
use Rattle.std.proofs.Common.{◌≡◌, ◌-◌, ◌≤◌, ◌<◌}
use Rattle.std.specs.Vec.{vec_len}
use Rattle.rig_io.specs.Bytes.{Gave}
use Rattle.rig_io.proofs.whole.read_all.Given as goal

abbrev pub invariant-loop-n : goal.invariant-loop-n
invariant-loop-n g l = record {
  within : vec_len l.bytes ≤ l.limit;
  room : 0 < vec_len l.piece;
  came : Gave (g.S.Source.left l.initial.source) (g.S.Source.left l.source) l.bytes.items;
  faults : g.S.Source.faults l.source ≡ g.S.Source.faults l.initial.source;
}

abbrev pub decreases-loop-n : goal.decreases-loop-n
decreases-loop-n g l = l.limit - vec_len l.bytes

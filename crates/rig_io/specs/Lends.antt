-- What a list ends as, where a `&mut` to one of its values is returned.
use Rattle.std.specs.Prelude.{ℕ, List, slice_set}
use Rattle.std.specs.Borrow.{Lends, Fml, RattleType, MutBor}
use Rattle.rig_io.specs.contracts.list.List.{the_row}

-- once the borrow r ends, the value at the index is the last one behind r
abbrev pub LendsValue : (T : RattleType) → MutBor (List T.Denot) → ℕ → MutBor T.Denot → Fml
LendsValue T l index r = Lends (the_row T) T l r (slice_set l.now index)

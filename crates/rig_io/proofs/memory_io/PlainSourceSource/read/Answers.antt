use Rattle.std.proofs.Common.{drop, ◌+◌, refl}
use Rattle.rig_io.proofs.Buffers.{piece_and_rest}
use Rattle.rig_io.proofs.memory_io.PlainSourceSource.read.Goals as goal

pub returns-clause-gave : goal.returns-clause-gave
returns-clause-gave c = (
  drop (c.self.inside.at + c.min-n.result) c.self.inside.bytes.items,
  piece_and_rest _ _ _ _ _ c.self.view_is (rw c.deref.ensures.value at c.copy_piece.ensures.prefix),
  refl,
)

use Rattle.std.proofs.Common.{arith}
use Rattle.rig_play.proofs.command.line_in.Goals as goal

pub returns-clause-bounds : goal.returns-clause-bounds
returns-clause-bounds c = record {
  workers = c.number.ensures.bounds _ (omega arith) c.requires.workers;
  size = c.number-2.ensures.bounds _ (omega arith) c.requires.size;
}

-- By the lemma on reads.
use Rattle.rig_laws.specs.ReadsClosed.{reads_closed}
use Rattle.rig_laws.proofs.reads.quantities_read_quantities.Goals as goal

pub returns : goal.returns
returns c = reads_closed

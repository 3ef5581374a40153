-- By the lemma on in-links.
use Rattle.rig_laws.specs.LinksClosed.{ins_closed}
use Rattle.rig_laws.proofs.operations.operations_need_operations.Goals as goal

pub returns : goal.returns
returns c = ins_closed

-- By the lemma on what an operation stands for.
use Rattle.rig_laws.specs.LinksTaken.{value_of_quantity}
use Rattle.rig_laws.proofs.kernel.values_of_operations.Goals as goal

pub returns : goal.returns
returns c = value_of_quantity

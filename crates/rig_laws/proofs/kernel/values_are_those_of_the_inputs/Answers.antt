-- By the lemma on given inputs.
use Rattle.rig_laws.specs.Follows.{value_from_inputs}
use Rattle.rig_laws.proofs.kernel.values_are_those_of_the_inputs.Goals as goal

pub returns : goal.returns
returns c = value_from_inputs

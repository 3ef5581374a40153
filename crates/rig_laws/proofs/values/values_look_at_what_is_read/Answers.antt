-- By the lemma on two functions that agree.
use Rattle.rig_laws.specs.SameValue.{value_same}
use Rattle.rig_laws.proofs.values.values_look_at_what_is_read.Goals as goal

pub returns : goal.returns
returns c = value_same

-- By the lemma on an operation that starts.
use Rattle.rig_flush.specs.RunRight.{start_is_right}
use Rattle.rig_flush.proofs.events.a_start_leaves_it_right.Goals as goal

pub returns : goal.returns
returns c g met right op can = start_is_right g right op can

-- By the lemma on an operation that finishes.
use Rattle.rig_flush.specs.RunRight.{finish_is_right}
use Rattle.rig_flush.proofs.events.a_finish_leaves_it_right.Goals as goal

pub returns : goal.returns
returns c = finish_is_right

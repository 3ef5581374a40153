use Rattle.rig_flush.specs.TakenFresh.{taken_is_fresh}
use Rattle.rig_flush.proofs.events.a_taken_edit_keeps_it_fresh.Goals as goal

pub returns : goal.returns
returns c = taken_is_fresh

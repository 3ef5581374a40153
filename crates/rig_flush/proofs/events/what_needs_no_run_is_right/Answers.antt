-- By the lemma on an evaluation that begins.
use Rattle.rig_flush.specs.Begun.{begun_is_right}
use Rattle.rig_flush.proofs.events.what_needs_no_run_is_right.Goals as goal

pub returns : goal.returns
returns c = begun_is_right

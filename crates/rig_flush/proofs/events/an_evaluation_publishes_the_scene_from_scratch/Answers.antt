-- By the lemmas on a whole evaluation.
use Rattle.rig_flush.specs.PublishedRight.{evaluation_publishes, evaluation_is_fresh, evaluation_leaves}
use Rattle.rig_flush.proofs.events.an_evaluation_publishes_the_scene_from_scratch.Goals as goal

pub returns : goal.returns
returns c = record { frame = evaluation_publishes; fresh = evaluation_is_fresh; scene = evaluation_leaves }

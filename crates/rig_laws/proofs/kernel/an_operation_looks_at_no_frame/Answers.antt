-- By the lemma on two frames.
use Rattle.rig_laws.specs.Follows.{looks_at_no_frame}
use Rattle.rig_laws.proofs.kernel.an_operation_looks_at_no_frame.Goals as goal

pub returns : goal.returns
returns c = looks_at_no_frame

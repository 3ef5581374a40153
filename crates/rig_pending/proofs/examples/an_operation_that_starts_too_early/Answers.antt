use Rattle.rig_pending.proofs.Traces.{not_in_order}
use Rattle.rig_pending.proofs.examples.an_operation_that_starts_too_early.Goals as goal

pub returns : goal.returns
returns c = not_in_order

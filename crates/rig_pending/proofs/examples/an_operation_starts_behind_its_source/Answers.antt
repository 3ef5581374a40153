use Rattle.rig_pending.proofs.Traces.{in_order}
use Rattle.rig_pending.proofs.examples.an_operation_starts_behind_its_source.Goals as goal

pub returns : goal.returns
returns c = in_order

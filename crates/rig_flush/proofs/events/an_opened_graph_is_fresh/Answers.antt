use Rattle.rig_flush.specs.Opened.{opened_is_fresh}
use Rattle.rig_flush.proofs.events.an_opened_graph_is_fresh.Goals as goal

pub returns : goal.returns
returns c = opened_is_fresh

use Rattle.rig_cycles.specs.RankOrder.{order_exists, acyclic_from_order}
use Rattle.rig_cycles.proofs.laws.an_order_is_there_where_there_is_no_cycle.Goals as goal

pub returns-clause-order : goal.returns-clause-order
returns-clause-order g c = order_exists

pub returns-clause-acyclic : goal.returns-clause-acyclic
returns-clause-acyclic g c = acyclic_from_order

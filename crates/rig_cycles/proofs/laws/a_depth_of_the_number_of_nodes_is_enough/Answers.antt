use Rattle.rig_cycles.specs.DepthIsEnough.{one_value, value_by_step}
use Rattle.rig_cycles.proofs.laws.a_depth_of_the_number_of_nodes_is_enough.Goals as goal

pub returns-clause-one_value : goal.returns-clause-one_value
returns-clause-one_value g c = λ same equal nodes reads acyclic. one_value same equal nodes reads acyclic

pub returns-clause-by_step : goal.returns-clause-by_step
returns-clause-by_step g c = λ same equal nodes reads acyclic. value_by_step same equal nodes reads acyclic

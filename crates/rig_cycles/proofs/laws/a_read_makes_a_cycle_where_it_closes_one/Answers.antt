use Rattle.rig_cycles.specs.Acyclic.{acyclic_one_more_iff}
use Rattle.rig_cycles.proofs.laws.a_read_makes_a_cycle_where_it_closes_one.Goals as goal

pub returns : goal.returns
returns g c = acyclic_one_more_iff

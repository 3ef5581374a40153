use Rattle.rig_cycles.specs.Acyclic.{acyclic_from_rank}
use Rattle.rig_cycles.specs.RankOrder.{rank_exists}
use Rattle.rig_cycles.proofs.laws.a_rank_falls_where_there_is_no_cycle.Goals as goal

pub returns-clause-acyclic : goal.returns-clause-acyclic
returns-clause-acyclic g c = acyclic_from_rank

pub returns-clause-rank : goal.returns-clause-rank
returns-clause-rank g c = rank_exists

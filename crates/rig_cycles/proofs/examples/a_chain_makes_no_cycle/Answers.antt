use Rattle.std.specs.Prelude.{◌-◌, [], ◌∷◌}
use Rattle.rig_cycles.specs.Examples.{chain}
use Rattle.rig_cycles.specs.RankOrder.{order_of_rank}
use Rattle.rig_cycles.proofs.Chain.{chain_rank, chain_acyclic, chain_closed}
use Rattle.rig_cycles.proofs.examples.a_chain_makes_no_cycle.Goals as goal

pub returns-clause-acyclic : goal.returns-clause-acyclic
returns-clause-acyclic c = chain_acyclic

pub returns-clause-rank : goal.returns-clause-rank
returns-clause-rank c = chain_rank

pub returns-clause-closed : goal.returns-clause-closed
returns-clause-closed c = chain_closed

pub returns-clause-order : goal.returns-clause-order
returns-clause-order c = order_of_rank (λ n. 3 - n) (1 ∷ 2 ∷ 3 ∷ []) chain chain_closed (λ read e h. chain_rank read e)

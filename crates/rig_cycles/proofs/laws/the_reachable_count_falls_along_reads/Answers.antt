use Rattle.rig_cycles.specs.DepthIsEnough.{reachable_falls, reachable_within}
use Rattle.rig_cycles.proofs.laws.the_reachable_count_falls_along_reads.Goals as goal

pub returns-clause-falls : goal.returns-clause-falls
returns-clause-falls g c = reachable_falls

pub returns-clause-at_most : goal.returns-clause-at_most
returns-clause-at_most g c = reachable_within

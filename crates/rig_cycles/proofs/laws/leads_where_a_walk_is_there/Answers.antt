use Rattle.rig_cycles.specs.Leads.{leads_decides, leads_within_decides}
use Rattle.rig_cycles.proofs.laws.leads_where_a_walk_is_there.Goals as goal

pub returns-clause-leads : goal.returns-clause-leads
returns-clause-leads g c = leads_decides

pub returns-clause-larger_bound : goal.returns-clause-larger_bound
returns-clause-larger_bound g c = leads_within_decides

use Rattle.rig_cycles.specs.Acyclic.{leads_then, leads_within_whole, leads_one_more, leads_closed}
use Rattle.rig_cycles.proofs.laws.leads_on_and_along_more_reads.Goals as goal

pub returns-clause-on : goal.returns-clause-on
returns-clause-on g c = leads_then

pub returns-clause-part : goal.returns-clause-part
returns-clause-part g c = leads_within_whole

pub returns-clause-one_more : goal.returns-clause-one_more
returns-clause-one_more g c = leads_one_more

pub returns-clause-closed : goal.returns-clause-closed
returns-clause-closed g c = leads_closed

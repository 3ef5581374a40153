use Rattle.rig_cycles.specs.CutOfNames.{leads_of_names, cut_of_names}
use Rattle.rig_cycles.proofs.laws.the_cut_of_names_is_the_cut.Goals as goal

pub returns-clause-leads : goal.returns-clause-leads
returns-clause-leads g c = leads_of_names

pub returns-clause-cuts : goal.returns-clause-cuts
returns-clause-cuts g c = λ nodes same same_name name apart kept rest k r. (cut_of_names nodes same same_name name apart kept rest k r).0

pub returns-clause-kept : goal.returns-clause-kept
returns-clause-kept g c = λ nodes same same_name name apart kept rest k r. (cut_of_names nodes same same_name name apart kept rest k r).1

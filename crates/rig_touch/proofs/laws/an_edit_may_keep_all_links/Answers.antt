use Rattle.rig_touch.specs.KeepsShape.{operations_kept, ins_kept, cuts_kept}
use Rattle.rig_touch.proofs.laws.an_edit_may_keep_all_links.Goals as goal

pub returns-clause-operations : goal.returns-clause-operations
returns-clause-operations c = operations_kept

pub returns-clause-in_links : goal.returns-clause-in_links
returns-clause-in_links c = ins_kept

pub returns-clause-cuts : goal.returns-clause-cuts
returns-clause-cuts c = cuts_kept

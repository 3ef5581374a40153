use Rattle.rig_touch.specs.KeepsShape.{cuts_kept}
use Rattle.rig_flush.specs.KeepsTables.{tables_kept, scene_tables_kept, shown_kept}
use Rattle.rig_flush.proofs.laws.an_edit_may_keep_all_tables.Goals as goal

pub returns-clause-tables : goal.returns-clause-tables
returns-clause-tables c = tables_kept

pub returns-clause-looked_up : goal.returns-clause-looked_up
returns-clause-looked_up c = scene_tables_kept

pub returns-clause-shown : goal.returns-clause-shown
returns-clause-shown c = shown_kept

pub returns-clause-cuts : goal.returns-clause-cuts
returns-clause-cuts c = cuts_kept

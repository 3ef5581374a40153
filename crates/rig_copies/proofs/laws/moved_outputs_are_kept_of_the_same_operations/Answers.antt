use Rattle.std.proofs.Common.{◌∙◌}
use Rattle.rig_copies.specs.Copies.{renumbered}
use Rattle.rig_copies.specs.Moved.{moved_for, none_for}
use Rattle.rig_copies.proofs.laws.moved_outputs_are_kept_of_the_same_operations.Goals as goal

pub returns-clause-moved : goal.returns-clause-moved
returns-clause-moved c = moved_for

pub returns-clause-arrived : goal.returns-clause-arrived
returns-clause-arrived c = λ old new kept once op listed absent. moved_for old new kept once op listed ∙ none_for old kept op absent

pub returns-clause-gone : goal.returns-clause-gone
returns-clause-gone c = λ old new kept op absent. none_for new (renumbered old new kept) op absent

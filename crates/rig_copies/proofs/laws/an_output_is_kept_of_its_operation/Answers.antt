use Rattle.rig_copies.specs.Put.{put_for, put_for_other}
use Rattle.rig_copies.proofs.laws.an_output_is_kept_of_its_operation.Goals as goal

pub returns-clause-planned : goal.returns-clause-planned
returns-clause-planned c = put_for

pub returns-clause-others : goal.returns-clause-others
returns-clause-others c = put_for_other

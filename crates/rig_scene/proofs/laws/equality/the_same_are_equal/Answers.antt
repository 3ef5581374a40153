use Rattle.rig_scene.specs.Same.{same_text-Decides, same_channel-Decides, same_axis-Decides, same_object-Decides, same_id-Decides, same_path-Decides, same_quantity-Decides}
use Rattle.rig_scene.proofs.laws.equality.the_same_are_equal.Goals as goal

pub returns-clause-texts : goal.returns-clause-texts
returns-clause-texts c = λ a b. same_text-Decides a b

pub returns-clause-channels : goal.returns-clause-channels
returns-clause-channels c = λ a b. same_channel-Decides a b

pub returns-clause-axes : goal.returns-clause-axes
returns-clause-axes c = λ a b. same_axis-Decides a b

pub returns-clause-objects : goal.returns-clause-objects
returns-clause-objects c = λ a b. same_object-Decides a b

pub returns-clause-ids : goal.returns-clause-ids
returns-clause-ids c = λ a b. same_id-Decides a b

pub returns-clause-paths : goal.returns-clause-paths
returns-clause-paths c = λ a b. same_path-Decides a b

pub returns-clause-quantities : goal.returns-clause-quantities
returns-clause-quantities c = λ a b. same_quantity-Decides a b

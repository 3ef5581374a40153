use Rattle.rig_edits.specs.Keeps.{keeps}
use Rattle.rig_edits.proofs.laws.an_accepted_edit_leaves_a_scene.Goals as goal

pub returns : goal.returns
returns c = keeps

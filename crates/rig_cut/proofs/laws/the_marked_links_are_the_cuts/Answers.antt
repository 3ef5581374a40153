use Rattle.rig_cut.proofs.Marks.{marked}
use Rattle.rig_cut.proofs.laws.the_marked_links_are_the_cuts.Goals as goal

pub returns : goal.returns
returns c = marked

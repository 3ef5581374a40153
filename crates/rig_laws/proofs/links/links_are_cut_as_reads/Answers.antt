-- By the lemma on the cut of links.
use Rattle.rig_laws.specs.LinkCuts.{links_are_ins}
use Rattle.rig_laws.proofs.links.links_are_cut_as_reads.Goals as goal

pub returns : goal.returns
returns c = links_are_ins

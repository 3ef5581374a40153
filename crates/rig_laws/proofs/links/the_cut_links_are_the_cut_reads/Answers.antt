-- By the lemma on the in-links that are cut.
use Rattle.rig_laws.specs.CutLinks.{cut_links_are_cuts}
use Rattle.rig_laws.proofs.links.the_cut_links_are_the_cut_reads.Goals as goal

pub returns : goal.returns
returns c = cut_links_are_cuts

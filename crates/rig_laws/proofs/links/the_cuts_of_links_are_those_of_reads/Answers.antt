-- By the lemma on the cut of links.
use Rattle.rig_laws.specs.LinkCuts.{cuts_of_links}
use Rattle.rig_laws.proofs.links.the_cuts_of_links_are_those_of_reads.Goals as goal

pub returns : goal.returns
returns c = cuts_of_links

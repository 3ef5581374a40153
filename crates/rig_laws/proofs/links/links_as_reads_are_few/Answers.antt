-- By the lemma on their count.
use Rattle.rig_laws.specs.LinksBetween.{arrows_count}
use Rattle.rig_laws.proofs.links.links_as_reads_are_few.Goals as goal

pub returns : goal.returns
returns c = arrows_count

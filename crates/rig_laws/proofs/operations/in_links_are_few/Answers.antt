-- By the lemma on counts.
use Rattle.rig_laws.specs.FewLinks.{links_count}
use Rattle.rig_laws.proofs.operations.in_links_are_few.Goals as goal

pub returns : goal.returns
returns c = links_count

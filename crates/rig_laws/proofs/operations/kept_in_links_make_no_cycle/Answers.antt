-- By the lemma on in-links that aren't cut.
use Rattle.rig_laws.specs.LinksAcyclic.{links_acyclic}
use Rattle.rig_laws.proofs.operations.kept_in_links_make_no_cycle.Goals as goal

pub returns : goal.returns
returns c = links_acyclic

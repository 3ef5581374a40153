-- By the lemmas on links, and on their names.
use Rattle.rig_laws.specs.LinksBetween.{inner_links_acyclic}
use Rattle.rig_laws.specs.LinkCuts.{inner_names_acyclic}
use Rattle.rig_laws.proofs.links.inner_links_make_no_cycle.Goals as goal

pub returns : goal.returns
returns c = record { links = inner_links_acyclic; names = inner_names_acyclic }

-- By the lemmas on links between operations.
use Rattle.rig_laws.specs.LinksBetween.{arrows_between, readers_are}
use Rattle.rig_laws.proofs.links.links_are_between_operations.Goals as goal

pub returns : goal.returns
returns c = record { ends = arrows_between; readers = readers_are }

-- By the lemma on all kinds of operations.
use Rattle.rig_laws.specs.Follows.{values_follow}
use Rattle.rig_laws.proofs.kernel.values_follow_from_in_links.Goals as goal

pub returns : goal.returns
returns c = values_follow

-- By the lemmas on depth.
use Rattle.rig_laws.specs.NoDepth.{val_over, enough_depth, only_values}
use Rattle.rig_laws.proofs.values.values_follow_from_their_sources.Goals as goal

pub returns : goal.returns
returns c = record { follow = val_over; alone = only_values; at_each_depth = enough_depth }

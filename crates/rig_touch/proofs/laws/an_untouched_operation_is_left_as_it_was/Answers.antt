use Rattle.rig_touch.specs.TouchedAlone.{left_kernel}
use Rattle.rig_touch.proofs.laws.an_untouched_operation_is_left_as_it_was.Goals as goal

pub returns : goal.returns
returns c s is edit accepted op before after untouched links =
    left_kernel s is edit op
    (record { accepted = accepted; before = before; after = after; untouched = untouched; links = links })

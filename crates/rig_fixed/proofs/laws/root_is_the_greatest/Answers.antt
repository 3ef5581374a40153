use Rattle.rig_fixed.proofs.Root.{isqrt-meets}
use Rattle.rig_fixed.proofs.laws.root_is_the_greatest.Goals as goal

pub returns : goal.returns
returns c = isqrt-meets

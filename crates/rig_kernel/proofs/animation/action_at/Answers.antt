use Rattle.rig_kernel.proofs.ActionOf.{action_keys}
use Rattle.rig_kernel.proofs.animation.action_at.Goals as goal

pub returns-clause-keys : goal.returns-clause-keys
returns-clause-keys c = action_keys _ c.scene.invariant.is_scene c.in-Some.index c.get.result.now c.get.ensures

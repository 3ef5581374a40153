use Rattle.std.proofs.Common.{arith}
use Rattle.rig_scene.specs.declared.operation.OpId.TheVariants.{Bone}
use Rattle.rig_links.specs.Numbers.{numbered_links}
use Rattle.rig_links.proofs.Pushed.{one_more}
use Rattle.rig_links.proofs.pose.push_bones.Goals as goal

pub loop-b-preserved : goal.loop-b-preserved
loop-b-preserved c =
    one_more (λ b. numbered_links c.args.scene.now (Bone c.args.object b)) 0 c.loop-b.b c.loop-b.b _ _ _ (omega arith) c.loop-b.invariant c.in_ok-push_bone.ensures

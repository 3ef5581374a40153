use Rattle.std.proofs.Common.{ap, sym, ◌∙◌}
use Rattle.rig_scene.specs.declared.id.AnimId.TheVariants as anim
use Rattle.rig_scene.specs.declared.operation.OpId.TheVariants.{Animation}
use Rattle.rig_links.specs.Parts.{if_there}
use Rattle.rig_links.proofs.LinksOf.{pose_init_links}
use Rattle.rig_links.proofs.Pushed.{one_pushed}
use Rattle.rig_links.proofs.pose.push_pose_init.Goals as goal

pub returns : goal.returns
returns c =
    one_pushed c.push_if_there.result _ _ _ _
    (ap (λ n. if_there c.args.scene.now n (Animation (anim.Object c.args.object))) (sym c.requires) ∙ sym (pose_init_links c.args.scene.now c.args.object))
    c.push_if_there.ensures

use Rattle.rig_links.proofs.LinksOf.{animation_pushed}
use Rattle.rig_links.proofs.Pushed.{one_pushed}
use Rattle.rig_links.proofs.scene_links.push_animation.Goals as goal

pub returns : goal.returns
returns c = one_pushed c.push.result _ _ _ _ (animation_pushed c.args.scene.now c.args.id c.in-Some.reader c.in-Some.ensures) c.push.ensures

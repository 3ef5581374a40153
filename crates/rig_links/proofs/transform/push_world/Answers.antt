use Rattle.std.proofs.Common.{ap, sym, ◌∙◌}
use Rattle.rig_links.specs.Parts.{of_world}
use Rattle.rig_links.proofs.LinksOf.{world_links}
use Rattle.rig_links.proofs.Pushed.{two_pushed}
use Rattle.rig_links.proofs.transform.push_world.Goals as goal

pub returns : goal.returns
returns c =
    two_pushed c.push_parent.result _ _ _ _ _ _ c.in_ok-push.ensures
    (ap (λ n. of_world c.args.scene.now n c.args.object.now.id c.args.object.now.parent) c.number-reader.ensures ∙ sym (world_links c.args.scene.now c.args.object.now c.requires))
    c.push_parent.ensures

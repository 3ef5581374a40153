use Rattle.std.proofs.Common.{ap, sym, ◌∙◌}
use Rattle.rig_links.specs.Parts.{of_local}
use Rattle.rig_links.proofs.LinksOf.{local_links}
use Rattle.rig_links.proofs.Pushed.{two_pushed}
use Rattle.rig_links.proofs.transform.push_local.Goals as goal

pub returns : goal.returns
returns c =
    two_pushed c.push_own_channels.result _ _ _ _ _ _ c.in_ok-push_if_there.ensures
    (ap (λ n. of_local c.args.scene.now n c.args.object) c.number-reader.ensures ∙ sym (local_links c.args.scene.now c.args.object))
    c.push_own_channels.ensures

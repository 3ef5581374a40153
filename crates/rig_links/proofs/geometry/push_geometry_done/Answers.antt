use Rattle.std.proofs.Common.{[], ◌∷◌, ap, sym, ◌∙◌}
use Rattle.rig_scene.specs.Operations.{last_geometry}
use Rattle.rig_links.specs.Parts.{inner}
use Rattle.rig_links.proofs.LinksOf.{geometry_done_links}
use Rattle.rig_links.proofs.Pushed.{one_pushed}
use Rattle.rig_links.proofs.geometry.push_geometry_done.Goals as goal

pub returns : goal.returns
returns c =
    let s = c.args.scene.now in
    one_pushed c.push.result _ _ _ _
    (ap (λ op. inner s c.number-reader.result op ∷ []) c.last_geometry.ensures
    ∙ ap (λ n. inner s n (last_geometry c.args.object c.args.modifiers) ∷ []) c.number-reader.ensures
    ∙ sym (geometry_done_links s c.args.object c.args.modifiers c.requires))
    c.push.ensures

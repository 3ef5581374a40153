use Rattle.std.proofs.Common.{◌∷◌, ap, sym, ◌∙◌}
use Rattle.rig_links.specs.Parts.{inner, of_effect, of_modifier}
use Rattle.rig_links.proofs.LinksOf.{modifier_links}
use Rattle.rig_links.proofs.Pushed.{two_pushed}
use Rattle.rig_links.proofs.geometry.push_modifier.Goals as goal

pub returns : goal.returns
returns c =
    let s = c.args.scene.now in
    let o = c.args.object in
    let effect = c.args.modifier.now.effect in
    two_pushed c.push_effect.result _ _ _ _ _ _ c.in_ok-push.ensures
    (ap (λ op. inner s c.number-reader.result op ∷ of_effect s c.number-reader.result o effect) c.last_geometry.ensures
    ∙ ap (λ n. of_modifier s n o c.args.before effect) c.number-reader.ensures
    ∙ sym (modifier_links s o c.args.before c.args.modifier.now c.requires.modifier))
    c.push_effect.ensures

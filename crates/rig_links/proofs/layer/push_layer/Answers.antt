use Rattle.std.proofs.Common.{ap, sym, refl, ◌∙◌}
use Rattle.rig_links.specs.Parts.{of_layer}
use Rattle.rig_links.proofs.LinksOf.{layer_parts, layer_links}
use Rattle.rig_links.proofs.Pushed.{two_pushed, three_pushed}
use Rattle.rig_links.proofs.layer.push_layer.Goals as goal

pub returns : goal.returns
returns c =
    let s = c.args.scene.now in
    let p = c.args.pencil in
    let layer = c.args.layer.now in
    two_pushed c.push_bound.result _ _ _ _ _ _ c.in_ok-push_time.ensures
    (layer_parts s c.number-reader.result p layer c.len.result c.len.ensures ∙ ap (λ n. of_layer s n p layer) c.number-reader.ensures ∙ sym (layer_links s p c.args.l layer c.requires.layer))
    (three_pushed c.push_bound.result _ _ _ _ _ _ _ _ c.in_ok-push_if_there.ensures c.in_ok-push_offsets.ensures refl c.push_bound.ensures)

use Rattle.std.proofs.Common.{◌++◌, length, ap, sym, ◌∙◌}
use Rattle.std.specs.List.{flat_map, range_with_len}
use Rattle.rig_scene.specs.declared.operation.OpId.TheVariants.{Geometry, ModifierOp, GeometryDone}
use Rattle.rig_links.specs.Numbers.{number_of, numbered_links}
use Rattle.rig_links.specs.Parts.{of_geometry}
use Rattle.rig_links.proofs.LinksOf.{geometry_links}
use Rattle.rig_links.proofs.Pushed.{three_pushed, in_turn}
use Rattle.rig_links.proofs.geometry.push_pencil_object.Goals as goal

pub returns : goal.returns
returns c =
    let s = c.args.scene.now in
    let o = c.args.object in
    let numbers = range_with_len 1 (length c.args.modifiers.now) in
    three_pushed c.push_geometry_done.result _ _ _ _ _ _ _ _ c.in_ok-push_geometry.ensures c.in_ok-push_modifiers.ensures
    (ap (λ l. l ++ (flat_map (λ i. numbered_links s (ModifierOp o i)) numbers ++ numbered_links s (GeometryDone o)))
    (ap (of_geometry s (number_of s (Geometry o)) c.args.pencil) c.len-layers.ensures
    ∙ sym (geometry_links s o c.args.pencil c.args.modifiers.now c.pencil.result.now c.requires.kind c.pencil.ensures.pencil))
    ∙ in_turn (numbered_links s) (ModifierOp o) (Geometry o) (GeometryDone o) numbers)
    c.push_geometry_done.ensures

use Rattle.std.proofs.Common.{◌<◌, length, map, sym, ap, subst, ◌∙◌}
use Rattle.std.specs.List.{All, flat_map, range_with_len}
use Rattle.std.proofs.lemmas.List.Folds.{flat_map-map}
use Rattle.rig_scene.specs.declared.id.AnimId.TheVariants as anim
use Rattle.rig_scene.specs.declared.operation.OpId.TheVariants.{Layer}
use Rattle.rig_nodes.specs.DriverRows.{indices_within}
use Rattle.rig_links.specs.Numbers.{numbered_links}
use Rattle.rig_links.proofs.InOrder.{behind_drivers}
use Rattle.rig_links.proofs.Pushed.{three_pushed}
use Rattle.rig_links.proofs.scene_links.push_pencil.Goals as goal

pub push_drivers-requires : goal.push_drivers-requires
push_drivers-requires c =
    subst (λ row. All (λ i. i < length c.args.scene.now.drivers) row) (sym c.requires.row) (indices_within c.args.scene.now (anim.Pencil c.args.p))

pub returns : goal.returns
returns c =
    let s = c.args.scene.now in
    let p = c.args.p in
    three_pushed c.push_layers.result _ _ _ _ _ _ _ _ c.in_ok-push_animation.ensures c.in_ok-push_drivers.ensures
    (behind_drivers s (anim.Pencil p) c.args.row.now (map (Layer p) (range_with_len 0 (length c.args.pencil.now.layers))) _ c.requires.row
    (ap (λ n. flat_map (λ l. numbered_links s (Layer p l)) (range_with_len 0 n)) (ap length c.as_slice.ensures)
    ∙ sym (flat_map-map (numbered_links s) (Layer p) (range_with_len 0 (length c.args.pencil.now.layers)))))
    c.push_layers.ensures

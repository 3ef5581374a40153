use Rattle.std.proofs.Common.{◌<◌, ◌∷◌, length, refl, sym, subst}
use Rattle.std.specs.List.{All}
use Rattle.rig_scene.specs.declared.id.AnimId.TheVariants as anim
use Rattle.rig_scene.specs.declared.operation.OpId.TheVariants.{Local, World}
use Rattle.rig_scene.specs.Operations.{kind_operations}
use Rattle.rig_nodes.specs.DriverRows.{indices_within}
use Rattle.rig_links.proofs.InOrder.{behind_drivers}
use Rattle.rig_links.proofs.Pushed.{three_pushed}
use Rattle.rig_links.proofs.scene_links.push_object.Goals as goal

pub push_drivers-requires : goal.push_drivers-requires
push_drivers-requires c =
    subst (λ row. All (λ i. i < length c.args.scene.now.drivers) row) (sym c.requires.row) (indices_within c.args.scene.now (anim.Object c.args.object.now.id))

pub returns : goal.returns
returns c =
    let o = c.args.object.now in
    three_pushed c.push_kind.result _ _ _ _ _ _ _ _ c.in_ok-push_animation.ensures c.in_ok-push_drivers.ensures
    (behind_drivers c.args.scene.now (anim.Object o.id) c.args.row.now (Local o.id ∷ World o.id ∷ kind_operations o.id o.kind) _ c.requires.row refl)
    (three_pushed c.push_kind.result _ _ _ _ _ _ _ _ c.in_ok-push_local.ensures c.in_ok-push_world.ensures refl c.push_kind.ensures)

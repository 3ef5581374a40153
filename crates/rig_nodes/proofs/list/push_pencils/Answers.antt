use Rattle.std.proofs.Common.{◌≡◌, ◌<◌, length, Some, slice_get, refl, sym, ap, subst, ◌∙◌, arith}
use Rattle.std.proofs.lemmas.Option.{slice_get_read, same_Some}
use Rattle.rig_scene.specs.Scene.{SceneRecord}
use Rattle.rig_scene.specs.declared.id.AnimId.TheVariants as anim
use Rattle.rig_nodes.specs.DriverRows.{length-driver_rows, pencil_row}
use Rattle.rig_nodes.specs.Drivers.{driver_indices}
use Rattle.rig_nodes.proofs.Ids.{few_rows}
use Rattle.rig_nodes.proofs.list.push_pencils.Goals as goal

pub overflow_cast-p : goal.overflow_cast-p
overflow_cast-p c = omega (arith, few_rows _ c.scene.invariant.is_scene, ap length c.as_slice-pencil-items.ensures)

pub get-requires : goal.get-requires
get-requires c =
    omega (arith, ap length c.requires, length-driver_rows c.args.scene.now, ap length (c.as_slice-pencil-items.ensures ∙ ap (λ (s : SceneRecord). s.pencils) c.scene.view_is))

pub push_pencil-requires-clause-pencil : goal.push_pencil-requires-clause-pencil
push_pencil-requires-clause-pencil c =
    subst (λ pencils. slice_get pencils c.loop-p.p ≡ Some c.pencil-item.result) (c.as_slice-pencil-items.ensures ∙ ap (λ (s : SceneRecord). s.pencils) c.scene.view_is)
    (slice_get_read c.as_slice-pencil-items.result.now (length c.as_slice-pencil-items.result.now) c.loop-p.p c.pencil-item.result refl c.loop-p-test.true c.pencil-item.is)

pub push_pencil-requires-clause-row : goal.push_pencil-requires-clause-row
push_pencil-requires-clause-row c =
    let within : c.loop-p.p < length c.args.scene.now.pencils = omega (arith, ap length (c.as_slice-pencil-items.ensures ∙ ap (λ (s : SceneRecord). s.pencils) c.scene.view_is)) in
    same_Some c.get.result.now (driver_indices c.args.scene.now (anim.Pencil c.loop-p.p))
    (sym c.get.ensures ∙ ap (λ rows. slice_get rows c.loop-p.p) c.requires ∙ pencil_row c.args.scene.now c.loop-p.p within)

use Rattle.std.proofs.Common.{◌≡◌, ◌+◌, ℕ, length, Some, slice_get, refl, sym, ap, subst, ◌∙◌, arith}
use Rattle.std.proofs.lemmas.Option.{slice_get_read, same_Some}
use Rattle.rig_scene.specs.declared.id.AnimId.TheVariants as anim
use Rattle.rig_scene.specs.Found.{Contains-slice_get}
use Rattle.rig_laws.specs.HasQuantity.{object_found}
use Rattle.rig_nodes.specs.DriverRows.{length-driver_rows, object_row}
use Rattle.rig_nodes.specs.Drivers.{driver_indices, driver_rows}
use Rattle.rig_links.proofs.Fits.{few_rows}
use Rattle.rig_links.proofs.scene_links.push_objects.Goals as goal

pub overflow_add-pencils : goal.overflow_add-pencils
overflow_add-pencils c =
    omega (arith, few_rows c.args.scene.now c.objects-object-items.ensures.scene, ap length c.objects-object-items.ensures.objects, ap length c.pencils-pencils.ensures.pencils)

pub get-requires : goal.get-requires
get-requires c =
    omega (arith, ap length c.requires, length-driver_rows c.args.scene.now, ap length c.objects-object-items.ensures.objects, ap length c.pencils-pencils.ensures.pencils)

pub push_object-requires-clause-object : goal.push_object-requires-clause-object
push_object-requires-clause-object c =
    object_found c.args.scene.now c.objects-object-items.ensures.scene c.object-item.result
    (Contains-slice_get c.args.scene.now.objects c.loop-index.index c.object-item.result
    (subst (λ objects. slice_get objects c.loop-index.index ≡ Some c.object-item.result) c.objects-object-items.ensures.objects
    (slice_get_read c.objects-object-items.result.now (length c.objects-object-items.result.now) c.loop-index.index c.object-item.result refl c.loop-index-test.true c.object-item.is)))

pub push_object-requires-clause-row : goal.push_object-requires-clause-row
push_object-requires-clause-row c =
    let at : slice_get c.args.scene.now.objects c.loop-index.index ≡ Some c.object-item.result =
    subst (λ objects. slice_get objects c.loop-index.index ≡ Some c.object-item.result) c.objects-object-items.ensures.objects
    (slice_get_read c.objects-object-items.result.now (length c.objects-object-items.result.now) c.loop-index.index c.object-item.result refl c.loop-index-test.true c.object-item.is) in
    same_Some c.get.result.now (driver_indices c.args.scene.now (anim.Object c.object-item.result.id))
    (sym c.get.ensures
    ∙ ap (λ rows. slice_get rows (length c.pencils-pencils.result.now + c.loop-index.index)) c.requires
    ∙ ap (λ (n : ℕ). slice_get (driver_rows c.args.scene.now) (n + c.loop-index.index)) (ap length c.pencils-pencils.ensures.pencils)
    ∙ object_row c.args.scene.now c.loop-index.index c.object-item.result at)

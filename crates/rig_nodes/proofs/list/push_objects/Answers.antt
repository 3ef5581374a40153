use Rattle.std.proofs.Common.{◌≡◌, ◌+◌, ℕ, length, Some, slice_get, refl, sym, ap, subst, ◌∙◌, arith}
use Rattle.std.specs.Prelude.{IsTrue}
use Rattle.std.proofs.lemmas.Option.{slice_get_read, same_Some}
use Rattle.rig_scene.specs.FactsHold.{scene_facts}
use Rattle.rig_scene.specs.Scene.{SceneRecord}
use Rattle.rig_scene.specs.WellFormed.{is_scene}
use Rattle.rig_scene.specs.declared.id.AnimId.TheVariants as anim
use Rattle.rig_nodes.specs.DriverRows.{length-driver_rows, object_row}
use Rattle.rig_nodes.specs.Drivers.{driver_indices, driver_rows}
use Rattle.rig_nodes.proofs.Ids.{few_rows, object_at}
use Rattle.rig_nodes.proofs.list.push_objects.Goals as goal

pub overflow_add-pencils : goal.overflow_add-pencils
overflow_add-pencils c = omega (arith, few_rows _ c.scene.invariant.is_scene, ap length c.as_slice-object-items.ensures)

pub get-requires : goal.get-requires
get-requires c =
    omega (arith, ap length c.requires, length-driver_rows c.args.scene.now, ap length (c.as_slice-object-items.ensures ∙ ap (λ (s : SceneRecord). s.objects) c.scene.view_is), c.len-pencils.ensures ∙ ap (λ (s : SceneRecord). length s.pencils) c.scene.view_is)

pub push_object-requires-clause-object : goal.push_object-requires-clause-object
push_object-requires-clause-object c =
    let is : IsTrue (is_scene c.args.scene.now) = subst (λ s. IsTrue (is_scene s)) c.scene.view_is c.scene.invariant.is_scene in
    object_at c.args.scene.now (scene_facts c.args.scene.now is).objects.ids_rise c.loop-index.index c.object-item.result
    (subst (λ objects. slice_get objects c.loop-index.index ≡ Some c.object-item.result) (c.as_slice-object-items.ensures ∙ ap (λ (s : SceneRecord). s.objects) c.scene.view_is)
    (slice_get_read c.as_slice-object-items.result.now (length c.as_slice-object-items.result.now) c.loop-index.index c.object-item.result refl c.loop-index-test.true c.object-item.is))

pub push_object-requires-clause-row : goal.push_object-requires-clause-row
push_object-requires-clause-row c =
    let at : slice_get c.args.scene.now.objects c.loop-index.index ≡ Some c.object-item.result =
    subst (λ objects. slice_get objects c.loop-index.index ≡ Some c.object-item.result) (c.as_slice-object-items.ensures ∙ ap (λ (s : SceneRecord). s.objects) c.scene.view_is)
    (slice_get_read c.as_slice-object-items.result.now (length c.as_slice-object-items.result.now) c.loop-index.index c.object-item.result refl c.loop-index-test.true c.object-item.is) in
    same_Some c.get.result.now (driver_indices c.args.scene.now (anim.Object c.object-item.result.id))
    (sym c.get.ensures
    ∙ ap (λ rows. slice_get rows (c.len-pencils.result + c.loop-index.index)) c.requires
    ∙ ap (λ (n : ℕ). slice_get (driver_rows c.args.scene.now) (n + c.loop-index.index)) (c.len-pencils.ensures ∙ ap (λ (s : SceneRecord). length s.pencils) c.scene.view_is)
    ∙ object_row c.args.scene.now c.loop-index.index c.object-item.result at)

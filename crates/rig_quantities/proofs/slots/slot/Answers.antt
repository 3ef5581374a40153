use Rattle.std.proofs.Common.{subst, ap, arith, length, ◌≤◌}
use Rattle.std.proofs.lemmas.List.Sums.{prefix_len-le-length}
use Rattle.std.specs.Prelude.{nat_lt}
use Rattle.rig_scene.specs.Facts.{SceneFacts}
use Rattle.rig_scene.specs.FactsHold.{scene_facts}
use Rattle.rig_scene.specs.Scene.{SceneRecord}
use Rattle.rig_quantities.specs.Find.{object_index}
use Rattle.rig_quantities.proofs.slots.slot.Goals as goal

pub overflow_add-result : goal.overflow_add-result
overflow_add-result c =
    let facts = subst SceneFacts c.scene.view_is (scene_facts _ c.scene.invariant.is_scene) in
    let within : object_index c.args.scene.now c.in-Object.object ≤ length c.args.scene.now.objects =
    prefix_len-le-length (λ o. nat_lt o.id.0 c.in-Object.object.0) c.args.scene.now.objects in
    let pencils = facts.pencils.count in
    let objects = facts.objects.count in
    let same = ap (λ (s : SceneRecord). length s.pencils) c.scene.view_is in
    omega (arith, c.len.ensures, c.object_index.ensures)

pub overflow_cast-result : goal.overflow_cast-result
overflow_cast-result c =
    let facts = subst SceneFacts c.scene.view_is (scene_facts _ c.scene.invariant.is_scene) in
    let within : object_index c.args.scene.now c.in-Object.object ≤ length c.args.scene.now.objects =
    prefix_len-le-length (λ o. nat_lt o.id.0 c.in-Object.object.0) c.args.scene.now.objects in
    let pencils = facts.pencils.count in
    let objects = facts.objects.count in
    let same = ap (λ (s : SceneRecord). length s.pencils) c.scene.view_is in
    omega (arith, c.len.ensures, c.object_index.ensures)

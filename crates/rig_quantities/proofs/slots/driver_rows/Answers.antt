use Rattle.std.proofs.Common.{subst, ap, ◌∙◌, ◌≡◌, ◌+◌, ◌<◌, arith, length}
use Rattle.std.proofs.lemmas.List.{length-map}
use Rattle.std.proofs.lemmas.List.Elements.{All-same}
use Rattle.std.specs.List.{All}
use Rattle.rig_scene.specs.Facts.{SceneFacts}
use Rattle.rig_scene.specs.FactsHold.{scene_facts}
use Rattle.rig_scene.specs.Scene.{SceneRecord}
use Rattle.rig_quantities.specs.Slots.{slot}
use Rattle.rig_quantities.proofs.SlotFacts.{slots_below}
use Rattle.rig_quantities.proofs.slots.driver_rows.Goals as goal

pub overflow_add-count : goal.overflow_add-count
overflow_add-count c =
    let facts = scene_facts _ c.scene.invariant.is_scene in
    let pencils = facts.pencils.count in
    let objects = facts.objects.count in
    omega arith

pub overflow_cast-count : goal.overflow_cast-count
overflow_cast-count c =
    let facts = scene_facts _ c.scene.invariant.is_scene in
    let pencils = facts.pencils.count in
    let objects = facts.objects.count in
    omega arith

pub grouped-requires-clause-in_range : goal.grouped-requires-clause-in_range
grouped-requires-clause-in_range c =
    let facts = subst SceneFacts c.scene.view_is (scene_facts _ c.scene.invariant.is_scene) in
    let slots = c.as_slice.ensures.value ∙ c.in_ok-slots.ensures in
    let pencils = ap (λ (s : SceneRecord). length s.pencils) c.scene.view_is in
    let objects = ap (λ (s : SceneRecord). length s.objects) c.scene.view_is in
    let count : length c.args.scene.now.pencils + length c.args.scene.now.objects ≡ c.len.result + c.len-2.result = omega arith in
    subst (λ n. All (λ k. k < n) c.as_slice.result.now) count
    (All-same (λ k. k < length c.args.scene.now.pencils + length c.args.scene.now.objects) _ _ slots (slots_below c.args.scene.now facts))

pub grouped-requires-clause-few : goal.grouped-requires-clause-few
grouped-requires-clause-few c =
    let facts = subst SceneFacts c.scene.view_is (scene_facts _ c.scene.invariant.is_scene) in
    let slots = ap length (c.as_slice.ensures.value ∙ c.in_ok-slots.ensures) ∙ length-map c.args.scene.now.drivers (λ d. slot c.args.scene.now d.id) in
    let count = facts.drivers.count in
    omega arith

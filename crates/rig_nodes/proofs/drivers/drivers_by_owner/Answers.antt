use Rattle.std.proofs.Common.{◌≡◌, ◌+◌, ◌<◌, ℕ, List, length, map, ap, sym, subst, ◌∙◌, arith}
use Rattle.std.specs.Prelude.{IsTrue, IfOk}
use Rattle.std.specs.List.{All}
use Rattle.std.proofs.lemmas.List.{length-map}
use Rattle.rig_rows.specs.Rows.{grouped}
use Rattle.rig_scene.specs.declared.driver.Driver.{Driver}
use Rattle.rig_scene.specs.FactsHold.{scene_facts}
use Rattle.rig_scene.specs.Scene.{SceneRecord}
use Rattle.rig_scene.specs.WellFormed.{is_scene}
use Rattle.rig_nodes.specs.Slots.{slot_of}
use Rattle.rig_nodes.proofs.Grouped.{slots_within, grouped_rows}
use Rattle.rig_nodes.proofs.Ids.{few_rows, few_drivers}
use Rattle.rig_nodes.proofs.drivers.drivers_by_owner.Goals as goal

pub overflow_add-count : goal.overflow_add-count
overflow_add-count c = omega (arith, few_rows _ c.scene.invariant.is_scene)

pub overflow_cast-count : goal.overflow_cast-count
overflow_cast-count c = omega (arith, few_rows _ c.scene.invariant.is_scene)

counted : (n m : ℕ) (s t : SceneRecord) → s ≡ t → n ≡ length s.pencils → m ≡ length s.objects → n + m ≡ length t.pencils + length t.objects
counted n m s t same pencils objects =
    let p : length s.pencils ≡ length t.pencils = ap (λ s. length s.pencils) same in
    let o : length s.objects ≡ length t.objects = ap (λ s. length s.objects) same in
    omega arith

pub grouped-requires-clause-in_range : goal.grouped-requires-clause-in_range
grouped-requires-clause-in_range c =
    let is : IsTrue (is_scene c.args.scene.now) = subst (λ s. IsTrue (is_scene s)) c.scene.view_is c.scene.invariant.is_scene in
    subst (λ keys. All (λ key. key < c.len.result + c.len-2.result) keys) (sym (c.as_slice.ensures.value ∙ c.in_ok-slots.ensures))
    (subst (λ n. All (λ key. key < n) (map (λ (d : Driver). slot_of c.args.scene.now d.id) c.args.scene.now.drivers)) (sym (counted c.len.result c.len-2.result _ c.args.scene.now c.scene.view_is c.len.ensures c.len-2.ensures))
    (slots_within c.args.scene.now (scene_facts c.args.scene.now is)))

pub grouped-requires-clause-few : goal.grouped-requires-clause-few
grouped-requires-clause-few c =
    let is : IsTrue (is_scene c.args.scene.now) = subst (λ s. IsTrue (is_scene s)) c.scene.view_is c.scene.invariant.is_scene in
    omega (arith, few_drivers c.args.scene.now is, ap length (c.as_slice.ensures.value ∙ c.in_ok-slots.ensures), length-map c.args.scene.now.drivers (λ (d : Driver). slot_of c.args.scene.now d.id))

pub returns : goal.returns
returns c =
    let is : IsTrue (is_scene c.args.scene.now) = subst (λ s. IsTrue (is_scene s)) c.scene.view_is c.scene.invariant.is_scene in
    subst (λ (l : List (List ℕ)). IfOk c.grouped.result (λ rows. rows ≡ l))
    (ap (λ n. grouped n c.as_slice.result.now) (counted c.len.result c.len-2.result _ c.args.scene.now c.scene.view_is c.len.ensures c.len-2.ensures)
    ∙ ap (λ keys. grouped (length c.args.scene.now.pencils + length c.args.scene.now.objects) keys) (c.as_slice.ensures.value ∙ c.in_ok-slots.ensures)
    ∙ grouped_rows c.args.scene.now (scene_facts c.args.scene.now is))
    c.grouped.ensures

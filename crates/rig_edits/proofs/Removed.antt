-- What is left of a scene when an object is taken out by its index, and its drivers by its id.
use Rattle.std.proofs.Common.{◌≡◌, ℕ, ◌<◌, true, false, not, List, filter, Some, sym, ap, ◌∙◌, subst, arith}
use Rattle.std.specs.Prelude.{IsTrue, remove, slice_get}
use Rattle.std.specs.Option.{option_map_or}
use Rattle.std.proofs.lemmas.Bool.{false_from_ne_true}
use Rattle.std.proofs.lemmas.Option.{same_Some}
use Rattle.rig_scene.specs.declared.driver.Driver.{Driver}
use Rattle.rig_scene.specs.declared.id.AnimId.TheVariants as anim
use Rattle.rig_scene.specs.declared.id.ObjectId.{ObjectId}
use Rattle.rig_scene.specs.declared.object.Object.{Object}
use Rattle.rig_scene.specs.FactsHold.{scene_facts}
use Rattle.rig_scene.specs.Id.{same_id, same_object}
use Rattle.rig_scene.specs.Pairs.{AllPairs-weaker}
use Rattle.rig_scene.specs.Same.{same_object-equal, same_object-itself}
use Rattle.rig_scene.specs.Scene.{SceneRecord}
use Rattle.rig_scene.specs.Text.{same_text}
use Rattle.rig_scene.specs.WellFormed.{is_scene}
use Rattle.rig_edits.specs.declared.edit.Edit.TheVariants.{RemoveObject}
use Rattle.rig_edits.specs.Edited.{edited, without_object}
use Rattle.rig_edits.proofs.FirstPassing.{remove_only, Apart}
use Rattle.rig_edits.specs.Steps.{FoundAt}

-- ---- objects

-- ids that rise are apart
apart_ids : (id : ObjectId) (o p : Object) → o.id.0 < p.id.0 → same_object o.id id ≡ true → same_object p.id id ≡ false
apart_ids id o p rise e = false_from_ne_true (same_object p.id id) (λ f. both (same_object-equal o.id id e) (same_object-equal p.id id f))
  where
    below : (m n : ℕ) → m < n → m ≡ n → ⊥
    below m n l e = omega arith

    both : o.id ≡ id → p.id ≡ id → ⊥
    both e f = below o.id.0 p.id.0 rise (ap (λ (i : ObjectId). i.0) (e ∙ sym f))

-- the scene without the object of a name, and without its own drivers
without_named : (s : SceneRecord) (name : List ℕ) (index : ℕ) (o : Object) → IsTrue (is_scene s)
    → FoundAt (λ o. same_text o.name name) s.objects index → slice_get s.objects index ≡ Some o
    → record s { objects = remove s.objects index; drivers = filter (λ d. not (same_id d.id (anim.Object o.id))) s.drivers }
    ≡ edited s (RemoveObject name)
without_named s name index o is found at =
    let objects : remove s.objects index ≡ filter (λ (p : Object). not (same_object p.id o.id)) s.objects =
    remove_only (λ (p : Object). same_object p.id o.id) s.objects index o at (same_object-itself o.id)
    (AllPairs-weaker (λ p q. p.id.0 < q.id.0) (Apart (λ (p : Object). same_object p.id o.id)) (apart_ids o.id) s.objects
    (scene_facts s is).objects.ids_rise) in
    let same : found.element ≡ o = same_Some found.element o (sym found.is_at ∙ at) in
    ap (λ objects. record s { objects = objects; drivers = filter (λ d. not (same_id d.id (anim.Object o.id))) s.drivers }) objects
    ∙ sym (ap (λ r. option_map_or (λ (o : Object). without_object s o.id) r s) found.is_found ∙ ap (λ (o : Object). without_object s o.id) same)

-- it is what the two steps leave: the object taken out at its index, and the drivers dropped
pub object_removed : (t s : SceneRecord) (name : List ℕ) (index : ℕ) (o : Object) (objects : List Object) (drivers : List Driver)
    → t ≡ s → IsTrue (is_scene t) → FoundAt (λ o. same_text o.name name) s.objects index → slice_get t.objects index ≡ Some o
    → objects ≡ remove t.objects index → drivers ≡ filter (λ d. not (same_id d.id (anim.Object o.id))) t.drivers
    → edited s (RemoveObject name) ≡ record t { objects = objects; drivers = drivers }
object_removed t s name index o objects drivers same is found at rest kept =
    let old : IsTrue (is_scene s) = subst (λ s. IsTrue (is_scene s)) same is in
    let there : slice_get s.objects index ≡ Some o = ap (λ (s : SceneRecord). slice_get s.objects index) (sym same) ∙ at in
    sym (without_named s name index o old found there)
    ∙ ap (λ (s : SceneRecord). record s {
      objects = remove s.objects index;
      drivers = filter (λ d. not (same_id d.id (anim.Object o.id))) s.drivers;
    }) (sym same)
    ∙ ap (λ drivers. record t { objects = remove t.objects index; drivers = drivers }) (sym kept)
    ∙ ap (λ objects. record t { objects = objects; drivers = drivers }) (sym rest)

-- An object removed, with its own drivers: two scenes have in common all that the second one names.
use Rattle.std.proofs.Common.{◌≡◌, ℕ, Bool, true, not, ◌&&◌, List, filter, Option, Some, None, refl, sym, ap, ◌∙◌}
use Rattle.std.specs.Prelude.{IsTrue, Contains}
use Rattle.std.specs.Option.{option_map_or}
use Rattle.std.proofs.lemmas.Bool.{and_parts, not-true, not_from_false, false_from_ne_true, false≢true}
use Rattle.std.proofs.lemmas.List.Elements.{All-contains, filter_passes}
use Rattle.rig_scene.specs.declared.driver.Driver.{Driver}
use Rattle.rig_scene.specs.declared.id.AnimId.{AnimId}
use Rattle.rig_scene.specs.declared.id.AnimId.TheVariants as anim
use Rattle.rig_scene.specs.declared.id.ObjectId.{ObjectId}
use Rattle.rig_scene.specs.declared.object.Object.{Object}
use Rattle.rig_scene.specs.declared.operation.OpId.{OpId}
use Rattle.rig_scene.specs.Id.{same_object, same_id}
use Rattle.rig_scene.specs.Operations.{operations, ins}
use Rattle.rig_scene.specs.Path.{same_path}
use Rattle.rig_scene.specs.Same.{same_object-equal, same_object-itself, same_id-equal}
use Rattle.rig_scene.specs.Scene.{SceneRecord, object_of}
use Rattle.rig_scene.specs.WellFormed.{is_scene, has_object}
use Rattle.rig_laws.specs.Lists.{find-Some, is_some-Some}
use Rattle.rig_edits.specs.declared.edit.Edit.TheVariants.{RemoveObject}
use Rattle.rig_edits.specs.Conditions.{first_cause}
use Rattle.rig_edits.specs.Edited.{without_object, edited}
use Rattle.rig_edits.specs.KeepsRemoved.{keeps_remove_object}
use Rattle.rig_edits.specs.Lists.{find_kept}
use Rattle.rig_edits.specs.Named.{object_named}
use Rattle.rig_touch.specs.Agree.{Agree}
use Rattle.rig_touch.specs.OtherPencils.{itself_agrees}
use Rattle.rig_touch.specs.AgreeOthers.{SameOf, agree_others}
use Rattle.rig_touch.specs.NamesThere.{IdThere, names_there}
use Rattle.rig_touch.specs.Touch.{touch}

module _ (s : SceneRecord) (id : ObjectId) where
  abbrev without : SceneRecord
  without = without_object s id

  -- which objects and drivers are kept
  abbrev keeps_object : Object → Bool
  keeps_object o = not (same_object o.id id)

  abbrev keeps_driver : Driver → Bool
  keeps_driver d = not (same_id d.id (anim.Object id))

  -- an object that is there is another
  other_object : (o : ObjectId) → IsTrue (has_object without o) → o ≡ id → ⊥
  other_object o h same =
      let x = is_some-Some (object_of without o) h in
      let found = find-Some (λ (q : Object). same_object q.id o) (filter keeps_object s.objects) x.0 x.1 in
      let kept : keeps_object x.0 ≡ true =
      All-contains (λ q. keeps_object q ≡ true) (filter keeps_object s.objects) x.0 (filter_passes keeps_object s.objects) found.0 in
      let same_id : x.0.id ≡ id = same_object-equal x.0.id o found.1 ∙ same in
      false≢true (sym (not-true (same_object x.0.id id) kept) ∙ ap (λ i. same_object i id) same_id ∙ same_object-itself id)

  -- an id that is there is another
  other_id : (a : AnimId) → IdThere without a → a ≡ anim.Object id → ⊥
  other_id (anim.Object o) h same = let o_is : o ≡ id = cc in other_object o h o_is
  other_id (anim.Pencil p) h same = cc

  same_of : SameOf s (filter keeps_object s.objects) (filter keeps_driver s.drivers) s.next without
  same_of = record {
    object = λ o h. sym (find_kept (λ (q : Object). same_object q.id o) keeps_object
        (λ q is. not_from_false (same_object q.id id)
        (false_from_ne_true (same_object q.id id)
        (λ e. other_object o h (sym (same_object-equal q.id o is) ∙ same_object-equal q.id id e)))) s.objects);
    driver = λ a h path. sym (find_kept (λ (d : Driver). same_id d.id a && same_path d.path path) keeps_driver
        (λ d is. not_from_false (same_id d.id (anim.Object id))
        (false_from_ne_true (same_id d.id (anim.Object id))
        (λ e. other_id a h (sym (same_id-equal d.id a (and_parts (same_id d.id a) (same_path d.path path) is).0) ∙ same_id-equal d.id
        (anim.Object id) e))))
        s.drivers);
  }

  agree_without : IsTrue (is_scene without) → (op : OpId) → Contains (operations without) op → Agree s without op
  agree_without is op new =
      agree_others s (filter keeps_object s.objects) (filter keeps_driver s.drivers) s.next without same_of op refl
      (λ a h path. sym (same_of.driver a h path)) (names_there without is op new)

-- what isn't changed by an object that is removed: all that is left
pub agree_remove_object : (s : SceneRecord) → IsTrue (is_scene s) → (object : List ℕ)
    → first_cause s (RemoveObject object) ≡ None → (op : OpId) → Contains (operations s) op
    → Contains (operations (edited s (RemoveObject object))) op → (Contains (touch s (RemoveObject object)) op → ⊥)
    → ins s op ≡ ins (edited s (RemoveObject object)) op → Agree s (edited s (RemoveObject object)) op
agree_remove_object s is object accept op old new untouched links = by (object_named s object) (keeps_remove_object s object is accept) new
  where
    by : (r : Option Object) → IsTrue (is_scene (option_map_or (λ (o : Object). without_object s o.id) r s))
        → Contains (operations (option_map_or (λ (o : Object). without_object s o.id) r s)) op
        → Agree s (option_map_or (λ (o : Object). without_object s o.id) r s) op
    by None after new = itself_agrees s op
    by (Some x) after new = agree_without s x.id after op new

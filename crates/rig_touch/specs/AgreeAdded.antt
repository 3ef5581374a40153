-- An object added: two scenes have in common all that the first one names.
use Rattle.std.proofs.Common.{◌≡◌, ℕ, ◌+◌, List, [], ◌∷◌, ◌++◌, Option, Some, None, refl, sym, ap, ◌∙◌}
use Rattle.std.specs.Prelude.{IsTrue, Contains}
use Rattle.std.specs.Option.{option_or, option_map_or}
use Rattle.std.specs.List.{find}
use Rattle.std.proofs.lemmas.List.Folds.{find-append}
use Rattle.rig_scene.specs.declared.id.ObjectId.{ObjectId}
use Rattle.rig_scene.specs.declared.object.Kind.{Kind}
use Rattle.rig_scene.specs.declared.object.Object.{Object}
use Rattle.rig_scene.specs.declared.operation.OpId.{OpId}
use Rattle.rig_scene.specs.Id.{same_object}
use Rattle.rig_scene.specs.Operations.{operations, ins}
use Rattle.rig_scene.specs.Scene.{SceneRecord, object_of}
use Rattle.rig_scene.specs.WellFormed.{is_scene, has_object}
use Rattle.rig_laws.specs.Lists.{is_some-Some}
use Rattle.rig_edits.specs.declared.edit.Edit.TheVariants.{AddObject}
use Rattle.rig_edits.specs.declared.edit.NewKind.{NewKind}
use Rattle.rig_edits.specs.Conditions.{first_cause}
use Rattle.rig_edits.specs.Edited.{kind_of, new_object, edited}
use Rattle.rig_touch.specs.Agree.{Agree}
use Rattle.rig_touch.specs.OtherPencils.{itself_agrees}
use Rattle.rig_touch.specs.AgreeOthers.{agree_others}
use Rattle.rig_touch.specs.NamesThere.{names_there}
use Rattle.rig_touch.specs.Touch.{touch}

-- an object is found still where others stand behind it
found_still : (s : SceneRecord) (more : List Object) (o : ObjectId) → IsTrue (has_object s o)
    → object_of s o ≡ find (λ (q : Object). same_object q.id o) (s.objects ++ more)
found_still s more o h =
    let test = λ (q : Object). same_object q.id o in
    let x = is_some-Some (object_of s o) h in
    x.1 ∙ sym (find-append test s.objects more ∙ ap (λ r. option_or r (find test more)) x.1)

-- what isn't changed by an object that is added: all
pub agree_add_object : (s : SceneRecord) → IsTrue (is_scene s) → (name : List ℕ) (kind : NewKind)
    → first_cause s (AddObject name kind) ≡ None → (op : OpId) → Contains (operations s) op
    → Contains (operations (edited s (AddObject name kind))) op → (Contains (touch s (AddObject name kind)) op → ⊥)
    → ins s op ≡ ins (edited s (AddObject name kind)) op → Agree s (edited s (AddObject name kind)) op
agree_add_object s is name kind accept op old new untouched links = by (kind_of s kind)
  where
    by : (r : Option Kind)
        → Agree s (option_map_or (λ k. record s { objects = s.objects ++ new_object s name k ∷ []; next = s.next + 1 }) r s) op
    by None = itself_agrees s op
    by (Some k) =
        agree_others s (s.objects ++ new_object s name k ∷ []) s.drivers (s.next + 1) s
        (record { object = found_still s (new_object s name k ∷ []); driver = λ id h path. refl }) op refl (λ id h path. refl)
        (names_there s is op old)

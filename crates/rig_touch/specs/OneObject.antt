-- One object of a scene changed, which keeps its id: what is read of the objects besides.
use Rattle.std.proofs.Common.{◌≡◌, ℕ, Bool, false, List, map, Option, Some, None, refl, sym, ap, ◌∙◌}
use Rattle.std.specs.Prelude.{slice_set, is_some, option_map, option_and_then}
use Rattle.std.specs.List.{find, position_or_len}
use Rattle.std.proofs.lemmas.Bool.{false_from_ne_true}
use Rattle.rig_scene.specs.declared.id.ObjectId.{ObjectId}
use Rattle.rig_scene.specs.declared.object.Object.{Object}
use Rattle.rig_scene.specs.Id.{same_object}
use Rattle.rig_scene.specs.Same.{same_object-equal}
use Rattle.rig_scene.specs.Scene.{SceneRecord, object_of}
use Rattle.rig_scene.specs.Text.{same_text}
use Rattle.rig_edits.specs.Edited.{with_object}
use Rattle.rig_edits.specs.Named.{object_named}
use Rattle.rig_edits.specs.Replaced.{at_first, first_replaced, map-replaced, find-of_map}
use Rattle.rig_touch.specs.FirstChanged.{find-neither}

-- a function of what is there changes nothing of whether it is there
pub some-of_map : {A B : Type 0} (f : A → B) (o : Option A) → is_some (option_map f o) ≡ is_some o
some-of_map f None = refl
some-of_map f (Some x) = refl

module _ (s : SceneRecord) (name : List ℕ) (change : Object → Object) (x : Object) (named : object_named s name ≡ Some x)
    (id : (change x).id ≡ x.id) where
  -- what is read of the object that the change leaves as it is
  pub viewed : {B : Type 0} (view : Object → B) → view (change x) ≡ view x → (o : ObjectId)
      → option_map view (object_of s o) ≡ option_map view (object_of (with_object s name change) o)
  viewed {B} view keeps o =
      let i = position_or_len (λ (q : Object). same_text q.name name) s.objects in
      let both : Object → ObjectId × B = λ q. (q.id, view q) in
      let test : ObjectId × B → Bool = λ n. same_object n.0 o in
      let named_here : Object → Bool = λ q. same_text q.name name in
      let pairs : map both (slice_set s.objects i (change x)) ≡ map both s.objects =
      map-replaced both s.objects i x (change x) (at_first named_here change s.objects x named) (λ j. (id j, keeps j)) in
      let found : option_map both (object_of s o) ≡ option_map both (find (λ (q : Object). same_object q.id o) (slice_set s.objects i (change x))) =
      sym (find-of_map both test s.objects) ∙ ap (find test) (sym pairs) ∙ find-of_map both test (slice_set s.objects i (change x)) in
      sym (second (object_of s o)) ∙ ap (option_map (λ (n : ObjectId × B). n.1)) found
      ∙ second (find (λ (q : Object). same_object q.id o) (slice_set s.objects i (change x)))
      ∙ ap (λ objects. option_map view (find (λ (q : Object). same_object q.id o) objects)) (sym (first_replaced named_here change s.objects x named))
    where
      second : (r : Option Object) → option_map (λ (n : ObjectId × B). n.1) (option_map (λ q. (q.id, view q)) r) ≡ option_map view r
      second None = refl
      second (Some x) = refl

  -- and where it may be absent
  pub viewed_then : {B : Type 0} (view : Object → Option B) → view (change x) ≡ view x → (o : ObjectId)
      → option_and_then view (object_of s o) ≡ option_and_then view (object_of (with_object s name change) o)
  viewed_then {B} view keeps o =
      sym (inner (object_of s o)) ∙ ap (option_and_then (λ (r : Option B). r)) (viewed view keeps o)
      ∙ inner (object_of (with_object s name change) o)
    where
      inner : (r : Option Object) → option_and_then (λ (r : Option B). r) (option_map view r) ≡ option_and_then view r
      inner None = refl
      inner (Some x) = refl

  -- whether there is an object
  pub still_there : (o : ObjectId) → is_some (object_of s o) ≡ is_some (object_of (with_object s name change) o)
  still_there o =
      sym (some-of_map (λ (q : Object). q.id) (object_of s o)) ∙ ap is_some (viewed (λ (q : Object). q.id) id o)
      ∙ some-of_map (λ (q : Object). q.id) (object_of (with_object s name change) o)

  -- another object than the one of the name
  pub another : (o : ObjectId) → (x.id ≡ o → ⊥) → object_of s o ≡ object_of (with_object s name change) o
  another o differs =
      let test = λ (q : Object). same_text q.name name in
      let old : same_object x.id o ≡ false = false_from_ne_true (same_object x.id o) (λ is. differs (same_object-equal x.id o is)) in
      sym (find-neither (λ (q : Object). same_object q.id o) s.objects (position_or_len test s.objects) x (change x)
      (at_first test change s.objects x named) old (ap (λ (i : ObjectId). same_object i o) id ∙ old))
      ∙ ap (find (λ (q : Object). same_object q.id o)) (sym (first_replaced test change s.objects x named))

-- What an action of a scene is, borrowed, and what is found in a list.
use Rattle.std.proofs.Common.{◌≡◌, ℕ, zero, suc, ◌≤◌, List, [], ◌∷◌, length, get_or, Bool, true, false, cond, Option, Some, None, IsTrue, MatchOption, option_map, slice_get, is_some, IfSome, nat_lt, refl, sym, arith}
use Rattle.std.proofs.lemmas.Bool.{and_parts}
use Rattle.std.proofs.lemmas.Bool.Decides.{nat_tests}
use Rattle.std.proofs.lemmas.Option.{slice_get_past, slice_get_read}
use Rattle.std.specs.Borrow.{Bor}
use Rattle.std.specs.List.{find, list_all}
use Rattle.rig_scene.specs.declared.action.Action.{Action}
use Rattle.rig_scene.specs.declared.object.Object.{Object}
use Rattle.rig_scene.specs.Scene.{SceneRecord}
use Rattle.rig_scene.specs.WellFormed.{is_action, is_scene}
use Rattle.rig_scene.specs.FactsHold.{scene_facts}
use Rattle.rig_scene.specs.declared.limits.TheConstants.{MAX_OBJECTS}
use Rattle.rig_play.specs.Stands.{object_action}

-- an element of a list in which each passes the test passes it
pub list_all-slice_get : {A : Type 0} (p : A → Bool) (xs : List A) (k : ℕ) (x : A) → list_all p xs ≡ true → slice_get xs k ≡ Some x → p x ≡ true
list_all-slice_get p [] k x all at = cc
list_all-slice_get p (y ∷ ys) zero x all at =
    let e : y ≡ x = cc in
    rw (← e) ((and_parts (p y) (list_all p ys) all).0)
list_all-slice_get p (y ∷ ys) (suc k) x all at = list_all-slice_get p ys k x (and_parts (p y) (list_all p ys) all).1 at

-- what is found passes each test that all pass
pub find-list_all : {A : Type 0} (p q : A → Bool) (xs : List A) (x : A) → list_all q xs ≡ true → find p xs ≡ Some x → q x ≡ true
find-list_all p q [] x all at = cc
find-list_all {A} p q (y ∷ ys) x all at =
    let go : (b : Bool) → cond b (Some y) (find p ys) ≡ Some x → q x ≡ true = λ b. elim b as (λ b. cond b (Some y) (find p ys) ≡ Some x → q x ≡ true) [
      | true ↦ λ e. let same : y ≡ x = cc in rw (← same) ((and_parts (q y) (list_all q ys) all).0)
      | false ↦ λ e. find-list_all p q ys x (and_parts (q y) (list_all q ys) all).1 e
    ] in
    go (p y) at

-- a borrowed element that was found
pub found : {A : Type 0} (p q : A → Bool) (xs : List A) (r : Option (Bor A)) → list_all q xs ≡ true → option_map (λ a. a.now) r ≡ find p xs → MatchOption r (find p xs ≡ None) (λ a. (find p xs ≡ Some a.now) × IsTrue (q a.now))
found p q xs None all is = sym is
found p q xs (Some a) all is = (sym is, find-list_all p q xs a.now all (sym is))

-- what `get` of a slice answers
pub got : {A : Type 0} (xs : List A) (i : ℕ) (r : Option (Bor A)) → is_some r ≡ nat_lt i (length xs) → IfSome r (λ a. a.now ≡ get_or xs i a.now) → option_map (λ a. a.now) r ≡ slice_get xs i
got xs i None is at = sym (slice_get_past xs i (grind (arith, nat_tests)))
got xs i (Some a) is at = sym (slice_get_read xs (length xs) i a.now refl (grind (arith, nat_tests)) at)

-- the actions of a scene meet their conditions
pub scene_actions : (scene : SceneRecord) → is_scene scene ≡ true → list_all is_action scene.actions ≡ true
unfolding is_scene
scene_actions scene holds = grind arith

-- a scene has no more objects than it may have
pub few_objects : (scene : SceneRecord) → is_scene scene ≡ true → length scene.objects ≤ MAX_OBJECTS
few_objects scene holds = (scene_facts scene holds).objects.count

-- an action of a scene, borrowed
pub got_action : (scene : SceneRecord) (object : Object) (index : ℕ) (r : Option (Bor Action)) → is_scene scene ≡ true → object.action ≡ Some index → option_map (λ a. a.now) r ≡ slice_get scene.actions index → MatchOption r (object_action scene object ≡ None) (λ a. (object_action scene object ≡ Some a.now) × IsTrue (is_action a.now))
got_action scene object index None holds has is = rw has (sym is)
got_action scene object index (Some a) holds has is =
    (rw has (sym is), list_all-slice_get is_action scene.actions index a.now (scene_actions scene holds) (sym is))

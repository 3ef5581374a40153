-- The first element that passes a test: whether there is one, and the list with it changed, written back or taken out.
use Rattle.std.proofs.Common.{sym, ◌≡◌, ℕ, zero, suc, Bool, List, [], ◌∷◌, Option, Some, refl, ap, ◌∙◌, true, false, not, ◌||◌, cond, None, MatchOption, filter}
use Rattle.std.specs.Prelude.{slice_get, slice_set, is_none, is_some, remove}
use Rattle.std.specs.Option.{option_map_or}
use Rattle.std.specs.List.{position, find, list_any, All, AllPairs}
use Rattle.std.proofs.lemmas.Option.{same_Some, none-some}
use Rattle.rig_edits.specs.Named.{update_at, update_first}
use Rattle.rig_edits.specs.Steps.{FoundAt, FoundNowhere}
use Rattle.rig_edits.specs.Replaced.{All-slice_get}
use Rattle.std.proofs.lemmas.Bool.{false_from_ne_true}
use Rattle.std.proofs.lemmas.List.Elements.{All-head, All-tail, All-weaker}
use Rattle.rig_scene.specs.Pairs.{AllPairs-head, AllPairs-tail}
use Rattle.rig_edits.proofs.StepFacts.{found}
use Rattle.rig_edits.specs.Replaced.{All-slice_get}
use Rattle.std.proofs.lemmas.Bool.{true≢false}

module _ {A : Type 0} (test : A → Bool) where
  -- one passes where one is found
  any_if : (b : Bool) (x : A) (any : Bool) (first : Option A) → any ≡ is_some first → (b || any) ≡ is_some (cond b (Some x) first)
  any_if true x any first e = refl
  any_if false x any first e = e

  pub list_any-find : (xs : List A) → list_any test xs ≡ is_some (find test xs)
  list_any-find [] = refl
  list_any-find (x ∷ xs) = any_if (test x) x (list_any test xs) (find test xs) (list_any-find xs)

  -- and where one has an index
  pub is_none-position : (xs : List A) → is_none (position test xs) ≡ not (list_any test xs)
  is_none-position xs = by (position test xs) (found test xs)
    where
      by : (r : Option ℕ) → MatchOption r (FoundNowhere test xs) (FoundAt test xs) → is_none r ≡ not (list_any test xs)
      by None h = ap not (sym (list_any-find xs ∙ ap is_some h.is_found))
      by (Some i) h = ap not (sym (list_any-find xs ∙ ap is_some h.is_found))

-- the first that passes is changed at its index
pub updated_first : {A : Type 0} (test : A → Bool) (change : A → A) (xs : List A) (i : ℕ) → position test xs ≡ Some i
    → update_first test change xs ≡ update_at change i xs
updated_first test change xs i e = ap (λ r. option_map_or (λ index. update_at change index xs) r xs) e

-- two changes that make the same of an element
pub updated_alike : {A : Type 0} (f g : A → A) (i : ℕ) (xs : List A) (x : A) → slice_get xs i ≡ Some x → f x ≡ g x
    → update_at f i xs ≡ update_at g i xs
updated_alike f g i xs x e same =
    ap (λ r. option_map_or (λ y. slice_set xs i (f y)) r xs) e ∙ ap (λ y. slice_set xs i y) same
    ∙ sym (ap (λ r. option_map_or (λ y. slice_set xs i (g y)) r xs) e)

-- and changed alike by another change
pub first_changed : {A : Type 0} (change other : A → A) (xs : List A) (i : ℕ) (x : A) (test : A → Bool) → position test xs ≡ Some i
    → slice_get xs i ≡ Some x → change x ≡ other x → update_first test change xs ≡ update_at other i xs
first_changed change other xs i x test found at same = updated_first test change xs i found ∙ updated_alike change other i xs x at same

-- an element in its own place changes nothing
pub set_itself : {A : Type 0} (xs : List A) (i : ℕ) (x : A) → slice_get xs i ≡ Some x → slice_set xs i x ≡ xs
set_itself [] i x at = refl
set_itself (y ∷ ys) zero x at = ap (λ z. z ∷ ys) (sym (same_Some y x at))
set_itself (y ∷ ys) (suc i) x at = ap (λ zs. y ∷ zs) (set_itself ys i x at)

-- ---- the first that passes, taken out

module _ {A : Type 0} (test : A → Bool) where
  -- a filter keeps all, where none of them fails
  filter_none : (xs : List A) → All (λ x. test x ≡ false) xs → filter (λ x. not (test x)) xs ≡ xs
  filter_none [] h = refl
  filter_none (x ∷ xs) h =
      ap (λ b. cond (not b) (x ∷ filter (λ x. not (test x)) xs) (filter (λ x. not (test x)) xs)) (All-head (λ x. test x ≡ false) x xs h)
      ∙ ap (λ ys. x ∷ ys) (filter_none xs (All-tail (λ x. test x ≡ false) x xs h))

  -- of two elements only one passes
  abbrev pub Apart : A → A → Type 0
  Apart x y = test x ≡ true → test y ≡ false

  -- the only one that passes is what a filter takes out
  pub remove_only : (xs : List A) (i : ℕ) (x : A) → slice_get xs i ≡ Some x → test x ≡ true → AllPairs Apart xs
      → remove xs i ≡ filter (λ y. not (test y)) xs
  remove_only [] i x at is apart = absurd (none-some x at)
  remove_only (y ∷ ys) zero x at is apart =
      let here : test y ≡ true = ap test (same_Some y x at) ∙ is in
      let others : All (λ z. test z ≡ false) ys = All-weaker (Apart y) (λ z. test z ≡ false) (λ z fails. fails here) ys (AllPairs-head Apart y ys apart) in
      sym (ap (λ b. cond (not b) (y ∷ filter (λ z. not (test z)) ys) (filter (λ z. not (test z)) ys)) here ∙ filter_none ys others)
  remove_only (y ∷ ys) (suc i) x at is apart =
      let fails : Apart y x = All-slice_get (Apart y) ys i x at (AllPairs-head Apart y ys apart) in
      let before : test y ≡ false = false_from_ne_true (test y) (λ passes. true≢false (sym is ∙ fails passes)) in
      ap (λ zs. y ∷ zs) (remove_only ys i x at is (AllPairs-tail Apart y ys apart))
      ∙ sym (ap (λ b. cond (not b) (y ∷ filter (λ z. not (test z)) ys) (filter (λ z. not (test z)) ys)) before)

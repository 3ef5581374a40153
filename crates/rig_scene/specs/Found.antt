-- What a search of a list gives: an element of the list that passes. What passes is found.
use Rattle.std.proofs.Common.{◌≡◌, ℕ, zero, suc, ◌<◌, Bool, true, false, cond, List, [], ◌∷◌, length, Some, refl, sym, ap, ◌∙◌, arith}
use Rattle.std.specs.Prelude.{slice_get}
use Rattle.std.specs.List.{find, Contains}
use Rattle.std.proofs.lemmas.Option.{same_Some}

Contains-later : {A : Type 0} (x y : A) (xs : List A) → Contains xs y → Contains (x ∷ xs) y
Contains-later x y xs h = (suc h.0, omega (arith, h.1), h.2)

-- an element by its index is an element
pub Contains-slice_get : {A : Type 0} (xs : List A) (k : ℕ) (x : A) → slice_get xs k ≡ Some x → Contains xs x
Contains-slice_get [] k x e = cc
Contains-slice_get (y ∷ ys) zero x e = (0, omega arith, same_Some y x e)
Contains-slice_get (y ∷ ys) (suc k) x e = Contains-later y x ys (Contains-slice_get ys k x e)

-- an index below the length has an element
pub some_slice_get : {A : Type 0} (xs : List A) (k : ℕ) → k < length xs → (x : A) × (slice_get xs k ≡ Some x)
some_slice_get [] k l = absurd (omega arith)
some_slice_get (x ∷ xs) zero l = (x, refl)
some_slice_get (x ∷ xs) (suc k) l = some_slice_get xs k (omega arith)

module _ {A : Type 0} (p : A → Bool) where
  find-contains_if : (y x : A) (ys : List A) (b : Bool) → p y ≡ b → (find p ys ≡ Some x → Contains ys x × (p x ≡ true)) → cond b (Some y) (find p ys) ≡ Some x → Contains (y ∷ ys) x × (p x ≡ true)
  find-contains_if y x ys true is rest e = ((0, omega arith, same_Some y x e), ap p (sym (same_Some y x e)) ∙ is)
  find-contains_if y x ys false is rest e = let h = rest e in (Contains-later y x ys h.0, h.1)

  -- what is found is an element that passes
  pub find-contains : (xs : List A) (x : A) → find p xs ≡ Some x → Contains xs x × (p x ≡ true)
  find-contains [] x e = cc
  find-contains (y ∷ ys) x e = find-contains_if y x ys (p y) refl (find-contains ys x) e

-- A table with one entry for each element of a list.
use Rattle.std.proofs.Common.{◌≡◌, ℕ, zero, suc, ◌+◌, ◌<◌, List, [], ◌∷◌, ◌++◌, length, take, map, get_or, slice_get, Option, refl, sym, subst, ap, ◌∙◌, arith}
use Rattle.std.specs.Prelude.{option_and_then}
use Rattle.std.specs.List.{AllZip}
use Rattle.std.proofs.Math.Seq.{take-suc}

module _ {T A : Type 0} (R : T → A → Type 0) where
  pushed : (ts : List T) (xs : List A) (t : T) (x : A) → AllZip R ts xs → R t x → AllZip R (ts ++ t ∷ []) (xs ++ x ∷ [])
  pushed [] [] t x each last = (last, tt)
  pushed [] (y ∷ xs) t x each last = absurd each
  pushed (u ∷ ts) [] t x each last = absurd each
  pushed (u ∷ ts) (y ∷ xs) t x each last = (each.0, pushed ts xs t x each.1 last)

  -- one more entry, for the next element
  pub one_more : (ts : List T) (xs : List A) (i : ℕ) (t : T) (x : A) → AllZip R ts (take i xs) → i < length xs → x ≡ get_or xs i x → R t x → AllZip R (ts ++ t ∷ []) (take (i + 1) xs)
  one_more ts xs i t x each l is last =
      subst (AllZip R (ts ++ t ∷ [])) (sym (ap (λ n. take n xs) {x = i + 1} {y = suc i} (omega arith) ∙ take-suc xs i x l))
      (pushed ts (take i xs) t (get_or xs i x) each (subst (R t) is last))

-- what is looked up in an entry is what is looked up in its element
pub looked_up : {T A B V : Type 0} (R : T → B → Type 0) (F : A → B) (f : T → Option V) (g : B → Option V) → ((t : T) (b : B) → R t b → f t ≡ g b)
    → (ts : List T) (xs : List A) → AllZip (λ t x. R t (F x)) ts xs → (k : ℕ) → option_and_then f (slice_get ts k) ≡ option_and_then g (slice_get (map F xs) k)
looked_up R F f g same [] [] each k = refl
looked_up R F f g same [] (x ∷ xs) each k = absurd each
looked_up R F f g same (t ∷ ts) [] each k = absurd each
looked_up R F f g same (t ∷ ts) (x ∷ xs) each zero = same t (F x) each.0
looked_up R F f g same (t ∷ ts) (x ∷ xs) each (suc k) = looked_up R F f g same ts xs each.1 k

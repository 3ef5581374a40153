-- The first of a list that passes a test, as the list grows by its end.
use Rattle.std.proofs.Common.{◌≡◌, ℕ, suc, ◌+◌, ◌<◌, ◌≤◌, Bool, true, false, cond, List, [], ◌∷◌, ◌++◌, length, take, map, get_or, position, Option, Some, None, refl, ap, ◌∙◌, eqb, nat_lt, arith}
use Rattle.std.specs.List.{position_or_len}
use Rattle.std.proofs.Math.ListN.{get_or-map}
use Rattle.std.proofs.Math.Seq.{take-suc}
use Rattle.std.proofs.lemmas.Bool.{lt-ltb, ltb-true, le-ltb, ltb-false, eq-eqb, ne_eqb}
use Rattle.std.proofs.lemmas.List.{length-append, length-map, length-take-le}
use Rattle.std.proofs.lemmas.List.Folds.{position_or_len_push}
use Rattle.std.proofs.lemmas.List.Sums.{prefix_len-le-length}
use Rattle.rig_kernel.specs.ChannelCurves.{found_or}

-- an index that may be that of the end, as an index that is there
abbrev within : ℕ → ℕ → Option ℕ
within len n = cond (nat_lt n len) (Some n) None

module _ {A : Type 0} (p : A → Bool) where
  at_end : (n len : ℕ) (b : Bool) → n ≤ len → within (len + 1) (cond (eqb n len) (len + cond b 0 1) n) ≡ found_or (within len n) b len
  at_end n len b le = by (nat_lt n len) refl b
    where
      by : (before : Bool) → nat_lt n len ≡ before → (b : Bool) → within (len + 1) (cond (eqb n len) (len + cond b 0 1) n) ≡ found_or (cond before (Some n) None) b len
      by true e b =
          ap (λ c. within (len + 1) (cond c (len + cond b 0 1) n)) (ne_eqb n len (λ same. absurd (omega (arith, ltb-true n len e))))
          ∙ ap (λ c. cond c (Some n) None) (lt-ltb n (len + 1) (omega (arith, ltb-true n len e)))
      by false e true =
          ap (λ c. within (len + 1) (cond c (len + 0) n)) (eq-eqb n len (omega (arith, ltb-false n len e)))
          ∙ ap (λ c. cond c (Some (len + 0)) None) (lt-ltb (len + 0) (len + 1) (omega arith))
          ∙ ap Some {x = len + 0} (omega arith)
      by false e false =
          ap (λ c. within (len + 1) (cond c (len + 1) n)) (eq-eqb n len (omega (arith, ltb-false n len e)))
          ∙ ap (λ c. cond c (Some (len + 1)) None) (le-ltb (len + 1) (len + 1) (omega arith))

  -- one more at the end passes where none before it does
  pub position_push : (xs : List A) (x : A) → position p (xs ++ x ∷ []) ≡ found_or (position p xs) (p x) (length xs)
  position_push xs x =
      ap (λ n. within (length (xs ++ x ∷ [])) n) (position_or_len_push p xs x)
      ∙ ap (λ len. within len (cond (eqb (position_or_len p xs) (length xs)) (length xs + cond (p x) 0 1) (position_or_len p xs))) (length-append xs (x ∷ []))
      ∙ at_end (position_or_len p xs) (length xs) (p x) (prefix_len-le-length _ xs)

  -- one more of a list passes where none before it does
  pub position-take_next : (xs : List A) (i : ℕ) (d : A) → i < length xs
      → position p (take (i + 1) xs) ≡ found_or (position p (take i xs)) (p (get_or xs i d)) i
  position-take_next xs i d l =
      ap (λ n. position p (take n xs)) {x = i + 1} {y = suc i} (omega arith)
      ∙ ap (position p) (take-suc xs i d l)
      ∙ position_push (take i xs) (get_or xs i d)
      ∙ ap (λ n. found_or (position p (take i xs)) (p (get_or xs i d)) n) (length-take-le i xs (omega arith))

module _ {A B : Type 0} (p : B → Bool) (f : A → B) where
  -- the same of a list that is mapped
  pub position-take_more : (xs : List A) (i : ℕ) (d : A) → i < length xs
      → position p (take (i + 1) (map f xs)) ≡ found_or (position p (take i (map f xs))) (p (f (get_or xs i d))) i
  position-take_more xs i d l =
      position-take_next p (map f xs) i (f d) (omega (arith, length-map xs f))
      ∙ ap (λ x. found_or (position p (take i (map f xs))) (p x) i) (get_or-map f xs i d)

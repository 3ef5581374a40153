-- Lists whose numbers rise: where the element of a number stands.
use Rattle.std.proofs.Common.{◌≡◌, ℕ, zero, suc, ◌+◌, ◌<◌, ◌≤◌, List, [], ◌∷◌, length, get_or, Bool, true, false, cond, Some, None, refl, sym, ◌∙◌, ⊎_elim, arith}
use Rattle.std.proofs.lemmas.Bool.{cases_lt}
use Rattle.std.proofs.lemmas.Bool.Decides.{nat_tests}
use Rattle.std.proofs.lemmas.List.Elements.{All-head, All-tail, All-weaker}
use Rattle.std.proofs.lemmas.List.Sums.{prefix_len_is}
use Rattle.std.specs.Prelude.{◌==◌, is_some, nat_lt, slice_get, option_and_then}
use Rattle.std.specs.List.{All, AllPairs, find, prefix_len}
use Rattle.std.specs.List.Sorted.{IsPartitionedBy, IsPartitionPoint}
use Rattle.rig_scene.specs.Pairs.{AllPairs-head, AllPairs-tail}

module _ {A : Type 0} (f : A → ℕ) (n : ℕ) where
  -- nothing above the number has it
  none_above : (xs : List A) → All (λ x. n < f x) xs → find (λ x. f x == n) xs ≡ None
  none_above [] h = refl
  none_above (x ∷ xs) h =
      let above : n < f x = All-head (λ x. n < f x) x xs h in
      let no : (f x == n) ≡ false = grind (arith, nat_tests) in
      rw no (none_above xs (All-tail (λ x. n < f x) x xs h))

  -- what has the number stands behind what has a lower one
  found_if : (x : A) (xs : List A) → AllPairs (λ x y. f x < f y) (x ∷ xs)
      → (below same : Bool) → nat_lt (f x) n ≡ below → (f x == n) ≡ same
      → find (λ x. f x == n) xs ≡ option_and_then (λ x. cond (f x == n) (Some x) None) (slice_get xs (prefix_len (λ x. nat_lt (f x) n) xs))
      → cond same (Some x) (find (λ x. f x == n) xs) ≡ option_and_then (λ x. cond (f x == n) (Some x) None) (slice_get (x ∷ xs) (cond below (1 + prefix_len (λ x. nat_lt (f x) n) xs) 0))
  found_if x xs rises true true is_below is_same rest = absurd (grind (arith, nat_tests))
  found_if x xs rises true false is_below is_same rest =
      let e : 1 + prefix_len (λ x. nat_lt (f x) n) xs ≡ suc (prefix_len (λ x. nat_lt (f x) n) xs) = omega arith in
      rw e rest
  found_if x xs rises false true is_below is_same rest = rw is_same refl
  found_if x xs rises false false is_below is_same rest =
      let above : n < f x = grind (arith, nat_tests) in
      rw is_same (none_above xs (All-weaker (λ y. f x < f y) (λ y. n < f y) (λ y l. omega arith) xs (AllPairs-head (λ x y. f x < f y) x xs rises)))

  pub found : (xs : List A) → AllPairs (λ x y. f x < f y) xs
      → find (λ x. f x == n) xs ≡ option_and_then (λ x. cond (f x == n) (Some x) None) (slice_get xs (prefix_len (λ x. nat_lt (f x) n) xs))
  found [] rises = refl
  found (x ∷ xs) rises = found_if x xs rises (nat_lt (f x) n) (f x == n) refl refl (found xs (AllPairs-tail (λ x y. f x < f y) x xs rises))

  some_if : (b : Bool) (x : A) → is_some (cond b (Some x) None) ≡ b
  some_if true x = refl
  some_if false x = refl

  -- an element that has the number is behind exactly those that have lower ones
  pub at_index : (xs : List A) (i : ℕ) → AllPairs (λ x y. f x < f y) xs
      → is_some (option_and_then (λ x. cond (f x == n) (Some x) None) (slice_get xs i)) ≡ true → prefix_len (λ x. nat_lt (f x) n) xs ≡ i
  at_index [] i rises is = cc
  at_index (x ∷ xs) zero rises is =
      let same : (f x == n) ≡ true = sym (some_if (f x == n) x) ∙ is in
      let no : nat_lt (f x) n ≡ false = grind (arith, nat_tests) in
      rw no refl
  at_index (x ∷ xs) (suc i) rises is =
      let yes : nat_lt (f x) n ≡ true = below_later xs i (AllPairs-head (λ x y. f x < f y) x xs rises) is in
      let rest : prefix_len (λ x. nat_lt (f x) n) xs ≡ i = at_index xs i (AllPairs-tail (λ x y. f x < f y) x xs rises) is in
      rw yes (omega arith)
    where
      below_later : (xs : List A) (i : ℕ) → All (λ y. f x < f y) xs → is_some (option_and_then (λ x. cond (f x == n) (Some x) None) (slice_get xs i)) ≡ true
          → nat_lt (f x) n ≡ true
      below_later [] i h e = cc
      below_later (y ∷ ys) zero h e =
          let l : f x < f y = All-head (λ y. f x < f y) y ys h in
          let same : (f y == n) ≡ true = sym (some_if (f y == n) y) ∙ e in
          grind (arith, nat_tests)
      below_later (y ∷ ys) (suc i) h e = below_later ys i (All-tail (λ y. f x < f y) y ys h) e

  -- those that have lower numbers come first
  pub partitioned : (xs : List A) → AllPairs (λ x y. f x < f y) xs → IsPartitionedBy (λ x. nat_lt (f x) n) xs
  partitioned xs rises i j d le within passes =
      ⊎_elim (λ earlier. let l : f (get_or xs i d) < f (get_or xs j d) = rises i j d earlier within in grind (arith, nat_tests))
      (λ same. let e : i ≡ j = omega arith in rw e passes) (cases_lt i j)

  -- where they end is how many they are
  pub point_is : (xs : List A) (i : ℕ) → i ≤ length xs → IsPartitionPoint (λ x. nat_lt (f x) n ≡ true) (λ x. nat_lt (f x) n ≡ false) xs i
      → i ≡ prefix_len (λ x. nat_lt (f x) n) xs
  point_is [] zero within point = refl
  point_is [] (suc i) within point = absurd (omega arith)
  point_is (x ∷ xs) i within point = sym (prefix_len_is (λ x. nat_lt (f x) n) (x ∷ xs) i x within (λ k l. point.0 k x (omega arith) l) (λ l. point.1 i x (omega arith) l))

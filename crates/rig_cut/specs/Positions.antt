-- The first index at which a test passes.
use Rattle.std.specs.Prelude.{nat_lt}
use Rattle.std.specs.List.{list_any, position, position_or_len}
use Rattle.std.proofs.Common.{◌≡◌, ℕ, ◌<◌, Bool, true, false, not, List, length, get_or, Some, None, ap, ◌∙◌, arith}
use Rattle.std.proofs.lemmas.Bool.{cond-true, cond-false, lt-ltb, le-ltb, both_ways, false_from_ne_true}
use Rattle.std.proofs.lemmas.List.Folds.{list_any_at}
use Rattle.std.proofs.lemmas.List.Sums.{prefix_len_is}

module _ {X : Type 0} (p : X → Bool) (xs : List X) where
  -- it is the one at which the test passes, where it doesn't at an earlier one
  pub position_at : (i : ℕ) (d : X) → i < length xs → p (get_or xs i d) ≡ true → ((k : ℕ) → k < i → p (get_or xs k d) ≡ false) → position p xs ≡ Some i
  position_at i d within here before =
      let is : position_or_len p xs ≡ i = prefix_len_is (λ x. not (p x)) xs i d (omega arith) (λ k h. ap not (before k h)) (λ h. ap not here) in
      cond-true (nat_lt (position_or_len p xs) (length xs)) (Some (position_or_len p xs)) None (lt-ltb (position_or_len p xs) (length xs) (omega arith)) ∙ ap Some is

  -- there is none where it passes nowhere
  pub position_none : X → list_any p xs ≡ false → position p xs ≡ None
  position_none d none =
      let is : position_or_len p xs ≡ length xs =
      prefix_len_is (λ x. not (p x)) xs (length xs) d (omega arith)
      (λ k h. ap not (false_from_ne_true (p (get_or xs k d)) (λ t. both_ways (list_any p xs) none (list_any_at p xs k d h t)))) (λ h. absurd (omega arith)) in
      cond-false (nat_lt (position_or_len p xs) (length xs)) (Some (position_or_len p xs)) None (le-ltb (position_or_len p xs) (length xs) (omega arith))

-- The place of each number in an order of all numbers below its length.
use Rattle.std.proofs.Common.{◌≡◌, ℕ, ◌<◌, ◌≤◌, List, ◌++◌, length, take, drop, get_or, Some, sym, ap, subst, ◌∙◌, arith}
use Rattle.std.specs.Prelude.{slice_get, IsPermutation}
use Rattle.std.specs.List.{All, range_with_len}
use Rattle.std.proofs.lemmas.Grind.{get_or_default_zero}
use Rattle.std.proofs.lemmas.List.FromFn.{length-range_with_len}
use Rattle.std.proofs.lemmas.List.{append-nil, drop_all, take_all}
use Rattle.std.proofs.lemmas.List.Sorted.{Contains-permutation, All-permutation, length_permutation}
use Rattle.rig_laws.specs.Lists.{All-below, Contains-below}
use Rattle.rig_links.specs.Tables.{ArePlaces}

-- at the number of an index is a place where the order has that number
abbrev pub Stands : List ℕ → List ℕ → ℕ → Type 0
Stands order places i = slice_get order (get_or places (get_or order i 0) 0) ≡ Some (get_or order i 0)

-- an order of all numbers below a count is one of those below its length
pub as_many_as : (count : ℕ) (order : List ℕ) → IsPermutation (range_with_len 0 count) order → length order ≡ count
as_many_as count order same = length_permutation (range_with_len 0 count) order same ∙ length-range_with_len 0 count

pub each_once : (count : ℕ) (order : List ℕ) → IsPermutation (range_with_len 0 count) order → IsPermutation (range_with_len 0 (length order)) order
each_once count order same = subst (λ n. IsPermutation (range_with_len 0 n) order) (sym (as_many_as count order same)) same

-- the numbers of an order of all below its length are below it
pub all_below : (order places : List ℕ) → length places ≡ length order → IsPermutation (range_with_len 0 (length order)) order → All (λ n. n < length places) order
all_below order places long same =
    subst (λ count. All (λ n. n < count) order) (sym long)
    (All-permutation (λ n. n < length order) (range_with_len 0 (length order)) order same (All-below (λ n. n < length order) (length order) (λ k l. l)))

-- once each number has its place
pub all_placed : (order places : List ℕ) → length places ≡ length order → IsPermutation (range_with_len 0 (length order)) order → ((i : ℕ) → i < length order → Stands order places i) → ArePlaces order places
all_placed order places long same each = record { count = long; at = at }
  where
    at : (n : ℕ) → n < length order → slice_get order (get_or places n 0) ≡ Some n
    at n l =
        let there = Contains-permutation (range_with_len 0 (length order)) order n same (Contains-below (length order) n l) in
        let is : get_or order there.0 0 ≡ n = sym (get_or_default_zero order there.0 n there.1) ∙ there.2 in
        subst (λ m. slice_get order (get_or places m 0) ≡ Some m) is (each there.0 there.1)

-- a list that was taken out and put back at the same length
pub put_back : (new old : List ℕ) (count : ℕ) → length new ≡ length old → length old ≤ count → new ≡ take count (new ++ drop (length new) old)
put_back new old count same all =
    sym (ap (λ l. take count (new ++ l)) (drop_all (length new) old (omega arith)) ∙ ap (take count) (append-nil new) ∙ take_all count new (omega arith))

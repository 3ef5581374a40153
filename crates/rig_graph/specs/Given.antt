-- What there is of a number while the operations of some numbers run in order.
use Rattle.std.specs.Prelude.{slice_get, nat_eq, nat_lt, Contains, IsPermutation, option_map, option_and_then, ℤ}
use Rattle.std.specs.Option.{option_map_or}
use Rattle.std.specs.List.{All, position, position_or_len, range_with_len}
use Rattle.std.proofs.Common.{◌≡◌, ℕ, suc, ◌<◌, ◌≤◌, zero, Bool, true, false, List, [], ◌∷◌, ◌++◌, length, map, filter, take, get_or, Option, Some, None, refl, sym, ap, ◌∙◌, subst, arith, ⊎_elim}
use Rattle.std.proofs.lemmas.Bool.{cases_lt, cond-true, cond-false, lt-ltb, eqb-true, eq-eqb, both_ways, cond_both}
use Rattle.std.proofs.lemmas.List.{get_or-take, length-take, take_all}
use Rattle.std.proofs.lemmas.List.Elements.{All-contains, Contains-append_left}
use Rattle.std.proofs.lemmas.List.FromFn.{length-map-range_with_len, get_or-map-range_with_len}
use Rattle.std.proofs.lemmas.List.Sorted.{All-permutation, Contains-permutation}
use Rattle.std.proofs.lemmas.List.Sums.{passes_at_first, fails_before_first}
use Rattle.std.proofs.lemmas.Option.{none-some, same_Some, slice_get-map, slice_get-get_or}
use Rattle.rig_copies.specs.Copies.{kept_at}
use Rattle.rig_cut.specs.MemberTests.{not_member}
use Rattle.rig_cut.specs.Positions.{position_none}
use Rattle.rig_cycles.specs.Elements.{element_kept, kept_passes}
use Rattle.rig_flush.specs.ByNumber.{IsNext}
use Rattle.rig_flush.specs.Shown.{output_of}
use Rattle.rig_graph.specs.Parts.{IsPlanned, given_at, given, output_at_number}
use Rattle.rig_laws.specs.Lists.{All-below, All-elements, Contains-below}
use Rattle.rig_laws.specs.Output.{Output}
use Rattle.rig_scene.specs.declared.modifier.Mode.{Mode}
use Rattle.rig_scene.specs.Operations.{operations}
use Rattle.rig_scene.specs.Scene.{SceneRecord}

-- ---- the first index of a number

-- the first index at which a number stands, where it stands at one
first_index : (xs : List ℕ) (n k : ℕ) → k < length xs → get_or xs k n ≡ n
    → (j : ℕ) × (j ≤ k) × (get_or xs j n ≡ n) × (position (nat_eq n) xs ≡ Some j)
first_index xs n k within at = by (position_or_len (nat_eq n) xs) refl
  where
    by : (j : ℕ) → position_or_len (nat_eq n) xs ≡ j → (j : ℕ) × (j ≤ k) × (get_or xs j n ≡ n) × (position (nat_eq n) xs ≡ Some j)
    by j is = ⊎_elim
        (λ (l : k < j).
        let fails = fails_before_first (nat_eq n) xs k n (omega (arith, is, l)) in
        absurd (both_ways (nat_eq n (get_or xs k n)) fails (eq-eqb n (get_or xs k n) (sym at))))
        (λ (m : j ≤ k).
        let inside : position_or_len (nat_eq n) xs < length xs = omega (arith, is, m) in
        let passes : nat_eq n (get_or xs j n) ≡ true =
        subst (λ i. nat_eq n (get_or xs i n) ≡ true) is (passes_at_first (nat_eq n) xs n inside) in
        let tested = lt-ltb (position_or_len (nat_eq n) xs) (length xs) inside in (
          j,
          m,
          sym (eqb-true n (get_or xs j n) passes),
          cond-true (nat_lt (position_or_len (nat_eq n) xs) (length xs)) (Some (position_or_len (nat_eq n) xs)) None tested ∙ ap Some is,
        ))
        (cases_lt k j)

-- ---- what is given of each number

-- at each index there is what is given of the number
pub given_slice : (count : ℕ) (numbers : List ℕ) (results : List Output) (kept : List (Option Output)) (n : ℕ) → n < count
    → slice_get (given count numbers results kept) n ≡ Some (given_at numbers results kept n)
given_slice count numbers results kept n within =
    let f = given_at numbers results kept in
    slice_get-get_or (map f (range_with_len 0 count)) n None (omega (arith, within, length-map-range_with_len f 0 count))
    ∙ ap Some (get_or-map-range_with_len f 0 count n n None within (omega arith))

pub kept_at-given : (count : ℕ) (numbers : List ℕ) (results : List Output) (kept : List (Option Output)) (n : ℕ) → n < count
    → kept_at (given count numbers results kept) n ≡ given_at numbers results kept n
kept_at-given count numbers results kept n within = ap (option_and_then (λ out. out)) (given_slice count numbers results kept n within)

-- an output is known by `Some` of it
same_out : (o : Option Output) (x : Option Output) → option_map Some o ≡ Some x → o ≡ x
same_out None x e = absurd (none-some x e)
same_out (Some out) x e = same_Some (Some out) x e

-- a number among the first ones, whose results are known, has its result
given_ran : (numbers : List ℕ) (results : List Output) (kept : List (Option Output)) (f : ℕ → Option Output) (i : ℕ)
    → map Some results ≡ map f (take i numbers) → (n : ℕ) → Contains (take i numbers) n → given_at numbers results kept n ≡ f n
given_ran numbers results kept f i are n listed =
    let k = listed.0 in
    let within : k < length (take i numbers) = listed.1 in
    let below : k < i = omega (arith, within, length-take i numbers) in
    let first = first_index numbers n k (omega (arith, within, length-take i numbers)) (sym (get_or-take i numbers k n below) ∙ listed.2) in
    let j = first.0 in
    let inside : j < length (take i numbers) = omega (arith, first.1, within) in
    let at : get_or (take i numbers) j n ≡ n = get_or-take i numbers j n (omega (arith, first.1, below)) ∙ first.2 in
    ap (λ o. option_map_or (slice_get results) o (kept_at kept n)) first.3
    ∙ same_out (slice_get results j) (f n)
    (sym (slice_get-map Some results j)
    ∙ ap (λ l. slice_get l j) are
    ∙ slice_get-map f (take i numbers) j
    ∙ ap (option_map f) (slice_get-get_or (take i numbers) j n inside ∙ ap Some at))

-- and of one that doesn't run there is what is kept
given_kept : (numbers : List ℕ) (results : List Output) (kept : List (Option Output)) (n : ℕ) → (Contains numbers n → ⊥)
    → given_at numbers results kept n ≡ kept_at kept n
given_kept numbers results kept n idle =
    ap (λ o. option_map_or (slice_get results) o (kept_at kept n)) (position_none (nat_eq n) numbers 0 (not_member numbers n idle))

-- ---- what a filter keeps before one of its elements

-- a list in which the element at an index of what is kept stands behind those of which the ones before it are kept
abbrev SplitAt : (ℕ → Bool) → List ℕ → List ℕ → ℕ → Type 0
SplitAt p xs kept i = (before : List ℕ) × (after : List ℕ) × (xs ≡ before ++ get_or kept i 0 ∷ after) × (filter p before ≡ take i kept)

split_at : (p : ℕ → Bool) (xs : List ℕ) (i : ℕ) → i < length (filter p xs) → SplitAt p xs (filter p xs) i
split_at p [] i within = absurd (omega arith)
split_at p (x ∷ xs) i within =
    cond_both (p x) (x ∷ filter p xs) (filter p xs) (λ l. i < length l → SplitAt p (x ∷ xs) l i)
    (λ t. passed (split_at p xs) t i) (λ f l. dropped f (split_at p xs i l)) within
  where
    passed : ((k : ℕ) → k < length (filter p xs) → SplitAt p xs (filter p xs) k) → p x ≡ true
        → (i : ℕ) → i < length (x ∷ filter p xs) → SplitAt p (x ∷ xs) (x ∷ filter p xs) i
    passed later t zero l = ([], xs, refl, refl)
    passed later t (suc k) l =
        let s = later k (omega arith) in
        (x ∷ s.0, s.1, ap (λ l. x ∷ l) s.2, cond-true (p x) (x ∷ filter p s.0) (filter p s.0) t ∙ ap (λ l. x ∷ l) s.3)

    dropped : p x ≡ false → SplitAt p xs (filter p xs) i → SplitAt p (x ∷ xs) (filter p xs) i
    dropped f s = (x ∷ s.0, s.1, ap (λ l. x ∷ l) s.2, cond-false (p x) (x ∷ filter p s.0) (filter p s.0) f ∙ s.3)

-- ---- what is given from scratch

module _ (s : SceneRecord) (mode : Mode) (frame : ℤ) (order numbers : List ℕ) (kept : List (Option Output))
    (planned : IsPlanned s mode frame order numbers kept) (permutes : IsPermutation (range_with_len 0 (length (operations s))) order) where
  abbrev scratch : ℕ → Option Output
  scratch = output_at_number s mode frame

  -- where a number that runs is among those whose results are known, its output from scratch is given
  given_if_ran : (results : List Output) (i : ℕ) → map Some results ≡ map scratch (take i numbers)
      → (n : ℕ) → n < length (operations s) → (planned.runs n ≡ true → Contains (take i numbers) n)
      → given_at numbers results kept n ≡ scratch n
  given_if_ran results i are n within ran = by (planned.runs n) refl
    where
      by : (b : Bool) → planned.runs n ≡ b → given_at numbers results kept n ≡ scratch n
      by true t = given_ran numbers results kept scratch i are n (ran t)
      by false f =
          given_kept numbers results kept n
          (λ listed. both_ways (planned.runs n) f (kept_passes planned.runs order n (subst (λ l. Contains l n) planned.numbers_are listed)))
          ∙ planned.others n within f

  order_within : All (λ n. n < length (operations s)) order
  order_within =
      All-permutation (λ n. n < length (operations s)) (range_with_len 0 (length (operations s))) order permutes
      (All-below (λ n. n < length (operations s)) (length (operations s)) (λ k l. l))

  pub given_from_scratch : (results : List Output) → map Some results ≡ map scratch numbers → (n : ℕ) → n < length (operations s)
      → given_at numbers results kept n ≡ scratch n
  given_from_scratch results are n within =
      let all = take_all (length numbers) numbers (omega arith) in
      given_if_ran results (length numbers) (are ∙ ap (map scratch) (sym all)) n within
      (λ runs. subst (λ l. Contains l n) (planned_numbers ∙ sym all) (element_kept planned.runs order n ordered runs))
    where
      planned_numbers : filter planned.runs order ≡ numbers
      planned_numbers = sym planned.numbers_are

      ordered : Contains order n
      ordered =
          Contains-permutation (range_with_len 0 (length (operations s))) order n permutes (Contains-below (length (operations s)) n within)

  -- the number behind those whose results are known is next
  pub next_given : (results : List Output) (i : ℕ) → i < length numbers → map Some results ≡ map scratch (take i numbers)
      → IsNext s mode frame order (given (length (operations s)) numbers results kept) (get_or numbers i 0)
  next_given results i within are = record {
    before = split.0;
    after = split.1;
    order_is = split.2 ∙ ap (λ l. split.0 ++ get_or l i 0 ∷ split.1) (sym planned.numbers_are);
    one_each = length-map-range_with_len (given_at numbers results kept) 0 (length (operations s));
    are_kept = All-elements _ split.0 each;
  }
    where
      split : SplitAt planned.runs order (filter planned.runs order) i
      split = split_at planned.runs order i (subst (λ l. i < length l) planned.numbers_are within)

      ran : (n : ℕ) → Contains split.0 n → planned.runs n ≡ true → Contains (take i numbers) n
      ran n listed runs =
          subst (λ l. Contains l n) (split.3 ∙ ap (take i) (sym planned.numbers_are)) (element_kept planned.runs split.0 n listed runs)

      each : (n : ℕ) → Contains split.0 n
          → slice_get (given (length (operations s)) numbers results kept) n
          ≡ Some (option_map (output_of s mode frame) (slice_get (operations s) n))
      each n listed =
          let behind = get_or (filter planned.runs order) i 0 ∷ split.1 in
          let ordered : Contains order n = subst (λ l. Contains l n) (sym split.2) (Contains-append_left split.0 behind n listed) in
          let below = All-contains (λ n. n < length (operations s)) order n order_within ordered in
          given_slice (length (operations s)) numbers results kept n below
          ∙ ap Some (given_if_ran results i are n below (ran n listed))

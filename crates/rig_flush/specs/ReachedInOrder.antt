-- The numbers that are reached from tags: which they are, how many, and that each needs earlier ones alone.
use Rattle.std.specs.Prelude.{slice_get, nat_eq, Contains, IsPermutation}
use Rattle.std.specs.List.{All, IsDistinct, range_with_len}
use Rattle.std.proofs.Common.{◌≡◌, ◌≢◌, ℕ, suc, ◌+◌, ◌<◌, Bool, true, false, cond, List, [], ◌∷◌, ◌++◌, length, filter, Some, refl, sym, ap, ◌∙◌, subst, arith}
use Rattle.std.proofs.lemmas.Bool.{cond-true, cond-false, eqb-true, eq-eqb, both_ways}
use Rattle.std.proofs.lemmas.Cmp.{nat_eq_equiv}
use Rattle.std.proofs.lemmas.List.Elements.{All-filter}
use Rattle.std.proofs.lemmas.List.FromFn.{length-range_with_len, get_or-range_with_len}
use Rattle.std.proofs.lemmas.List.Sorted.{All-permutation, Contains-permutation, sum_by-IsPermutation}
use Rattle.std.proofs.lemmas.List.Sums.{length-filter}
use Rattle.std.proofs.lemmas.Map.Keys.{IsDistinct-IsPermutation, apart_from_distinct}
use Rattle.std.proofs.lemmas.Option.{slice_get_within}
use Rattle.rig_cycles.specs.Elements.{element_kept, element_of_kept, kept_passes}
use Rattle.rig_laws.specs.Kept.{kept_links}
use Rattle.rig_laws.specs.Lists.{All-below, Contains-below}
use Rattle.rig_links.specs.Links.{Links, kept_reads}
use Rattle.rig_links.specs.Numbers.{same_operation}
use Rattle.rig_scene.specs.declared.operation.OpId.{OpId}
use Rattle.rig_scene.specs.Found.{Contains-slice_get}
use Rattle.rig_scene.specs.Operations.{operations}
use Rattle.rig_scene.specs.Pairs.{NoneTwice, AllPairs-filter, distinct_keys}
use Rattle.rig_scene.specs.Scene.{SceneRecord}
use Rattle.rig_flush.specs.Begun.{link_kept}
use Rattle.rig_flush.specs.Evaluation.{Needs}
use Rattle.rig_flush.specs.MarksInOrder.{NeedsEarlier}
use Rattle.rig_flush.specs.Reach.{is_reached, reach}
use Rattle.rig_flush.specs.ReachByNumber.{index_of, one_index, read_of, link_of, is_operation, is_listed, read_by_number, reached_alike}
use Rattle.rig_flush.specs.Tables.{AreTablesOf, numbers_of, reached_numbers}

-- ---- what a filter keeps before an element

-- a list in which an element that passes stands behind those of which these are kept
abbrev SplitBy : (ℕ → Bool) → List ℕ → List ℕ → ℕ → Type 0
SplitBy p xs kept n = (before : List ℕ) × (after : List ℕ) × (xs ≡ before ++ n ∷ after) × (filter p before ≡ kept)

split_first : (p : ℕ → Bool) (x : ℕ) (xs kept after : List ℕ) (n : ℕ) → p x ≡ true → x ∷ filter p xs ≡ kept ++ n ∷ after
    → ((kept : List ℕ) → filter p xs ≡ kept ++ n ∷ after → SplitBy p xs kept n) → SplitBy p (x ∷ xs) kept n
split_first p x xs [] after n passes e later = let same : x ≡ n = cc in ([], xs, ap (λ y. y ∷ xs) same, refl)
split_first p x xs (y ∷ kept) after n passes e later =
    let same : x ≡ y = cc in
    let rest : filter p xs ≡ kept ++ n ∷ after = cc in
    let split = later kept rest in
    let kept_is = cond-true (p x) (x ∷ filter p split.0) (filter p split.0) passes ∙ (λ i. same i ∷ split.3 i) in
    (x ∷ split.0, split.1, ap (λ l. x ∷ l) split.2, kept_is)

split_of_kept : (p : ℕ → Bool) (xs kept after : List ℕ) (n : ℕ) → filter p xs ≡ kept ++ n ∷ after → SplitBy p xs kept n
split_of_kept p [] kept after n e = absurd (nothing kept e)
  where
    nothing : (kept : List ℕ) → [] ≡ kept ++ n ∷ after → ⊥
    nothing [] e = cc
    nothing (y ∷ kept) e = cc
split_of_kept p (x ∷ xs) kept after n e = by (p x) refl (λ kept e. split_of_kept p xs kept after n e)
  where
    by : (b : Bool) → p x ≡ b → ((kept : List ℕ) → filter p xs ≡ kept ++ n ∷ after → SplitBy p xs kept n) → SplitBy p (x ∷ xs) kept n
    by true t later = split_first p x xs kept after n t (sym (cond-true (p x) (x ∷ filter p xs) (filter p xs) t) ∙ e) later
    by false t later =
        let split = later kept (sym (cond-false (p x) (x ∷ filter p xs) (filter p xs) t) ∙ e) in
        (x ∷ split.0, split.1, ap (λ l. x ∷ l) split.2, cond-false (p x) (x ∷ filter p split.0) (filter p split.0) t ∙ split.3)

-- ---- numbers in another order

range_once : (count : ℕ) → NoneTwice (range_with_len 0 count)
range_once count i j d l m e =
    let within : j < count = omega (arith, length-range_with_len 0 count) in
    absurd (omega (arith, get_or-range_with_len 0 count i d (omega arith), get_or-range_with_len 0 count j d within, e))

pub once_distinct : (xs : List ℕ) → IsDistinct nat_eq xs → NoneTwice xs
once_distinct xs distinct i j d l m e =
    absurd (both_ways _ (apart_from_distinct nat_eq xs i j d distinct l m) (eq-eqb _ _ e))

-- a list in another order has nothing twice either
pub once_permuted : (xs ys : List ℕ) → IsPermutation xs ys → NoneTwice xs → NoneTwice ys
once_permuted xs ys p once =
    once_distinct ys (IsDistinct-IsPermutation nat_eq (nat_eq_equiv).symm xs ys p (distinct_keys nat_eq eqb-true xs once))

-- no number stands twice in an order
pub order_once : (count : ℕ) (order : List ℕ) → IsPermutation (range_with_len 0 count) order → NoneTwice order
order_once count order permutes = once_permuted (range_with_len 0 count) order permutes (range_once count)

as_many_kept : (p : ℕ → Bool) (xs ys : List ℕ) → IsPermutation xs ys → length (filter p ys) ≡ length (filter p xs)
as_many_kept p xs ys permutes = length-filter p ys ∙ sum_by-IsPermutation (λ x. cond (p x) 1 0) xs ys permutes ∙ sym (length-filter p xs)

-- as many numbers are kept as elements of these numbers
as_many_numbers : (p : ℕ → Bool) (q : OpId → Bool) (first : ℕ) (ops : List OpId)
    → ((i : ℕ) (op : OpId) → slice_get ops i ≡ Some op → p (first + i) ≡ q op)
    → length (filter p (range_with_len first (length ops))) ≡ length (filter q ops)
as_many_numbers p q first [] alike = refl
as_many_numbers p q first (op ∷ ops) alike =
    let later = filter p (range_with_len (first + 1) (length ops)) in
    ap (λ b. length (cond b (first ∷ later) later)) (ap p {x = first} (omega arith) ∙ alike 0 op refl)
    ∙ by (q op) later (filter q ops)
    (as_many_numbers p q (first + 1) ops (λ i x at. ap p {x = first + 1 + i} (omega arith) ∙ alike (suc i) x at))
  where
    by : (b : Bool) (ns : List ℕ) (xs : List OpId) → length ns ≡ length xs → length (cond b (first ∷ ns) ns) ≡ length (cond b (op ∷ xs) xs)
    by true ns xs e = ap suc e
    by false ns xs e = e

-- ---- the numbers that are reached

module _ (s : SceneRecord) (ops : List OpId) (links : Links) (tables : AreTablesOf s ops links) (once : NoneTwice ops)
    (tags : List OpId) where
  abbrev pub numbers : List ℕ
  numbers = reached_numbers ops links tags

  abbrev all_numbers : List ℕ
  all_numbers = range_with_len 0 (length ops)

  abbrev by_number : ℕ → Bool
  by_number = is_reached nat_eq (kept_reads links.ins) (numbers_of ops tags)

  abbrev by_scene : OpId → Bool
  by_scene = is_reached same_operation (kept_links s) tags

  alike : (n : ℕ) (op : OpId) → slice_get ops n ≡ Some op → by_number n ≡ by_scene op
  alike = reached_alike s ops links tables once tags

  pub numbers_once : NoneTwice numbers
  numbers_once =
      AllPairs-filter (λ x y. x ≢ y) by_number links.order (order_once (length ops) links.order tables.fit.order.same_nodes)

  pub numbers_within : All (λ n. n < length ops) numbers
  numbers_within =
      All-filter by_number (λ n. n < length ops) links.order
      (All-permutation (λ n. n < length ops) all_numbers links.order tables.fit.order.same_nodes
      (All-below (λ n. n < length ops) (length ops) (λ k h. h)))

  -- the operation of a reached number is reached
  pub number_reached : (n : ℕ) (op : OpId) → slice_get ops n ≡ Some op → Contains numbers n → Contains (reach s tags) op
  unfolding reach
  number_reached n op at e =
      element_kept by_scene (operations s) op (Contains-slice_get (operations s) n op (is_operation s ops links tables n op at))
      (sym (alike n op at) ∙ kept_passes by_number links.order n e)

  -- a reached operation has a reached number
  pub reached_number : (op : OpId) → Contains (reach s tags) op → (n : ℕ) × (slice_get ops n ≡ Some op) × Contains numbers n
  unfolding reach
  reached_number op e =
      let n = index_of (operations s) op (element_of_kept by_scene (operations s) op e) in
      let at = is_listed s ops links tables n.0 op n.1 in
      let below = Contains-below (length ops) n.0 (slice_get_within ops n.0 op at) in
      let ordered = Contains-permutation all_numbers links.order n.0 tables.fit.order.same_nodes below in
      (n.0, at, element_kept by_number links.order n.0 ordered (alike n.0 op at ∙ kept_passes by_scene (operations s) op e))

  -- there are as many as operations that are reached
  pub as_many_reached : length numbers ≡ length (reach s tags)
  unfolding reach
  as_many_reached =
      as_many_kept by_number all_numbers links.order tables.fit.order.same_nodes
      ∙ as_many_numbers by_number by_scene 0 ops (λ n op at. ap by_number {x = 0 + n} (omega arith) ∙ alike n op at)
      ∙ ap (λ l. length (filter by_scene l)) tables.same

  -- what is needed of them stands earlier
  pub needs_earlier : NeedsEarlier (Needs s) numbers
  needs_earlier before after n source is e need =
      let split = split_of_kept by_number links.order before after n is in
      let read = read_by_number s ops links tables (link_of need.op need.link.op)
      (link_kept s need.op (Contains-slice_get (operations s) n need.op need.numbered) need.link need.is_link need.kept) in
      let reader_at = is_listed s ops links tables n need.op need.numbered in
      let source_at = is_listed s ops links tables source need.link.op need.source_is in
      let reader_is : read.0 ≡ n = one_index ops once need.op read.0 n read.2 reader_at in
      let source_is : read.1 ≡ source = one_index ops once need.link.op read.1 source read.3 source_at in
      let first = tables.fit.order.sources_first split.0 split.1 n split.2 (read_of read.0 read.1) read.4 reader_is in
      let earlier = subst (λ m. Contains split.0 m) source_is first in
      subst (λ l. Contains l source) split.3 (element_kept by_number split.0 source earlier (kept_passes by_number links.order source e))

-- What is reached in the order of evaluation can be planned.
use Rattle.std.specs.Prelude.{slice_index, nat_eq, Contains, IsPermutation}
use Rattle.std.specs.Option.{option_map_or}
use Rattle.std.specs.List.{All, list_any, position, sum_by, enumerate_from, range_with_len}
use Rattle.std.proofs.Common.{◌≡◌, ◌≢◌, ℕ, zero, suc, ◌+◌, ◌<◌, ◌≤◌, Bool, true, false, not, cond, List, [], ◌∷◌, ◌++◌, length, map, filter, take, Some, refl, sym, ap, ◌∙◌, subst, arith, ⊎_elim}
use Rattle.std.proofs.lemmas.Bool.{cond_both, cond-true, cond-false, cases_lt, both_ways, eqb-true, eq-eqb}
use Rattle.std.proofs.lemmas.Bool.Decides.{same_from_decides}
use Rattle.std.proofs.lemmas.List.{append-nil, append_assoc, length-append, length-take-le, get_or-take, get_or_append_left, get_or_at}
use Rattle.std.proofs.lemmas.List.Elements.{All-nil, All-filter}
use Rattle.std.proofs.lemmas.List.Filters.{length-filter_both, sum_by-filter_both}
use Rattle.std.proofs.lemmas.List.FromFn.{fill_by_all}
use Rattle.std.proofs.lemmas.List.Quantifiers.{position-Some}
use Rattle.std.proofs.lemmas.List.Sorted.{sum_by-IsPermutation}
use Rattle.std.proofs.lemmas.List.Sums.{sum_by-cons}
use Rattle.std.proofs.lemmas.Option.{slice_get-get_or}
use Rattle.rig_cycles.specs.Cut.{Arrow, leads}
use Rattle.rig_cycles.specs.Elements.{element_none, element_map, element_kept, kept_passes, any_from_element, element_from_any}
use Rattle.rig_laws.specs.Lists.{All-elements, All-one, All-option, Contains-flat_map, Contains-numbered, filter_same}
use Rattle.rig_rows.specs.Rows.{joined}
use Rattle.rig_cut.specs.MemberTests.{not_member, index_of_element, element_at}
use Rattle.rig_scene.specs.declared.operation.OpId.{OpId}
use Rattle.rig_scene.specs.Pairs.{NoneTwice, All-flat_map, AllPairs-filter}
use Rattle.rig_links.specs.declared.table.In.{In}
use Rattle.rig_links.specs.Links.{Links, kept_reads}
use Rattle.rig_flush.specs.Reach.{is_reached}
use Rattle.rig_flush.specs.ReachedInOrder.{order_once}
use Rattle.rig_flush.specs.Search.{with_nodes, row_of, IsPlannable}
use Rattle.rig_flush.specs.Tables.{AreTables}
use Rattle.rig_flush.proofs.Sorted.{length-order, order_within}
use Rattle.rig_flush.proofs.Spread.{with_nodes_has, with_nodes_of}

-- ---- a filter up to one of its elements

abbrev IsSplitAt : (ℕ → Bool) → List ℕ → List ℕ → ℕ → Type 0
IsSplitAt p xs kept i = (before : List ℕ) × (after : List ℕ) × (xs ≡ before ++ slice_index kept i ∷ after) × (filter p before ≡ take i kept)

filter_split : (p : ℕ → Bool) (xs : List ℕ) (i : ℕ) → i < length (filter p xs) → IsSplitAt p xs (filter p xs) i
filter_split p [] i h = absurd (omega arith)
filter_split p (x ∷ xs) i h =
    cond_both (p x) (x ∷ filter p xs) (filter p xs) (λ l. i < length l → IsSplitAt p (x ∷ xs) l i)
    (λ t. kept (filter_split p xs) t i) (λ f l. past f (filter_split p xs i l)) h
  where
    kept : ((k : ℕ) → k < length (filter p xs) → IsSplitAt p xs (filter p xs) k) → p x ≡ true → (i : ℕ) → i < length (x ∷ filter p xs) → IsSplitAt p (x ∷ xs) (x ∷ filter p xs) i
    kept later t zero h = ([], xs, refl, refl)
    kept later t (suc k) h =
        let s = later k (omega arith) in
        (x ∷ s.0, s.1, ap (λ l. x ∷ l) s.2, cond-true (p x) (x ∷ filter p s.0) (filter p s.0) t ∙ ap (λ l. x ∷ l) s.3)

    past : p x ≡ false → IsSplitAt p xs (filter p xs) i → IsSplitAt p (x ∷ xs) (filter p xs) i
    past f s =
        (x ∷ s.0, s.1, ap (λ l. x ∷ l) s.2, cond-false (p x) (x ∷ filter p s.0) (filter p s.0) f ∙ s.3)

-- ---- the reads of a row

kept_read : (rows : List (List In)) (n : ℕ) (l : In) → n < length rows → Contains (row_of rows n) l → l.cut ≡ false → Contains (kept_reads rows) (record { reader = n; source = l.source; is_reference = false })
kept_read rows n l h c f =
    Contains-flat_map (λ (e : ℕ × List In). map (λ (l : In). let a : Arrow ℕ = record { reader = e.0; source = l.source; is_reference = false } in a) (filter (λ l. not l.cut) e.1)) (enumerate_from 0 rows) (n, row_of rows n)
    (record { reader = n; source = l.source; is_reference = false }) (Contains-numbered rows n (row_of rows n) (slice_get-get_or rows n [] h))
    (element_map (λ (l : In). let a : Arrow ℕ = record { reader = n; source = l.source; is_reference = false } in a) (filter (λ l. not l.cut) (row_of rows n)) l
    (element_kept (λ (l : In). not l.cut) (row_of rows n) l c (ap not f)))

-- ---- the sum of a part

joined_map : {A : Type 0} (f : ℕ → List A) (xs : List ℕ) → length (joined (map f xs)) ≡ sum_by (λ n. length (f n)) xs
joined_map f [] = refl
joined_map f (x ∷ xs) =
    length-append (f x) (joined (map f xs)) ∙ ap (λ k. length (f x) + k) (joined_map f xs) ∙ sym (sum_by-cons (λ n. length (f n)) x xs)

module _ (ops : List OpId) (links : Links) (fit : AreTables ops links) (p : ℕ → Bool) where
  abbrev rows : List (List In)
  rows = links.ins

  abbrev plan : List ℕ
  plan = filter p links.order

  pub permutes : IsPermutation (range_with_len 0 (length rows)) links.order
  permutes = subst (λ n. IsPermutation (range_with_len 0 n) links.order) (sym fit.rows) fit.order.same_nodes

  plan_within : All (λ n. n < length rows) plan
  plan_within = All-filter p (λ n. n < length rows) links.order (order_within (length rows) links.order permutes)

  place_before : (i : ℕ) → i < length plan → (l : In) → Contains (row_of rows (slice_index plan i)) l → l.cut ≡ false → (j : ℕ) → position (nat_eq l.source) plan ≡ Some j → j < i
  place_before i h l c f j at =
      let s = filter_split p links.order i h in
      let node : slice_index plan i < length rows = plan_within i 0 h in
      let read : Arrow ℕ = record { reader = slice_index plan i; source = l.source; is_reference = false } in
      let earlier = fit.order.sources_first s.0 s.1 (slice_index plan i) s.2 read (kept_read rows (slice_index plan i) l node c f) refl in
      let found = position-Some (nat_eq l.source) plan j 0 at in
      let passes = kept_passes p links.order l.source (element_at plan j l.source found.0 (eqb-true l.source (slice_index plan j) found.1)) in
      let k = index_of_element (take i plan) l.source (subst (λ xs. Contains xs l.source) s.3 (element_kept p s.0 l.source earlier passes)) in
      let lower : k.0 < i = omega (arith, length-take-le i plan (omega arith), k.1) in
      let same : slice_index plan k.0 ≡ l.source = sym (get_or-take i plan k.0 0 lower) ∙ k.2 in
      ⊎_elim
      (λ (m : k.0 < j). absurd (both_ways (nat_eq l.source (slice_index plan k.0)) (found.2 k.0 m) (eq-eqb l.source (slice_index plan k.0) (sym same))))
      (λ (m : j ≤ k.0). omega arith)
      (cases_lt k.0 j)

  abbrev row_length : ℕ → ℕ
  row_length n = length (row_of rows n)

  pub plannable : IsPlannable rows plan
  plannable = record {
    room = omega (arith, length-filter_both p (λ n. not (p n)) (λ n. refl) links.order, length-order (length rows) links.order permutes, fit.rows, fit.few);
    within = plan_within;
    earlier = λ i h. All-flat_map (λ j. j < i) (λ l. cond l.cut [] (option_map_or (λ i. i ∷ []) (position (nat_eq l.source) plan) [])) (row_of rows (slice_index plan i))
        (All-elements (λ l. All (λ j. j < i) (cond l.cut [] (option_map_or (λ i. i ∷ []) (position (nat_eq l.source) plan) []))) (row_of rows (slice_index plan i)) (λ l c.
        cond_both l.cut [] (option_map_or (λ i. i ∷ []) (position (nat_eq l.source) plan) []) (λ xs. All (λ j. j < i) xs)
        (λ t. All-nil (λ j. j < i))
        (λ f. All-option (λ j. j < i) (λ j. j ∷ []) (position (nat_eq l.source) plan) (λ j at. All-one (λ j. j < i) j (place_before i h l c f j at)))));
    few =
        let part = sum_by-filter_both p (λ n. not (p n)) (λ n. refl) row_length links.order in
        let whole : sum_by row_length links.order ≡ length (joined rows) =
        sum_by-IsPermutation row_length (range_with_len 0 (length rows)) links.order permutes
        ∙ sym (joined_map (row_of rows) (range_with_len 0 (length rows)))
        ∙ ap (λ l. length (joined l)) (sym (fill_by_all (row_of rows) rows (length rows) [] refl (λ k h. refl))) in
        omega arith;
  }

  -- nothing stands twice in the plan
  pub plan_once : NoneTwice plan
  plan_once = AllPairs-filter (λ x y. x ≢ y) p links.order (order_once (length rows) links.order permutes)

  pub plan_below : All (λ n. n < length rows) plan
  plan_below = plan_within

-- ---- adding in order

pub with_nodes_once : (xs members : List ℕ) → NoneTwice (members ++ xs) → with_nodes members xs ≡ members ++ xs
with_nodes_once [] members once = sym (append-nil members)
with_nodes_once (x ∷ xs) members once =
    let new : list_any (nat_eq x) members ≡ false = not_member members x (λ e.
    let k = index_of_element members x e in
    absurd (once k.0 (length members) 0 k.1 (omega (arith, length-append members (x ∷ xs))) (get_or_append_left members (x ∷ xs) 0 k.0 k.1 ∙ k.2 ∙ sym (get_or_at members x xs 0 (length members) refl)))) in
    ap (λ l. with_nodes l xs) (cond-false (list_any (nat_eq x) members) members (members ++ x ∷ []) new)
    ∙ with_nodes_once xs (members ++ x ∷ []) (subst (λ l. NoneTwice l) (sym (append_assoc members (x ∷ []) xs)) once)
    ∙ append_assoc members (x ∷ []) xs

-- ---- what is reached from a set is what is reached from its list

any_same : (p : ℕ → Bool) (xs ys : List ℕ) → ((n : ℕ) → Contains xs n → Contains ys n) → ((n : ℕ) → Contains ys n → Contains xs n) → list_any p xs ≡ list_any p ys
any_same p xs ys to back = same_from_decides {P = list_any p xs ≡ true} _ _ (λ t. t, λ t. t) (
  λ t. let s = element_from_any p ys t in any_from_element p xs s.0 (back s.0 s.1) s.2,
  λ t. let s = element_from_any p xs t in any_from_element p ys s.0 (to s.0 s.1) s.2,
)

pub reached_from : (reads : List (Arrow ℕ)) (numbers order members : List ℕ) → ((n : ℕ) → list_any (nat_eq n) members ≡ is_reached nat_eq reads (with_nodes [] numbers) n) → filter (λ n. list_any (nat_eq n) members) order ≡ filter (is_reached nat_eq reads numbers) order
reached_from reads numbers order members are =
    filter_same (λ n. list_any (nat_eq n) members) (is_reached nat_eq reads numbers) order (λ n c.
    are n ∙ any_same (leads nat_eq reads n) (with_nodes [] numbers) numbers
    (λ m e. ⊎_elim (λ d. absurd (element_none m d)) (λ d. d) (with_nodes_of numbers [] m e)) (λ m e. with_nodes_has numbers [] m e))

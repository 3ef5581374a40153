-- Plans of numbers in their order.
use Rattle.std.specs.Prelude.{slice_index, slice_get, nat_eq}
use Rattle.std.specs.Option.{option_map_or}
use Rattle.std.specs.List.{All, position, sum_by}
use Rattle.std.proofs.Common.{◌≡◌, ℕ, ◌+◌, ◌<◌, ◌≤◌, ◌^◌, Bool, true, false, cond, List, [], ◌∷◌, length, map, take, Option, Some, None, refl, sym, ap, ◌∙◌, subst, arith}
use Rattle.std.proofs.lemmas.List.{length-append, length-map, length-take-le}
use Rattle.std.proofs.lemmas.List.Sums.{sum_by-cons, sum_by_more_le_part}
use Rattle.std.proofs.lemmas.Option.{get_or_from_slice_get}
use Rattle.rig_rows.specs.Rows.{joined}
use Rattle.rig_cut.specs.Plan.{PlanNode, ends_from, link_count}
use Rattle.rig_links.specs.declared.table.In.{In}
use Rattle.rig_flush.specs.Search.{row_of, node_of, IsPlannable}
use Rattle.rig_flush.specs.Tables.{places_in}

-- ---- how many in-links there are

counted : (position : ℕ) (f : ℕ → PlanNode) (xs : List ℕ) → length (ends_from position (map f xs)) ≡ sum_by (λ n. length (f n).ins) xs
counted position f [] = refl
counted position f (x ∷ xs) =
    length-append (map (λ source. record { source = source; reader = position }) (f x).ins) (ends_from (position + 1) (map f xs))
    ∙ ap (λ k. k + length (ends_from (position + 1) (map f xs))) (length-map (f x).ins (λ source. record { source = source; reader = position }))
    ∙ ap (λ k. length (f x).ins + k) (counted (position + 1) f xs)
    ∙ sym (sum_by-cons (λ n. length (f n).ins) x xs)

one_place : (b : Bool) (p : Option ℕ) → length (cond b [] (option_map_or (λ i. i ∷ []) p [])) ≤ 1
one_place true p = omega arith
one_place false None = omega arith
one_place false (Some i) = omega arith

places_fewer : (plan : List ℕ) (row : List In) → length (places_in plan row) ≤ length row
places_fewer plan [] = omega arith
places_fewer plan (l ∷ row) =
    let head = one_place l.cut (position (nat_eq l.source) plan) in
    omega (arith, length-append (cond l.cut [] (option_map_or (λ i. i ∷ []) (position (nat_eq l.source) plan) [])) (places_in plan row), places_fewer plan row)

-- the in-links of a node are at most those of its number
module _ (rows : List (List In)) (order : List ℕ) where
  by_row : (n : ℕ) (o : Option (List In)) → slice_get rows n ≡ o → length (option_map_or (places_in order) o []) ≤ length (row_of rows n)
  by_row n None at = omega arith
  by_row n (Some row) at =
      let e : length (row_of rows n) ≡ length row = ap length (get_or_from_slice_get rows n row [] at) in
      let l = places_fewer order row in
      omega arith

  -- ---- a node more

  module _ (plannable : IsPlannable rows order) (few : length (joined rows) < 2 ^ 32) (i : ℕ) (h : i < length order) (row : List In) (at : slice_get rows (slice_index order i) ≡ Some row) (plan : List PlanNode) (is : plan ≡ map (node_of rows order) (take i order)) (ins : List ℕ) (ins_are : ins ≡ places_in order row) where
    so_far : length plan ≡ i
    so_far = ap length is ∙ length-map (take i order) (node_of rows order) ∙ length-take-le i order (omega arith)

    pub next_earlier : All (λ j. j < length plan) ins
    next_earlier =
        subst (λ l. All (λ j. j < length plan) l) (ap (places_in order) (get_or_from_slice_get rows (slice_index order i) row [] at) ∙ sym ins_are)
        (subst (λ k. All (λ j. j < k) (places_in order (row_of rows (slice_index order i)))) (sym so_far) (plannable.earlier i h))

    pub next_few : link_count plan + length ins < 2 ^ 32
    next_few =
        let count : link_count plan ≡ sum_by (λ n. length (node_of rows order n).ins) (take i order) = ap link_count is ∙ counted 0 (node_of rows order) (take i order) in
        let all = sum_by_more_le_part (λ n. length (node_of rows order n).ins) (λ n. length (row_of rows n)) order i 0 h (λ n. by_row n (slice_get rows n) refl) in
        let here : length ins ≤ length row = omega (arith, ap length ins_are, places_fewer order row) in
        let same : length (row_of rows (slice_index order i)) ≡ length row = ap length (get_or_from_slice_get rows (slice_index order i) row [] at) in
        let most = plannable.few in
        omega arith

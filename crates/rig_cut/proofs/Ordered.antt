-- Where all is released, the nodes are in a topological order.
use Rattle.std.specs.Prelude.{slice_index, nat_eq, Contains, IsPermutation}
use Rattle.std.specs.List.{All, range_with_len, list_any}
use Rattle.std.proofs.Common.{◌≡◌, ℕ, zero, suc, ◌+◌, ◌<◌, ◌≤◌, Bool, true, not, List, [], ◌∷◌, ◌++◌, length, take, drop, refl, sym, ap, ◌∙◌, subst, arith, ⊎_elim}
use Rattle.std.proofs.lemmas.Bool.{eqb-true, eq-eqb, and_parts, not-true}
use Rattle.std.proofs.lemmas.Bool.Decides.{Decides-eqb}
use Rattle.std.proofs.lemmas.List.{length-append, take-append-drop, drop_more, take_all, take_at, get_or_at, nil_from_length}
use Rattle.std.proofs.lemmas.List.Elements.{Contains-append_left, Contains-append_right, Contains-append_cases}
use Rattle.std.proofs.lemmas.List.Sorted.{IsPermutation-refl, IsPermutation-sym, IsPermutation-cons, IsPermutation-trans, IsPermutation-middle}
use Rattle.rig_cycles.specs.Cut.{Arrow}
use Rattle.rig_cycles.specs.Walk.{IsAcyclic, IsRank}
use Rattle.rig_cycles.specs.Order.{IsTopologicalOrder}
use Rattle.rig_cycles.specs.Elements.{element_cases}
use Rattle.rig_cycles.specs.RankOrder.{rank_exists}
use Rattle.rig_cut.specs.Graphs.{GraphEnds, IsListing, flag}
use Rattle.rig_cut.specs.Release.{IsReleased}
use Rattle.rig_cut.proofs.Counts.{all_done}
use Rattle.rig_cut.specs.MemberTests.{member_decides}

-- ---- as many numbers as there are, and each of them

split_at : (xs : List ℕ) (x : ℕ) → Contains xs x → (before : List ℕ) × (after : List ℕ) × (xs ≡ before ++ x ∷ after)
split_at xs x e = (take e.0 xs, drop (e.0 + 1) xs, sym (take-append-drop e.0 xs) ∙ ap (λ l. take e.0 xs ++ l) (drop_more xs e.0 x e.1 ∙ ap (λ z. z ∷ drop (e.0 + 1) xs) e.2))

-- the numbers from one on, each of which is among at most as many, are these in another order
pub permutation_of_range : (count first : ℕ) (xs : List ℕ) → length xs ≤ count → ((n : ℕ) → first ≤ n → n < first + count → Contains xs n) → IsPermutation (range_with_len first count) xs
permutation_of_range zero first xs few each = subst (λ l. IsPermutation [] l) (sym (nil_from_length xs (omega arith))) (IsPermutation-refl [])
permutation_of_range (suc count) first xs few each =
    let s = split_at xs first (each first (omega arith) (omega arith)) in
    subst (λ l. IsPermutation (first ∷ range_with_len (first + 1) count) l) (sym s.2)
    (IsPermutation-trans (first ∷ range_with_len (first + 1) count) (first ∷ (s.0 ++ s.1)) (s.0 ++ first ∷ s.1)
    (IsPermutation-cons first (range_with_len (first + 1) count) (s.0 ++ s.1)
    (permutation_of_range count (first + 1) (s.0 ++ s.1) (omega (arith, ap length s.2, length-append s.0 (first ∷ s.1), length-append s.0 s.1))
    (λ n l h. others s.0 s.1 n (omega arith) (subst (λ m. Contains m n) s.2 (each n (omega arith) (omega arith))))))
    (IsPermutation-sym (s.0 ++ first ∷ s.1) (first ∷ (s.0 ++ s.1)) (IsPermutation-middle s.0 first s.1)))
  where
    others : (before after : List ℕ) (n : ℕ) → first < n → Contains (before ++ first ∷ after) n → Contains (before ++ after) n
    others before after n l c = ⊎_elim
        (λ b. Contains-append_left before after n b)
        (λ a. ⊎_elim (λ (s : first ≡ n). absurd (omega arith)) (λ d. Contains-append_right before after n d) (element_cases first after n a))
        (Contains-append_cases before (first ∷ after) n c)

-- ---- at the end

module _ (ends : GraphEnds) (cuts : List Bool) (pending members : List ℕ) (released : IsReleased ends cuts pending members (length members)) (sources : All (λ n. n < ends.nodes) ends.sources) (within : length members ≤ ends.nodes) (reads : List (Arrow ℕ)) (listing : IsListing ends cuts reads) where
  module _ (rank : ℕ → ℕ) (falls : IsRank rank reads) where
    -- each node is a member, as the sources of its kept links are
    is_member : (bound n : ℕ) → rank n < bound → n < ends.nodes → Contains members n
    is_member zero n l node = absurd (omega arith)
    is_member (suc bound) n l node =
        (member_decides members n).0
        (released.ready n node
        ∙ eq-eqb (slice_index pending n) 0 (released.counts n node
        ∙ all_done ends cuts (take (length members) members) n (λ j h kept.
        let parts = and_parts (not (flag cuts j)) (nat_eq (slice_index ends.readers j) n) kept in
        let read = listing.has j h (not-true (flag cuts j) parts.0) in
        let reader : read.0.reader ≡ n = read.3 ∙ eqb-true (slice_index ends.readers j) n parts.1 in
        let lower = falls read.0 read.1 in
        let here = ap rank reader in
        let there = ap rank read.2 in
        subst (λ m. list_any (nat_eq (slice_index ends.sources j)) m ≡ true) (sym (take_all (length members) members (omega arith)))
        ((member_decides members (slice_index ends.sources j)).1 (is_member bound (slice_index ends.sources j) (omega arith) (sources j 0 h))))))

  first : (before after : List ℕ) (node : ℕ) → members ≡ before ++ node ∷ after → (read : Arrow ℕ) → Contains reads read → read.reader ≡ node → Contains before read.source
  first before after node s read e at =
      let link = listing.of read e in
      let lower : length before < length members = omega (arith, ap length s, length-append before (node ∷ after)) in
      let is : slice_index members (length before) ≡ node = ap (λ m. slice_index m (length before)) s ∙ get_or_at before node after 0 (length before) refl in
      let among = released.behind (length before) lower link.0 link.1 link.2 (link.4 ∙ at ∙ sym is) in
      subst (λ z. Contains before z) link.3
      (subst (λ l. Contains l (slice_index ends.sources link.0)) (ap (take (length before)) s ∙ take_at before (node ∷ after) (length before) refl)
      ((member_decides (take (length before) members) (slice_index ends.sources link.0)).0 among))

  pub ordered : IsAcyclic reads → IsTopologicalOrder (range_with_len 0 ends.nodes) reads members
  ordered acyclic =
      let rank = rank_exists nat_eq Decides-eqb reads acyclic in
      record {
        same_nodes = permutation_of_range ends.nodes 0 members within (λ n l h. is_member rank.0 rank.1 (rank.0 n + 1) n (omega arith) (omega arith));
        sources_first = first;
      }

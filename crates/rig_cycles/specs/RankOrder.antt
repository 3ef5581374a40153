-- Nodes in the order of a rank that falls along their reads.
use Rattle.std.specs.Prelude.{◌≡◌, ⊤, ℕ, suc, ◌<◌, ◌≤◌, List, [], ◌∷◌, ◌++◌, map, length, Bool, false, cond, nat_le, Contains, All, IsPermutation}
use Rattle.std.proofs.Common.{⊎_elim, refl, sym, ap, ◌∙◌, subst, arith}
use Rattle.std.proofs.lemmas.Bool.{cond_both, cond-true, cond-false, cases_Bool, both_ways, leb-true, leb-false}
use Rattle.std.proofs.lemmas.List.Elements.{All-nil, All-cons, All-weaker, All-contains, Contains-append_right}
use Rattle.std.proofs.lemmas.List.Sorted.{IsPermutation-refl, IsPermutation-sym, IsPermutation-cons, IsPermutation-trans, IsPermutation-middle, All-permutation, Contains-permutation}
use Rattle.rig_cycles.specs.Cut.{Arrow, IsEquality}
use Rattle.rig_cycles.specs.Walk.{IsAcyclic, IsRank, AreReadsOf}
use Rattle.rig_cycles.specs.Depth.{IsClosed, reachable_count}
use Rattle.rig_cycles.specs.Order.{IsTopologicalOrder}
use Rattle.rig_cycles.specs.Elements.{element_first, element_later, element_cases, element_none, element_map}
use Rattle.rig_cycles.specs.Acyclic.{acyclic_from_rank}
use Rattle.rig_cycles.specs.DepthIsEnough.{reachable_falls}

-- no rank is above a later one
abbrev pub IsRising : {A : Type 0} → (A → ℕ) → List A → Type 0
IsRising rank [] = ⊤
IsRising rank (x ∷ xs) = All (λ y. rank x ≤ rank y) xs × IsRising rank xs

abbrev pub insert_by : {A : Type 0} → (A → ℕ) → A → List A → List A
insert_by rank x [] = x ∷ []
insert_by rank x (y ∷ ys) = cond (nat_le (rank x) (rank y)) (x ∷ y ∷ ys) (y ∷ insert_by rank x ys)

abbrev pub sort_by : {A : Type 0} → (A → ℕ) → List A → List A
sort_by rank [] = []
sort_by rank (x ∷ xs) = insert_by rank x (sort_by rank xs)

-- ---- the same nodes

insert_same : {A : Type 0} (rank : A → ℕ) (x : A) (xs : List A) → IsPermutation (x ∷ xs) (insert_by rank x xs)
insert_same rank x [] = IsPermutation-refl (x ∷ [])
insert_same rank x (y ∷ ys) =
    cond_both (nat_le (rank x) (rank y)) (x ∷ y ∷ ys) (y ∷ insert_by rank x ys) (λ l. IsPermutation (x ∷ y ∷ ys) l)
    (λ t. IsPermutation-refl (x ∷ y ∷ ys))
    (λ t. IsPermutation-trans (x ∷ y ∷ ys) (y ∷ x ∷ ys) (y ∷ insert_by rank x ys)
    (IsPermutation-sym (y ∷ x ∷ ys) (x ∷ y ∷ ys) (IsPermutation-middle (y ∷ []) x ys))
    (IsPermutation-cons y (x ∷ ys) (insert_by rank x ys) (insert_same rank x ys)))

sort_same : {A : Type 0} (rank : A → ℕ) (xs : List A) → IsPermutation xs (sort_by rank xs)
sort_same rank [] = IsPermutation-refl []
sort_same rank (x ∷ xs) =
    IsPermutation-trans (x ∷ xs) (x ∷ sort_by rank xs) (insert_by rank x (sort_by rank xs))
    (IsPermutation-cons x xs (sort_by rank xs) (sort_same rank xs)) (insert_same rank x (sort_by rank xs))

-- ---- by rising ranks

insert_rising : {A : Type 0} (rank : A → ℕ) (x : A) (xs : List A) → IsRising rank xs → IsRising rank (insert_by rank x xs)
insert_rising rank x [] h = (All-nil (λ y. rank x ≤ rank y), tt)
insert_rising rank x (y ∷ ys) h =
    cond_both (nat_le (rank x) (rank y)) (x ∷ y ∷ ys) (y ∷ insert_by rank x ys) (λ l. IsRising rank l)
    (λ t. let first = leb-true (rank x) (rank y) t in
    (All-cons (λ z. rank x ≤ rank z) y ys first (All-weaker (λ z. rank y ≤ rank z) (λ z. rank x ≤ rank z) (λ z l. omega arith) ys h.0), h))
    (λ t. let later = leb-false (rank x) (rank y) t in (
      All-permutation (λ z. rank y ≤ rank z) (x ∷ ys) (insert_by rank x ys) (insert_same rank x ys)
          (All-cons (λ z. rank y ≤ rank z) x ys (omega arith) h.0),
      insert_rising rank x ys h.1,
    ))

sort_rising : {A : Type 0} (rank : A → ℕ) (xs : List A) → IsRising rank (sort_by rank xs)
sort_rising rank [] = tt
sort_rising rank (x ∷ xs) = insert_rising rank x (sort_by rank xs) (sort_rising rank xs)

-- what has a lower rank stands before
lower_before : {A : Type 0} (rank : A → ℕ) (before after : List A) (node other : A) → IsRising rank (before ++ node ∷ after) → Contains (before ++ node ∷ after) other → rank other < rank node → Contains before other
lower_before rank [] after node other up e h = absurd (⊎_elim
    (λ s. let here = ap rank s in omega arith)
    (λ c. let later = All-contains (λ y. rank node ≤ rank y) after other up.0 c in omega arith)
    (element_cases node after other e))
lower_before rank (b ∷ before) after node other up e h = ⊎_elim
    (λ s. subst (λ z. Contains (b ∷ before) z) s (element_first b before))
    (λ c. element_later b before other (lower_before rank before after node other up.1 c h))
    (element_cases b (before ++ node ∷ after) other e)

-- nodes in the order of a rank that falls along their reads are in a topological order
pub order_of_rank : {A : Type 0} (rank : A → ℕ) (nodes : List A) (reads : List (Arrow A)) → IsClosed nodes reads → ((read : Arrow A) → Contains reads read → Contains nodes read.reader → rank read.source < rank read.reader) → IsTopologicalOrder nodes reads (sort_by rank nodes)
order_of_rank {A} rank nodes reads closed falls = record { same_nodes = sort_same rank nodes; sources_first = first }
  where
    first : (before after : List A) (node : A) → sort_by rank nodes ≡ before ++ node ∷ after → (read : Arrow A) → Contains reads read → read.reader ≡ node → Contains before read.source
    first before after node s read e at =
        let there = subst (λ l. Contains l node) (sym s) (Contains-append_right before (node ∷ after) node (element_first node after)) in
        let here : Contains nodes read.reader = subst (λ z. Contains nodes z) (sym at) (Contains-permutation (sort_by rank nodes) nodes node (IsPermutation-sym nodes (sort_by rank nodes) (sort_same rank nodes)) there) in
        lower_before rank before after node read.source
        (subst (λ l. IsRising rank l) s (sort_rising rank nodes))
        (subst (λ l. Contains l read.source) s (Contains-permutation nodes (sort_by rank nodes) read.source (sort_same rank nodes) (closed read e here)))
        (subst (λ z. rank read.source < rank z) at (falls read e here))

pub order_exists : {A : Type 0} (same : A → A → Bool) → IsEquality same → (nodes : List A) (reads : List (Arrow A)) → IsClosed nodes reads → IsAcyclic reads → (order : List A) × IsTopologicalOrder nodes reads order
order_exists same equal nodes reads closed acyclic = (
  sort_by (reachable_count same reads nodes) nodes,
  order_of_rank (reachable_count same reads nodes) nodes reads closed (reachable_falls same equal nodes reads acyclic),
)

pub rank_exists : {A : Type 0} (same : A → A → Bool) → IsEquality same → (reads : List (Arrow A)) → IsAcyclic reads → (rank : A → ℕ) × IsRank rank reads
rank_exists same equal reads acyclic = (
  reachable_count same reads (map (λ a. a.reader) reads),
  λ read e. reachable_falls same equal (map (λ a. a.reader) reads) reads acyclic read e (element_map (λ a. a.reader) reads read e),
)

-- ---- an order gives a rank: the first index of a node

abbrev pub index_in : {A : Type 0} → (A → A → Bool) → List A → A → ℕ
index_in same [] node = 0
index_in same (x ∷ xs) node = cond (same x node) 0 (suc (index_in same xs node))

module _ {A : Type 0} (same : A → A → Bool) (equal : IsEquality same) where
  not_first : (x : A) (xs : List A) (node : A) → same x node ≡ false → Contains (x ∷ xs) node → Contains xs node
  not_first x xs node f e = ⊎_elim (λ s. absurd (both_ways (same x node) f ((equal x node).1 s))) (λ c. c) (element_cases x xs node e)

  first_split : (order : List A) (node : A) → Contains order node → (before : List A) × (after : List A) × (order ≡ before ++ node ∷ after) × (index_in same order node ≡ length before)
  first_split [] node e = absurd (element_none node e)
  first_split (x ∷ xs) node e = ⊎_elim
      (λ t. ([], xs, ap (λ z. z ∷ xs) ((equal x node).0 t), cond-true (same x node) 0 (suc (index_in same xs node)) t))
      (λ f. let later = first_split xs node (not_first x xs node f e) in
      (x ∷ later.0, later.1, ap (λ l. x ∷ l) later.2, cond-false (same x node) 0 (suc (index_in same xs node)) f ∙ ap suc later.3))
      (cases_Bool (same x node))

  index_lt : (before after : List A) (node : A) → Contains before node → index_in same (before ++ after) node < length before
  index_lt [] after node e = absurd (element_none node e)
  index_lt (x ∷ xs) after node e = cond_both (same x node) 0 (suc (index_in same (xs ++ after) node)) (λ n. n < suc (length xs))
      (λ t. omega arith)
      (λ f. let later = index_lt xs after node (not_first x xs node f e) in omega arith)

  pub acyclic_from_order : (nodes : List A) (reads : List (Arrow A)) → AreReadsOf nodes reads → (order : List A) → IsTopologicalOrder nodes reads order → IsAcyclic reads
  acyclic_from_order nodes reads among order ordered = acyclic_from_rank (index_in same order) reads falls
    where
      falls : IsRank (index_in same order) reads
      falls read e =
          let parts = first_split order read.reader (Contains-permutation nodes order read.reader ordered.same_nodes (among read e).0) in
          let before = ordered.sources_first parts.0 parts.1 read.reader parts.2 read e refl in
          let lower = index_lt parts.0 (read.reader ∷ parts.1) read.source before in
          let at = ap (λ l. index_in same l read.source) parts.2 in
          let here = parts.3 in
          omega arith

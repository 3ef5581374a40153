-- The number of nodes that a node leads to falls along reads without a cycle, so that a depth of the number of nodes is
-- enough.
use Rattle.std.specs.Prelude.{◌≡◌, ℕ, zero, suc, ◌<◌, ◌≤◌, List, [], ◌∷◌, length, Bool, true, false, cond, Contains, count_by}
use Rattle.std.proofs.Common.{⊎_elim, refl, sym, ap, ◌∙◌, subst, arith}
use Rattle.std.proofs.lemmas.Bool.{cond-true, cond-false, both_ways, false≢true, false_from_ne_true}
use Rattle.std.proofs.lemmas.List.Sums.{count_by-le-length, sum_by-cons, sum_by-le-sum_by}
use Rattle.rig_cycles.specs.Cut.{Arrow, IsEquality, leads}
use Rattle.rig_cycles.specs.Walk.{IsAcyclic}
use Rattle.rig_cycles.specs.Walk.Walk.{none, first}
use Rattle.rig_cycles.specs.Elements.{element_cases, element_none}
use Rattle.rig_cycles.specs.Leads.{leads_decides}
use Rattle.rig_cycles.specs.Depth.{IsClosed, reachable_count, IsByDepth, LooksAtSources}

-- ---- counts

one_le : (a b : Bool) → (a ≡ true → b ≡ true) → cond a 1 0 ≤ cond b 1 0
one_le true true h = omega arith
one_le true false h = absurd (both_ways false refl (h refl))
one_le false b h = omega arith

counts_one : (b : Bool) → b ≡ true → cond {A = ℕ} b 1 0 ≡ 1
counts_one b h = cond-true b 1 0 h

counts_none : (b : Bool) → b ≡ false → cond {A = ℕ} b 1 0 ≡ 0
counts_none b h = cond-false b 1 0 h

-- what passes one test passes the other, and there are fewer where one element fails the first and passes the second
count_le : {A : Type 0} (p q : A → Bool) → ((x : A) → p x ≡ true → q x ≡ true) → (xs : List A) → count_by p xs ≤ count_by q xs
count_le p q h xs = sum_by-le-sum_by (λ x. cond (p x) 1 0) (λ x. cond (q x) 1 0) xs (λ x. one_le (p x) (q x) (h x))

count_lt : {A : Type 0} (p q : A → Bool) → ((x : A) → p x ≡ true → q x ≡ true) → (xs : List A) (y : A) → Contains xs y → p y ≡ false → q y ≡ true → count_by p xs < count_by q xs
count_lt p q h [] y e np qy = absurd (element_none y e)
count_lt p q h (x ∷ xs) y e np qy =
    let left = sum_by-cons (λ z. cond (p z) 1 0) x xs in
    let right = sum_by-cons (λ z. cond (q z) 1 0) x xs in
    let here = one_le (p x) (q x) (h x) in
    let later = count_le p q h xs in
    ⊎_elim
    (λ s. let no = counts_none (p x) (ap p s ∙ np) in let one = counts_one (q x) (ap q s ∙ qy) in omega arith)
    (λ c. let fewer = count_lt p q h xs y c np qy in omega arith)
    (element_cases x xs y e)

pub reachable_within : {A : Type 0} (same : A → A → Bool) (nodes : List A) (reads : List (Arrow A)) (node : A) → reachable_count same reads nodes node ≤ length nodes
reachable_within same nodes reads node = count_by-le-length (leads same reads node) nodes

module _ {A : Type 0} (same : A → A → Bool) (equal : IsEquality same) (nodes : List A) (reads : List (Arrow A)) (acyclic : IsAcyclic reads) where
  -- what the source leads to, the reader leads to, and the reader itself besides
  pub reachable_falls : (read : Arrow A) → Contains reads read → Contains nodes read.reader → reachable_count same reads nodes read.source < reachable_count same reads nodes read.reader
  reachable_falls read e c =
      count_lt (leads same reads read.source) (leads same reads read.reader)
      (λ x t. (leads_decides same equal reads read.reader x).1 (first read e ((leads_decides same equal reads read.source x).0 t)))
      nodes read.reader c
      (false_from_ne_true _ (λ t. acyclic read e ((leads_decides same equal reads read.source read.reader).0 t)))
      ((leads_decides same equal reads read.reader read.reader).1 none)

  -- a node of the list leads to one at least, itself
  reachable_some : (node : A) → Contains nodes node → 0 < reachable_count same reads nodes node
  reachable_some node c =
      let more = count_lt (λ x. false) (leads same reads node) (λ x t. absurd (false≢true t)) nodes node c refl ((leads_decides same equal reads node node).1 none) in
      omega arith

  source_below : (n : ℕ) (node : A) → Contains nodes node → reachable_count same reads nodes node ≤ suc n → (read : Arrow A) → Contains reads read → read.reader ≡ node → reachable_count same reads nodes read.source ≤ n
  source_below n node c h read k s =
      let falls = reachable_falls read k (subst (λ z. Contains nodes z) (sym s) c) in
      let here = ap (reachable_count same reads nodes) s in
      omega arith

  module _ {V : Type 0} (closed : IsClosed nodes reads) (step : A → (A → V) → V) (at : ℕ → A → V) (by_depth : IsByDepth step at) (looks : LooksAtSources nodes reads step) where
    -- at all depths from what a node leads to on, there is one value
    one_value_below : (n : ℕ) (d e : ℕ) (node : A) → Contains nodes node → reachable_count same reads nodes node ≤ n → n ≤ d → n ≤ e → at d node ≡ at e node
    one_value_below zero d e node c h p q = let some = reachable_some node c in absurd (omega arith)
    one_value_below (suc n) zero e node c h p q = absurd (omega arith)
    one_value_below (suc n) (suc d) zero node c h p q = absurd (omega arith)
    one_value_below (suc n) (suc d) (suc e) node c h p q =
        by_depth d node
        ∙ looks node (at d) (at e) c (λ read k s.
        one_value_below n d e read.source (closed read k (subst (λ z. Contains nodes z) (sym s) c)) (source_below n node c h read k s) (omega arith) (omega arith))
        ∙ sym (by_depth e node)

    pub one_value : (d e : ℕ) (node : A) → Contains nodes node → length nodes ≤ d → length nodes ≤ e → at d node ≡ at e node
    one_value d e node c p q = one_value_below (length nodes) d e node c (reachable_within same nodes reads node) p q

    -- and there a step leaves the function as it is
    pub value_by_step : (d : ℕ) (node : A) → Contains nodes node → length nodes ≤ d → at d node ≡ step node (at d)
    value_by_step d node c p = one_value d (suc d) node c p (omega arith) ∙ by_depth d node

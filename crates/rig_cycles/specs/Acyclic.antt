-- What is known of lists of reads that make no cycle, and that the cut keeps them so.
use Rattle.std.specs.Prelude.{◌≡◌, ◌⊎◌, ◌↔◌, ◌&&◌, ◌||◌, true, IsFalse, ℕ, ◌≤◌, List, [], ◌∷◌, ◌++◌, Bool, Contains}
use Rattle.std.specs.Bool.{Decides}
use Rattle.std.proofs.Common.{inl, inr, ⊎_elim, sym, subst, arith}
use Rattle.std.proofs.lemmas.List.Elements.{Contains-append_left, Contains-push, Contains-push_cases}
use Rattle.std.proofs.lemmas.Bool.{both_ways, false_from_ne_true, and_parts, and_from, or_cases, or_left, or_right}
use Rattle.std.proofs.lemmas.Bool.Decides.{same_from_decides}
use Rattle.rig_cycles.specs.Cut.{Arrow, IsEquality, leads, kept_after}
use Rattle.rig_cycles.specs.Walk.{Walk, IsAcyclic, IsRank, IsPart}
use Rattle.rig_cycles.specs.Walk.Walk.{none, first}
use Rattle.rig_cycles.specs.Depth.{IsClosed}
use Rattle.rig_cycles.specs.CutSteps.{by_cut}
use Rattle.rig_cycles.specs.Leads.{walk_within, walk_then, walk_keeps, leads_decides}

-- ---- a rank

-- along a walk a rank that falls along each read doesn't rise
pub rank_along : {A : Type 0} (rank : A → ℕ) (reads : List (Arrow A)) → IsRank rank reads → {start end : A} → Walk reads start end → rank end ≤ rank start
rank_along rank reads falls none = omega arith
rank_along rank reads falls (first read e w) = let below = falls read e in let later = rank_along rank reads falls w in omega arith

pub acyclic_from_rank : {A : Type 0} (rank : A → ℕ) (reads : List (Arrow A)) → IsRank rank reads → IsAcyclic reads
acyclic_from_rank rank reads falls read e w = let below = falls read e in let later = rank_along rank reads falls w in omega arith

-- a part of what makes no cycle makes none
pub acyclic_part : {A : Type 0} (part whole : List (Arrow A)) → IsPart part whole → IsAcyclic whole → IsAcyclic part
acyclic_part part whole has acyclic read e w = acyclic read (has read e) (walk_within part whole has w)

-- ---- one read more

-- a walk that comes to the reader of one read more, and goes on from its source
abbrev pub WalkThrough : {A : Type 0} → List (Arrow A) → Arrow A → A → A → Type 0
WalkThrough reads more start end = Walk reads start more.reader × Walk reads more.source end

through_old : {A : Type 0} (reads : List (Arrow A)) (more read : Arrow A) {end : A} → Contains reads read → Walk reads read.source end ⊎ WalkThrough reads more read.source end → Walk reads read.reader end ⊎ WalkThrough reads more read.reader end
through_old reads more read e = ⊎_elim (λ w. inl (first read e w)) (λ t. inr (first read e t.0, t.1))

through_more : {A : Type 0} (reads : List (Arrow A)) (more read : Arrow A) (end : A) → more ≡ read → Walk reads read.source end ⊎ WalkThrough reads more read.source end → Walk reads read.reader end ⊎ WalkThrough reads more read.reader end
through_more reads more read end s found = inr (subst (λ r. Walk reads r.reader more.reader) s none, rest found)
  where
    rest : Walk reads read.source end ⊎ WalkThrough reads more read.source end → Walk reads more.source end
    rest = ⊎_elim (λ w. subst (λ r. Walk reads r.source end) (sym s) w) (λ t. t.1)

-- a walk along one read more is one without it, or takes it
pub walk_one_more : {A : Type 0} (reads : List (Arrow A)) (more : Arrow A) {start end : A} → Walk (reads ++ more ∷ []) start end → Walk reads start end ⊎ WalkThrough reads more start end
walk_one_more reads more none = inl none
walk_one_more reads more (first read e {end = end} w) =
    let later = walk_one_more reads more w in
    ⊎_elim (λ c. through_old reads more read c later) (λ s. through_more reads more read end s later) (Contains-push_cases reads more read e)

pub walk_old : {A : Type 0} (reads : List (Arrow A)) (more : Arrow A) {start end : A} → Walk reads start end → Walk (reads ++ more ∷ []) start end
walk_old reads more w = walk_within reads (reads ++ more ∷ []) (λ read e. Contains-append_left reads (more ∷ []) read e) w

pub walk_through : {A : Type 0} (reads : List (Arrow A)) (more : Arrow A) {start end : A} → WalkThrough reads more start end → Walk (reads ++ more ∷ []) start end
walk_through reads more t = walk_then (walk_old reads more t.0) (first more (Contains-push reads more) (walk_old reads more t.1))

-- a cycle that one read more closes, it closes by a walk of the others
closed_by_others : {A : Type 0} (reads : List (Arrow A)) (more : Arrow A) → Walk (reads ++ more ∷ []) more.source more.reader → Walk reads more.source more.reader
closed_by_others reads more w = ⊎_elim (λ v. v) (λ t. t.0) (walk_one_more reads more w)

-- a read whose source doesn't lead to its reader closes no cycle
pub acyclic_one_more : {A : Type 0} (reads : List (Arrow A)) (more : Arrow A) → IsAcyclic reads → (Walk reads more.source more.reader → ⊥) → IsAcyclic (reads ++ more ∷ [])
acyclic_one_more reads more acyclic open' read e w =
    ⊎_elim
    (λ c. ⊎_elim (λ v. acyclic read c v) (λ t. open' (walk_then t.1 (first read c t.0))) (walk_one_more reads more w))
    (λ s. open' (closed_by_others reads more (subst (λ r. Walk (reads ++ more ∷ []) r.source r.reader) (sym s) w)))
    (Contains-push_cases reads more read e)

module _ {A : Type 0} (same : A → A → Bool) (equal : IsEquality same) where
  -- what the cut keeps makes no cycle
  pub acyclic_kept_after : (kept rest : List (Arrow A)) → IsAcyclic kept → IsAcyclic (kept_after same kept rest)
  acyclic_kept_after =
      by_cut same (λ kept rest all cuts. IsAcyclic kept → IsAcyclic all)
      (λ kept acyclic. acyclic)
      (λ kept a rest all cuts t h. h)
      (λ kept a rest all cuts f h acyclic. h (acyclic_one_more kept a acyclic (λ w. both_ways _ f ((leads_decides same equal kept a.source a.reader).1 w))))

  -- ---- one read more

  pub leads_one_more : (reads : List (Arrow A)) (more : Arrow A) (start end : A) → leads same (reads ++ more ∷ []) start end ≡ (leads same reads start end || leads same reads start more.reader && leads same reads more.source end)
  leads_one_more reads more start end =
      same_from_decides _ _ (leads_decides same equal (reads ++ more ∷ []) start end) (found, walks)
    where
      lead : (a b : A) → Decides (leads same reads a b) (Walk reads a b)
      lead a b = leads_decides same equal reads a b

      found : (leads same reads start end || leads same reads start more.reader && leads same reads more.source end) ≡ true → Walk (reads ++ more ∷ []) start end
      found t = ⊎_elim
          (λ d. walk_old reads more ((lead start end).0 d))
          (λ d. let parts = and_parts (leads same reads start more.reader) (leads same reads more.source end) d in
          walk_through reads more ((lead start more.reader).0 parts.0, (lead more.source end).0 parts.1))
          (or_cases (leads same reads start end) (leads same reads start more.reader && leads same reads more.source end) t)

      walks : Walk (reads ++ more ∷ []) start end → (leads same reads start end || leads same reads start more.reader && leads same reads more.source end) ≡ true
      walks w = ⊎_elim
          (λ v. or_left _ _ ((lead start end).1 v))
          (λ t. or_right _ _ (and_from _ _ ((lead start more.reader).1 t.0) ((lead more.source end).1 t.1)))
          (walk_one_more reads more w)

  pub acyclic_one_more_iff : (reads : List (Arrow A)) (more : Arrow A) → IsAcyclic reads → IsAcyclic (reads ++ more ∷ []) ↔ IsFalse (leads same reads more.source more.reader)
  acyclic_one_more_iff reads more acyclic = (
    λ all. false_from_ne_true _ (λ t. all more (Contains-push reads more) (walk_old reads more ((leads_decides same equal reads more.source more.reader).0 t))),
    λ f. acyclic_one_more reads more acyclic (λ w. both_ways _ f ((leads_decides same equal reads more.source more.reader).1 w)),
  )

  -- ---- leads, from node to node

  pub leads_then : (reads : List (Arrow A)) (start middle end : A) → leads same reads start middle ≡ true → leads same reads middle end ≡ true → leads same reads start end ≡ true
  leads_then reads start middle end p q =
      (leads_decides same equal reads start end).1 (walk_then ((leads_decides same equal reads start middle).0 p) ((leads_decides same equal reads middle end).0 q))

  pub leads_within_whole : (part whole : List (Arrow A)) → IsPart part whole → (start end : A) → leads same part start end ≡ true → leads same whole start end ≡ true
  leads_within_whole part whole has start end p =
      (leads_decides same equal whole start end).1 (walk_within part whole has ((leads_decides same equal part start end).0 p))

  pub leads_closed : (nodes : List A) (reads : List (Arrow A)) → IsClosed nodes reads → (start end : A) → Contains nodes start → leads same reads start end ≡ true → Contains nodes end
  leads_closed nodes reads closed start end e p =
      walk_keeps reads (λ z. Contains nodes z) closed ((leads_decides same equal reads start end).0 p) e

-- `leads` with its bound holds exactly where a walk is there.
use Rattle.std.specs.Prelude.{◌≡◌, ◌⊎◌, ℕ, zero, suc, ◌<◌, ◌≤◌, ◌&&◌, List, length, filter, Bool, true, not, Contains}
use Rattle.std.specs.Bool.{Decides}
use Rattle.std.specs.List.{list_any}
use Rattle.std.proofs.Common.{inl, inr, ⊎_elim, refl, sym, subst, arith}
use Rattle.std.proofs.lemmas.Bool.{and_parts, and_from, or_cases, or_left, or_right, cases_Bool, both_ways, not-true}
use Rattle.rig_cycles.specs.Cut.{Arrow, IsEquality, leads_within, leads}
use Rattle.rig_cycles.specs.Walk.{Walk, IsPart}
use Rattle.rig_cycles.specs.Walk.Walk.{none, first}
use Rattle.rig_cycles.specs.Elements.{any_from_element, element_from_any, element_kept, element_of_kept, kept_passes, length-filter-lt}

-- a walk along a part is one along the whole
pub walk_within : {A : Type 0} (part whole : List (Arrow A)) → IsPart part whole → {start end : A} → Walk part start end → Walk whole start end
walk_within part whole has none = none
walk_within part whole has (first read e w) = first read (has read e) (walk_within part whole has w)

-- a walk and then a walk are a walk
pub walk_then : {A : Type 0} {reads : List (Arrow A)} {start middle end : A} → Walk reads start middle → Walk reads middle end → Walk reads start end
walk_then none v = v
walk_then (first read e w) v = first read e (walk_then w v)

-- what holds of the reader of each read only where it holds of the source too, a walk takes from its start to its end
pub walk_keeps : {A : Type 0} (reads : List (Arrow A)) (P : A → Type 0) → ((read : Arrow A) → Contains reads read → P read.reader → P read.source) → {start end : A} → Walk reads start end → P start → P end
walk_keeps reads P keep none p = p
walk_keeps reads P keep (first read e w) p = walk_keeps reads P keep w (keep read e p)

-- a read of a node from whose source at most so many reads lead to an end
abbrev pub NextRead : {A : Type 0} → (A → A → Bool) → ℕ → List (Arrow A) → A → A → Type 0
NextRead {A} same n reads start end =
    (read : Arrow A) × Contains reads read × (read.reader ≡ start) × (leads_within same n reads read.source end ≡ true)

-- the reads by others than a node
abbrev pub by_others : {A : Type 0} → (A → A → Bool) → A → List (Arrow A) → List (Arrow A)
by_others same node reads = filter (λ a. not (same a.reader node)) reads

-- a read of a node from whose source a walk leads to an end by reads of others: where a walk leaves the node for the
-- last time
abbrev pub LastLeave : {A : Type 0} → (A → A → Bool) → A → List (Arrow A) → A → Type 0
LastLeave {A} same node reads end =
    (read : Arrow A) × Contains reads read × (read.reader ≡ node) × Walk (by_others same node reads) read.source end

module _ {A : Type 0} (same : A → A → Bool) (equal : IsEquality same) where
  -- ---- a step of `leads_within`

  step_cases : (n : ℕ) (reads : List (Arrow A)) (start end : A) → leads_within same (suc n) reads start end ≡ true → (start ≡ end) ⊎ NextRead same n reads start end
  step_cases n reads start end h = ⊎_elim (λ t. inl ((equal start end).0 t)) (λ t. inr (next_read t)) (or_cases (same start end) _ h)
    where
      next_read : list_any (λ a. same a.reader start && leads_within same n reads a.source end) reads ≡ true → NextRead same n reads start end
      next_read t =
          let found = element_from_any (λ a. same a.reader start && leads_within same n reads a.source end) reads t in
          let parts = and_parts (same found.0.reader start) (leads_within same n reads found.0.source end) found.2 in
          (found.0, found.1, (equal found.0.reader start).0 parts.0, parts.1)

  step_none : (n : ℕ) (reads : List (Arrow A)) (start end : A) → start ≡ end → leads_within same (suc n) reads start end ≡ true
  step_none n reads start end s = or_left (same start end) _ ((equal start end).1 s)

  step_next : (n : ℕ) (reads : List (Arrow A)) (start end : A) → NextRead same n reads start end → leads_within same (suc n) reads start end ≡ true
  step_next n reads start end o =
      or_right (same start end) _ (any_from_element (λ a. same a.reader start && leads_within same n reads a.source end) reads o.0 o.1
      (and_from _ _ ((equal o.0.reader start).1 o.2) o.3))

  -- ---- what leads is a walk

  pub walk_from_leads_within : (n : ℕ) (reads : List (Arrow A)) (start end : A) → leads_within same n reads start end ≡ true → Walk reads start end
  walk_from_leads_within zero reads start end h = subst (λ z. Walk reads start z) ((equal start end).0 h) none
  walk_from_leads_within (suc n) reads start end h = ⊎_elim
      (λ s. subst (λ z. Walk reads start z) s none)
      (λ o. subst (λ z. Walk reads z end) o.2 (first o.0 o.1 (walk_from_leads_within n reads o.0.source end o.3)))
      (step_cases n reads start end h)

  -- ---- a walk leads

  -- what leads along a part leads along the whole
  pub leads_within-whole : (n : ℕ) (part whole : List (Arrow A)) → IsPart part whole → (start end : A) → leads_within same n part start end ≡ true → leads_within same n whole start end ≡ true
  leads_within-whole zero part whole has start end h = h
  leads_within-whole (suc n) part whole has start end h = ⊎_elim
      (λ s. step_none n whole start end s)
      (λ o. step_next n whole start end (o.0, has o.0 o.1, o.2, leads_within-whole n part whole has o.0.source end o.3))
      (step_cases n part start end h)

  -- a walk is by others than a node, or leaves the node for the last time
  last_leave : (node : A) (reads : List (Arrow A)) {start end : A} → Walk reads start end → Walk (by_others same node reads) start end ⊎ LastLeave same node reads end
  last_leave node reads none = inl none
  last_leave node reads (first read e w) = ⊎_elim (λ v. by_test v) (λ l. inr l) (last_leave node reads w)
    where
      by_test : {end : A} → Walk (by_others same node reads) read.source end → Walk (by_others same node reads) read.reader end ⊎ LastLeave same node reads end
      by_test v = ⊎_elim
          (λ t. inr (read, e, (equal read.reader node).0 t, v))
          (λ f. inl (first read (element_kept (λ a. not (same a.reader node)) reads read e (rw f)) v))
          (cases_Bool (same read.reader node))

  -- a walk by others from the node itself has no read
  nothing_else : (node : A) (reads : List (Arrow A)) {start end : A} → Walk (by_others same node reads) start end → start ≡ node → node ≡ end
  nothing_else node reads none s = sym s
  nothing_else node reads (first read e w) s =
      let other = kept_passes (λ a. not (same a.reader node)) reads read e in
      absurd (both_ways (same read.reader node) (not-true _ other) ((equal read.reader node).1 s))

  others_fewer : (n : ℕ) (node : A) (reads : List (Arrow A)) (read : Arrow A) → length reads ≤ suc n → Contains reads read → read.reader ≡ node → length (by_others same node reads) ≤ n
  others_fewer n node reads read h e s =
      let fewer = length-filter-lt (λ a. not (same a.reader node)) reads read e (rw ((equal read.reader node).1 s)) in
      omega arith

  -- A walk is found, where the bound isn't below the number of reads: after it leaves its start for the last time, it
  -- takes none of the start's reads.
  pub leads_within_from_walk : (n : ℕ) (reads : List (Arrow A)) (start end : A) → length reads ≤ n → Walk reads start end → leads_within same n reads start end ≡ true
  leads_within_from_walk zero reads start end h w = ⊎_elim
      (λ v. (equal start end).1 (nothing_else start reads v refl))
      (λ l. let at : l.1.0 < length reads = l.1.1 in absurd (omega arith))
      (last_leave start reads w)
  leads_within_from_walk (suc n) reads start end h w = ⊎_elim
      (λ v. step_none n reads start end (nothing_else start reads v refl))
      (λ l. step_next n reads start end (
        l.0,
        l.1,
        l.2,
        leads_within-whole n (by_others same start reads) reads (element_of_kept (λ a. not (same a.reader start)) reads) l.0.source end
            (leads_within_from_walk n (by_others same start reads) l.0.source end (others_fewer n start reads l.0 h l.1 l.2) l.3),
      ))
      (last_leave start reads w)

  -- ---- both

  pub leads_within_decides : (n : ℕ) (reads : List (Arrow A)) (start end : A) → length reads ≤ n → Decides (leads_within same n reads start end) (Walk reads start end)
  leads_within_decides n reads start end h = (walk_from_leads_within n reads start end, leads_within_from_walk n reads start end h)

  pub leads_decides : (reads : List (Arrow A)) (start end : A) → Decides (leads same reads start end) (Walk reads start end)
  leads_decides reads start end = leads_within_decides (length reads) reads start end (omega arith)

-- The cut a read at a time: what holds of it at each read holds of it in the end.
use Rattle.std.specs.Prelude.{◌≡◌, ◌⊎◌, List, [], ◌∷◌, ◌++◌, Bool, true, false, cond, Contains}
use Rattle.std.proofs.Common.{inl, inr, ⊎_elim, refl, sym, subst}
use Rattle.std.proofs.lemmas.List.Elements.{Contains-append_left, Contains-push, Contains-push_cases}
use Rattle.std.proofs.lemmas.Bool.{cond-false}
use Rattle.rig_cycles.specs.Cut.{Arrow, closes_cycle, cuts_from, kept_after}
use Rattle.rig_cycles.specs.Walk.{IsPart}
use Rattle.rig_cycles.specs.Elements.{element_first, element_later, element_cases, element_none}

-- what holds of a choice and of another choice by the same test
both_cond : {X Y : Type 0} (P : X → Y → Type 0) (b : Bool) (x y : X) (u v : Y) → (b ≡ true → P x u) → (b ≡ false → P y v) → P (cond b x y) (cond b u v)
both_cond P true x y u v p q = p refl
both_cond P false x y u v p q = q refl

-- a statement about what was kept, the reads to come, what is kept in the end, and the cuts
abbrev pub OfCut : Type 0 → Type 1
OfCut A = (kept rest all cuts : List (Arrow A)) → Type 0

-- It holds with one more read to come before the others, where that read is cut, and where it is kept.
abbrev pub AfterCut : {A : Type 0} → (A → A → Bool) → OfCut A → Type 0
AfterCut {A} same P =
    (kept : List (Arrow A)) (a : Arrow A) (rest all cuts : List (Arrow A)) →
    closes_cycle same kept a ≡ true → P kept rest all cuts → P kept (a ∷ rest) all (a ∷ cuts)

abbrev pub AfterKept : {A : Type 0} → (A → A → Bool) → OfCut A → Type 0
AfterKept {A} same P =
    (kept : List (Arrow A)) (a : Arrow A) (rest all cuts : List (Arrow A)) →
    closes_cycle same kept a ≡ false → P (kept ++ a ∷ []) rest all cuts → P kept (a ∷ rest) all cuts

-- what holds with no reads to come, and with each read more, holds of the whole cut
pub by_cut : {A : Type 0} (same : A → A → Bool) (P : OfCut A) → ((kept : List (Arrow A)) → P kept [] kept []) → AfterCut same P → AfterKept same P → (kept rest : List (Arrow A)) → P kept rest (kept_after same kept rest) (cuts_from same kept rest)
by_cut same P nil cut keep kept [] = nil kept
by_cut same P nil cut keep kept (a ∷ rest) =
    both_cond (P kept (a ∷ rest)) (closes_cycle same kept a)
    (kept_after same kept rest) (kept_after same (kept ++ a ∷ []) rest) (a ∷ cuts_from same kept rest) (cuts_from same (kept ++ a ∷ []) rest)
    (λ t. cut kept a rest _ _ t (by_cut same P nil cut keep kept rest))
    (λ t. keep kept a rest _ _ t (by_cut same P nil cut keep (kept ++ a ∷ []) rest))

-- ---- each read to come is kept or cut, and nothing else is

-- a list with one read more at its end is a part where the list is, and where the read is an element
pub part_old : {A : Type 0} (kept : List (Arrow A)) (a : Arrow A) (all : List (Arrow A)) → IsPart (kept ++ a ∷ []) all → IsPart kept all
part_old kept a all part read e = part read (Contains-append_left kept (a ∷ []) read e)

pub part_more : {A : Type 0} (kept : List (Arrow A)) (a : Arrow A) (all : List (Arrow A)) → IsPart (kept ++ a ∷ []) all → Contains all a
part_more kept a all part = part a (Contains-push kept a)

pub kept_stays : {A : Type 0} (same : A → A → Bool) (kept rest : List (Arrow A)) → IsPart kept (kept_after same kept rest)
kept_stays same = by_cut same (λ kept rest all cuts. IsPart kept all)
    (λ kept read e. e) (λ kept a rest all cuts t part. part) (λ kept a rest all cuts t part. part_old kept a all part)

pub cut_is_tested : {A : Type 0} (same : A → A → Bool) (kept rest : List (Arrow A)) → IsPart (cuts_from same kept rest) rest
cut_is_tested same = by_cut same (λ kept rest all cuts. IsPart cuts rest)
    (λ kept read e. e)
    (λ kept a rest all cuts t part read e. ⊎_elim
    (λ s. subst (λ r. Contains (a ∷ rest) r) s (element_first a rest)) (λ c. element_later a rest read (part read c)) (element_cases a cuts read e))
    (λ kept a rest all cuts t part read e. element_later a rest read (part read e))

-- a read is of one list or the other
abbrev pub IsOfEither : {A : Type 0} → List (Arrow A) → List (Arrow A) → List (Arrow A) → Type 0
IsOfEither {A} reads left right = (read : Arrow A) → Contains reads read → Contains left read ⊎ Contains right read

pub kept_is_tested : {A : Type 0} (same : A → A → Bool) (kept rest : List (Arrow A)) → IsOfEither (kept_after same kept rest) kept rest
kept_is_tested same = by_cut same (λ kept rest all cuts. IsOfEither all kept rest)
    (λ kept read e. inl e)
    (λ kept a rest all cuts t of read e. ⊎_elim (λ k. inl k) (λ r. inr (element_later a rest read r)) (of read e))
    (λ kept a rest all cuts t of read e. ⊎_elim
    (λ k. ⊎_elim (λ o. inl o) (λ s. inr (subst (λ r. Contains (a ∷ rest) r) s (element_first a rest))) (Contains-push_cases kept a read k))
    (λ r. inr (element_later a rest read r))
    (of read e))

pub kept_or_cut : {A : Type 0} (same : A → A → Bool) (kept rest : List (Arrow A)) → IsOfEither rest (kept_after same kept rest) (cuts_from same kept rest)
kept_or_cut {A} same kept rest =
    (by_cut same (λ kept rest all cuts. IsPart kept all × IsOfEither rest all cuts)
    (λ kept. (λ read e. e, λ read e. absurd (element_none read e)))
    (λ kept a rest all cuts t h. (
      h.0,
      λ read e. ⊎_elim
          (λ s. inr (subst (λ r. Contains (a ∷ cuts) r) s (element_first a cuts)))
          (λ c. ⊎_elim (λ k. inl k) (λ k. inr (element_later a cuts read k)) (h.1 read c))
          (element_cases a rest read e),
    ))
    (λ kept a rest all cuts t h. (
      part_old kept a all h.0,
      λ read e. ⊎_elim
          (λ s. inl (subst (λ r. Contains all r) s (part_more kept a all h.0)))
          (λ c. h.1 read c)
          (element_cases a rest read e),
    ))
    kept rest).1

-- ---- one test after another

kept_after-cond : {A : Type 0} (same : A → A → Bool) (ys : List (Arrow A)) (b : Bool) (x y u v : List (Arrow A)) → u ≡ kept_after same x ys → v ≡ kept_after same y ys → cond b u v ≡ kept_after same (cond b x y) ys
kept_after-cond same ys true x y u v p q = p
kept_after-cond same ys false x y u v p q = q

pub kept_after-append : {A : Type 0} (same : A → A → Bool) (kept xs ys : List (Arrow A)) → kept_after same kept (xs ++ ys) ≡ kept_after same (kept_after same kept xs) ys
kept_after-append same kept [] ys = refl
kept_after-append same kept (a ∷ xs) ys =
    kept_after-cond same ys (closes_cycle same kept a) _ _ _ _ (kept_after-append same kept xs ys) (kept_after-append same (kept ++ a ∷ []) xs ys)

-- what is kept before a test stays kept
pub kept_past : {A : Type 0} (same : A → A → Bool) (kept before after : List (Arrow A)) (read : Arrow A) → IsPart (kept_after same kept before) (kept_after same kept (before ++ read ∷ after))
kept_past same kept before after read other c =
    subst (λ l. Contains l other) (sym (kept_after-append same kept before (read ∷ after))) (kept_stays same (kept_after same kept before) (read ∷ after) other c)

-- a read that closes no cycle at its test is kept
pub kept_at_test : {A : Type 0} (same : A → A → Bool) (kept before after : List (Arrow A)) (read : Arrow A) → closes_cycle same (kept_after same kept before) read ≡ false → Contains (kept_after same kept (before ++ read ∷ after)) read
kept_at_test {A} same kept before after read f =
    subst (λ l. Contains l read) (sym (kept_after-append same kept before (read ∷ after)))
    (rw (cond-false (closes_cycle same now read) (kept_after same now after) (kept_after same (now ++ read ∷ []) after) f)
    (kept_stays same (now ++ read ∷ []) after read (Contains-push now read)))
  where
    now : List (Arrow A)
    now = kept_after same kept before

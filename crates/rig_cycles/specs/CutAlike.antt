-- Reads of one source by one reader are cut or kept alike.
use Rattle.std.specs.Prelude.{◌≡◌, ◌⊎◌, ◌↔◌, ◌&&◌, List, [], ◌∷◌, ◌++◌, filter, Bool, true, false, not, IsFalse, Contains}
use Rattle.std.specs.Bool.{Decides}
use Rattle.std.specs.List.{list_any}
use Rattle.std.proofs.Common.{⊎_elim, refl, sym, ap, ◌∙◌, subst}
use Rattle.std.proofs.lemmas.List.{append_assoc, append-nil}
use Rattle.std.proofs.lemmas.List.Elements.{Contains-append_right}
use Rattle.std.proofs.lemmas.Bool.{cond-true, cond-false, both_ways, false_from_ne_true, true_from_ne_false, and_parts, and_from}
use Rattle.std.proofs.lemmas.Bool.Decides.{same_from_decides}
use Rattle.rig_cycles.specs.Cut.{Arrow, IsEquality, closes_cycle, cuts_from, kept_after}
use Rattle.rig_cycles.specs.Pair.{is_cut_at, is_pair_cut}
use Rattle.rig_cycles.specs.Walk.{Walk, IsAcyclic, IsPart}
use Rattle.rig_cycles.specs.Elements.{element_first, element_cases, element_none, any_from_element, element_from_any}
use Rattle.rig_cycles.specs.Leads.{walk_within, leads_decides}
use Rattle.rig_cycles.specs.CutSteps.{by_cut, part_old, part_more, kept_stays, kept_or_cut, kept_past, kept_at_test}
use Rattle.rig_cycles.specs.Acyclic.{acyclic_one_more_iff, acyclic_kept_after, leads_within_whole}

-- the cuts are those of the reads to come that close a cycle with all that is kept in the end, and the others are kept
abbrev pub IsSplit : {A : Type 0} → (A → A → Bool) → (kept rest all cuts : List (Arrow A)) → Type 0
IsSplit same kept rest all cuts =
    (cuts ≡ filter (closes_cycle same all) rest) × (all ≡ kept ++ filter (λ a. not (closes_cycle same all a)) rest)

split_cut : {A : Type 0} (same : A → A → Bool) (kept : List (Arrow A)) (a : Arrow A) (rest all cuts : List (Arrow A)) → closes_cycle same all a ≡ true → IsSplit same kept rest all cuts → IsSplit same kept (a ∷ rest) all (a ∷ cuts)
split_cut same kept a rest all cuts t h = (
  ap (λ l. a ∷ l) h.0 ∙ sym (cond-true (closes_cycle same all a) _ _ t),
  h.1 ∙ ap (λ l. kept ++ l) (sym (cond-false (not (closes_cycle same all a)) (a ∷ filter (λ x. not (closes_cycle same all x)) rest) _ (ap not t))),
)

split_kept : {A : Type 0} (same : A → A → Bool) (kept : List (Arrow A)) (a : Arrow A) (rest all cuts : List (Arrow A)) → closes_cycle same all a ≡ false → IsSplit same (kept ++ a ∷ []) rest all cuts → IsSplit same kept (a ∷ rest) all cuts
split_kept same kept a rest all cuts f h = (
  h.0 ∙ sym (cond-false (closes_cycle same all a) (a ∷ filter (closes_cycle same all) rest) _ f),
  h.1
      ∙ append_assoc kept (a ∷ []) (filter (λ x. not (closes_cycle same all x)) rest)
      ∙ ap (λ l. kept ++ l) (sym (cond-true (not (closes_cycle same all a)) (a ∷ filter (λ x. not (closes_cycle same all x)) rest) _ (ap not f))),
)

module _ {A : Type 0} (same : A → A → Bool) (equal : IsEquality same) where
  -- ---- what is cut closes a cycle with what is kept in the end

  pub walk_of_cut : (kept rest : List (Arrow A)) (read : Arrow A) → Contains (cuts_from same kept rest) read → Walk (kept_after same kept rest) read.source read.reader
  walk_of_cut kept rest =
      (by_cut same (λ kept rest all cuts. IsPart kept all × ((read : Arrow A) → Contains cuts read → Walk all read.source read.reader))
      (λ kept. (λ read e. e, λ read e. absurd (element_none read e)))
      (λ kept a rest all cuts t h. (
        h.0,
        λ read e. ⊎_elim
            (λ s. subst (λ r. Walk all r.source r.reader) s (walk_within kept all h.0 ((leads_decides same equal kept a.source a.reader).0 t)))
            (λ c. h.1 read c)
            (element_cases a cuts read e),
      ))
      (λ kept a rest all cuts t h. (part_old kept a all h.0, h.1))
      kept rest).1

  -- ---- told by its source and reader

  walk_of_pair : (kept rest : List (Arrow A)) (read : Arrow A) → is_pair_cut same kept rest read ≡ true → Walk (kept_after same kept rest) read.source read.reader
  walk_of_pair kept rest read h =
      let found = element_from_any (λ a. same a.source read.source && same a.reader read.reader) (cuts_from same kept rest) h in
      let parts = and_parts (same found.0.source read.source) (same found.0.reader read.reader) found.2 in
      subst (λ z. Walk (kept_after same kept rest) z read.reader) ((equal found.0.source read.source).0 parts.0)
      (subst (λ z. Walk (kept_after same kept rest) found.0.source z) ((equal found.0.reader read.reader).0 parts.1) (walk_of_cut kept rest found.0 found.1))

  pair_of_cut : (kept rest : List (Arrow A)) (read : Arrow A) → Contains (cuts_from same kept rest) read → is_pair_cut same kept rest read ≡ true
  pair_of_cut kept rest read e =
      any_from_element (λ a. same a.source read.source && same a.reader read.reader) (cuts_from same kept rest) read e
      (and_from _ _ ((equal read.source read.source).1 refl) ((equal read.reader read.reader).1 refl))

  pub pair_decides : (kept rest : List (Arrow A)) (read : Arrow A) → IsAcyclic kept → Contains rest read → Decides (is_pair_cut same kept rest read) (Walk (kept_after same kept rest) read.source read.reader)
  pair_decides kept rest read acyclic e = (
    walk_of_pair kept rest read,
    λ w. ⊎_elim
        (λ k. absurd (acyclic_kept_after same equal kept rest acyclic read k w))
        (λ c. pair_of_cut kept rest read c)
        (kept_or_cut same kept rest read e),
  )

  pub pair_in_the_end : (kept rest : List (Arrow A)) (read : Arrow A) → IsAcyclic kept → Contains rest read → is_pair_cut same kept rest read ≡ closes_cycle same (kept_after same kept rest) read
  pair_in_the_end kept rest read acyclic e =
      same_from_decides _ _ (pair_decides kept rest read acyclic e) (leads_decides same equal (kept_after same kept rest) read.source read.reader)

  -- what is kept has no cut read of its source and reader
  pub kept_no_pair : (kept rest : List (Arrow A)) (read : Arrow A) → IsAcyclic kept → Contains (kept_after same kept rest) read → is_pair_cut same kept rest read ≡ false
  kept_no_pair kept rest read acyclic k =
      false_from_ne_true _ (λ h. acyclic_kept_after same equal kept rest acyclic read k (walk_of_pair kept rest read h))

  -- a read that is always kept or tested is kept where its pair isn't cut
  pub kept_where_no_pair : (kept rest : List (Arrow A)) (read : Arrow A) → IsAcyclic kept → Contains kept read ⊎ Contains rest read → Contains (kept_after same kept rest) read ↔ IsFalse (is_pair_cut same kept rest read)
  kept_where_no_pair kept rest read acyclic of = (
    kept_no_pair kept rest read acyclic,
    λ f. ⊎_elim
        (λ k. kept_stays same kept rest read k)
        (λ e. ⊎_elim (λ k. k) (λ c. absurd (both_ways _ f (pair_of_cut kept rest read c))) (kept_or_cut same kept rest read e))
        of,
  )

  -- ---- at its test

  test_decides : (kept before after : List (Arrow A)) (read : Arrow A) → IsAcyclic kept → Decides (is_cut_at same kept before read) (Walk (kept_after same kept (before ++ read ∷ after)) read.source read.reader)
  test_decides kept before after read acyclic = (
    λ t. walk_within (kept_after same kept before) (kept_after same kept (before ++ read ∷ after)) (kept_past same kept before after read)
        ((leads_decides same equal (kept_after same kept before) read.source read.reader).0 t),
    λ w. true_from_ne_false _ (λ f. acyclic_kept_after same equal kept (before ++ read ∷ after) acyclic read (kept_at_test same kept before after read f) w),
  )

  pub cut_by_pair : (kept before after : List (Arrow A)) (read : Arrow A) → IsAcyclic kept → is_cut_at same kept before read ≡ is_pair_cut same kept (before ++ read ∷ after) read
  cut_by_pair kept before after read acyclic =
      same_from_decides _ _ (test_decides kept before after read acyclic)
      (pair_decides kept (before ++ read ∷ after) read acyclic (Contains-append_right before (read ∷ after) read (element_first read after)))

  pub cut_alike : (kept rest before after before_other after_other : List (Arrow A)) (read other : Arrow A) → IsAcyclic kept → rest ≡ before ++ read ∷ after → rest ≡ before_other ++ other ∷ after_other → read.source ≡ other.source → read.reader ≡ other.reader → is_cut_at same kept before read ≡ is_cut_at same kept before_other other
  cut_alike kept rest before after before_other after_other read other acyclic p q s r =
      cut_by_pair kept before after read acyclic
      ∙ ap (λ l. is_pair_cut same kept l read) (sym p ∙ q)
      ∙ ap (λ z. list_any (λ a. same a.source z && same a.reader read.reader) cuts) s
      ∙ ap (λ z. list_any (λ a. same a.source other.source && same a.reader z) cuts) r
      ∙ sym (cut_by_pair kept before_other after_other other acyclic)
    where
      cuts : List (Arrow A)
      cuts = cuts_from same kept (before_other ++ other ∷ after_other)

  -- ---- both lists, by what is kept in the end

  closes_still : (kept all : List (Arrow A)) (a : Arrow A) → IsPart kept all → closes_cycle same kept a ≡ true → closes_cycle same all a ≡ true
  closes_still kept all a part t = leads_within_whole same equal kept all part a.source a.reader t

  closes_none : (all : List (Arrow A)) (a : Arrow A) → IsAcyclic all → Contains all a → closes_cycle same all a ≡ false
  closes_none all a acyclic e = false_from_ne_true _ (λ t. acyclic a e ((leads_decides same equal all a.source a.reader).0 t))

  acyclic_open : (kept : List (Arrow A)) (a : Arrow A) → IsAcyclic kept → closes_cycle same kept a ≡ false → IsAcyclic (kept ++ a ∷ [])
  acyclic_open kept a acyclic f = (acyclic_one_more_iff same equal kept a acyclic).1 f

  -- the cuts are the reads to come that close a cycle with all that is kept in the end, and the others are kept
  pub split : (kept rest : List (Arrow A)) → IsAcyclic kept → IsSplit same kept rest (kept_after same kept rest) (cuts_from same kept rest)
  split kept rest acyclic =
      (by_cut same (λ kept rest all cuts. IsAcyclic kept → IsPart kept all × IsAcyclic all × IsSplit same kept rest all cuts)
      (λ kept acyclic. (λ read e. e, acyclic, (refl, sym (append-nil kept))))
      (λ kept a rest all cuts t h acyclic. let l = h acyclic in (l.0, l.1, split_cut same kept a rest all cuts (closes_still kept all a l.0 t) l.2))
      (λ kept a rest all cuts f h acyclic. let l = h (acyclic_open kept a acyclic f) in (
        part_old kept a all l.0,
        l.1,
        split_kept same kept a rest all cuts (closes_none all a l.1 (part_more kept a all l.0)) l.2,
      ))
      kept rest acyclic).2

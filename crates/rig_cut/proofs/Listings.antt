-- Which reads are kept while the references are tested in order, and at the end.
use Rattle.std.specs.Prelude.{slice_index, nat_eq, Contains}
use Rattle.std.proofs.Common.{◌≡◌, ℕ, ◌+◌, ◌-◌, ◌<◌, ◌≤◌, ◌&&◌, Bool, true, false, not, List, ◌∷◌, ◌++◌, length, map, filter, take, drop, get_or, sym, ap, ◌∙◌, subst, arith, inr, ⊎_elim}
use Rattle.std.proofs.lemmas.Bool.{cases_Bool, cases_lt, both_ways, not-true}
use Rattle.std.proofs.lemmas.Bool.Decides.{Decides-eqb}
use Rattle.std.proofs.lemmas.List.{append_assoc, map-append, length-map, length-take-le, length-drop, take-append-drop, drop_more, get_or_default, get_or-map, get_or_append_left, get_or-append_right, get_or-take, get_or-drop}
use Rattle.std.proofs.lemmas.List.Elements.{filter-append, Contains-get_or}
use Rattle.rig_cycles.specs.Cut.{Arrow, kept_after}
use Rattle.rig_cycles.specs.Pair.{is_pair_cut}
use Rattle.rig_cycles.specs.Walk.{IsAcyclic, IsPart}
use Rattle.rig_cycles.specs.Acyclic.{acyclic_part, acyclic_kept_after}
use Rattle.rig_cycles.specs.Elements.{element_map, element_kept, element_of_kept, kept_passes}
use Rattle.rig_cycles.specs.CutSteps.{kept_stays, kept_is_tested}
use Rattle.rig_cycles.specs.CutAlike.{cut_by_pair, kept_no_pair, kept_where_no_pair}
use Rattle.rig_cut.specs.declared.links.Link.{Link}
use Rattle.rig_cut.specs.Links.{arrow_of, inner_of, references_of, is_cut, kept_of}
use Rattle.rig_cut.specs.Graphs.{ends_of_links, IsListing, flag}

-- ---- links by their indices

abbrev pub no_link : Link
no_link = record { source = 0; reader = 0; reference = false }

abbrev pub link_at : List Link → ℕ → Link
link_at links j = get_or links j no_link

pub index_in_map : {X Y : Type 0} (f : X → Y) (xs : List X) (d : X) (y : Y) → Contains (map f xs) y → (j : ℕ) × (j < length xs) × (f (get_or xs j d) ≡ y)
index_in_map f xs d y e =
    let h : e.0 < length xs = omega (arith, e.1, length-map xs f) in
    (e.0, h, sym (get_or-map f xs e.0 d y h) ∙ e.2)

pub source_at : (links : List Link) (j : ℕ) → j < length links → slice_index (map (λ l. l.source) links) j ≡ (link_at links j).source
source_at links j h = get_or-map (λ l. l.source) links j no_link 0 h

pub reader_at : (links : List Link) (j : ℕ) → j < length links → slice_index (map (λ l. l.reader) links) j ≡ (link_at links j).reader
reader_at links j h = get_or-map (λ l. l.reader) links j no_link 0 h

arrow_at : (links : List Link) (j : ℕ) → j < length links → Contains (map arrow_of links) (arrow_of (link_at links j))
arrow_at links j h = element_map arrow_of links (link_at links j) (Contains-get_or links j no_link h)

-- what is asked of reads, where each is that of a link
pub listing_of : (nodes : ℕ) (links : List Link) (cuts : List Bool) (reads : List (Arrow ℕ)) →
    ((read : Arrow ℕ) → Contains reads read → (j : ℕ) × (j < length links) × (flag cuts j ≡ false) × (arrow_of (link_at links j) ≡ read)) →
    ((j : ℕ) → j < length links → flag cuts j ≡ false → Contains reads (arrow_of (link_at links j))) →
    IsListing (ends_of_links nodes links) cuts reads
listing_of nodes links cuts reads each kept = record {
  of = λ read e.
      let link = each read e in
      (link.0, omega (arith, link.1, length-map links (λ l. l.source)), link.2, source_at links link.0 link.1 ∙ ap (λ a. a.source) link.3, reader_at links link.0 link.1 ∙ ap (λ a. a.reader) link.3);
  has = λ j h f.
      let below : j < length links = omega (arith, length-map links (λ l. l.source)) in
      (arrow_of (link_at links j), kept j below f, sym (source_at links j below), sym (reader_at links j below));
}

-- ---- the pair of a read that was tested already

at_index : (xs : List (Arrow ℕ)) (k : ℕ) (a : Arrow ℕ) → k < length xs → get_or xs k a ≡ a → xs ≡ take k xs ++ a ∷ drop (k + 1) xs
at_index xs k a h e = sym (take-append-drop k xs) ∙ ap (λ l. take k xs ++ l) (drop_more xs k a h ∙ ap (λ z. z ∷ drop (k + 1) xs) e)

pub pair_of_tested : (kept xs ys : List (Arrow ℕ)) (a : Arrow ℕ) → IsAcyclic kept → Contains xs a → is_pair_cut nat_eq kept (xs ++ ys) a ≡ is_pair_cut nat_eq kept xs a
pair_of_tested kept xs ys a acyclic e =
    let split = at_index xs e.0 a e.1 e.2 in
    let before = take e.0 xs in
    let after = drop (e.0 + 1) xs in
    ap (λ l. is_pair_cut nat_eq kept l a) (ap (λ l. l ++ ys) split ∙ append_assoc before (a ∷ after) ys)
    ∙ sym (cut_by_pair nat_eq Decides-eqb kept before (after ++ ys) a acyclic)
    ∙ cut_by_pair nat_eq Decides-eqb kept before after a acyclic
    ∙ ap (λ l. is_pair_cut nat_eq kept l a) (sym split)

-- ---- the references of the first links

pub references_split : (links : List Link) (i : ℕ) → references_of links ≡ references_of (take i links) ++ references_of (drop i links)
references_split links i =
    ap references_of (sym (take-append-drop i links))
    ∙ ap (λ l. filter (λ a. a.is_reference) l) (map-append arrow_of (take i links) (drop i links))
    ∙ filter-append (λ a. a.is_reference) (map arrow_of (take i links)) (map arrow_of (drop i links))

inner_at : (links : List Link) (j : ℕ) → j < length links → (link_at links j).reference ≡ false → Contains (inner_of links) (arrow_of (link_at links j))
inner_at links j h f = element_kept (λ a. not a.is_reference) (map arrow_of links) (arrow_of (link_at links j)) (arrow_at links j h) (ap not f)

before_at : (links : List Link) (i j : ℕ) → i ≤ length links → j < i → (link_at links j).reference ≡ true → Contains (references_of (take i links)) (arrow_of (link_at links j))
before_at links i j l h t =
    let below : j < length (take i links) = omega (arith, length-take-le i links l) in
    let same = get_or-take i links j no_link h in
    subst (λ z. Contains (references_of (take i links)) (arrow_of z)) same
    (element_kept (λ a. a.is_reference) (map arrow_of (take i links)) (arrow_of (link_at (take i links) j)) (arrow_at (take i links) j below) (ap (λ z. z.reference) same ∙ t))

-- a link that is no reference isn't cut
pub inner_kept : (links : List Link) (l : Link) → l.reference ≡ false → is_cut links l ≡ false
inner_kept links l f = ap (λ b. b && is_pair_cut nat_eq (inner_of links) (references_of links) (arrow_of l)) f

pub reference_cut : (links : List Link) (l : Link) → l.reference ≡ true → is_cut links l ≡ is_pair_cut nat_eq (inner_of links) (references_of links) (arrow_of l)
reference_cut links l t = ap (λ b. b && is_pair_cut nat_eq (inner_of links) (references_of links) (arrow_of l)) t

-- ---- at a test

-- which links are cut among the first, and which are references among the others
abbrev pub flags_at : List Link → ℕ → List Bool
flags_at links i = map (is_cut links) (take i links) ++ map (λ l. l.reference) (drop i links)

-- what is kept of the first
abbrev pub kept_at : List Link → ℕ → List (Arrow ℕ)
kept_at links i = kept_after nat_eq (inner_of links) (references_of (take i links))

module _ (links : List Link) (acyclic : IsAcyclic (inner_of links)) (i : ℕ) (within : i ≤ length links) where
  pub first_length : length (map (is_cut links) (take i links)) ≡ i
  first_length = length-map (take i links) (is_cut links) ∙ length-take-le i links within

  flag_before : (j : ℕ) → j < i → flag (flags_at links i) j ≡ is_cut links (link_at links j)
  flag_before j h =
      get_or_append_left (map (is_cut links) (take i links)) (map (λ l. l.reference) (drop i links)) false j (omega (arith, first_length))
      ∙ get_or-map (is_cut links) (take i links) j no_link false (omega (arith, length-take-le i links within))
      ∙ ap (is_cut links) (get_or-take i links j no_link h)

  flag_after : (j : ℕ) → i ≤ j → j < length links → flag (flags_at links i) j ≡ (link_at links j).reference
  flag_after j h l =
      get_or-append_right (map (is_cut links) (take i links)) (map (λ z. z.reference) (drop i links)) i j false first_length h
      ∙ get_or-map (λ z. z.reference) (drop i links) (j - i) no_link false (omega (arith, length-drop i links))
      ∙ ap (λ z. z.reference) (get_or-drop i links (j - i) no_link ∙ ap (link_at links) (let e : i + (j - i) ≡ j = omega arith in e))

  flag_inner : (j : ℕ) → j < length links → (link_at links j).reference ≡ false → flag (flags_at links i) j ≡ false
  flag_inner j h f = ⊎_elim
      (λ l. flag_before j l ∙ inner_kept links (link_at links j) f)
      (λ l. flag_after j l h ∙ f)
      (cases_lt j i)

  -- a reference before the test is cut exactly where its pair is among the cuts so far
  before_cut : (j : ℕ) → j < i → (link_at links j).reference ≡ true → is_cut links (link_at links j) ≡ is_pair_cut nat_eq (inner_of links) (references_of (take i links)) (arrow_of (link_at links j))
  before_cut j h t =
      reference_cut links (link_at links j) t
      ∙ ap (λ l. is_pair_cut nat_eq (inner_of links) l (arrow_of (link_at links j))) (references_split links i)
      ∙ pair_of_tested (inner_of links) (references_of (take i links)) (references_of (drop i links)) (arrow_of (link_at links j)) acyclic (before_at links i j within h t)

  pub listing_at : (nodes : ℕ) → IsListing (ends_of_links nodes links) (flags_at links i) (kept_at links i)
  listing_at nodes = listing_of nodes links (flags_at links i) (kept_at links i) each kept
    where
      each : (read : Arrow ℕ) → Contains (kept_at links i) read → (j : ℕ) × (j < length links) × (flag (flags_at links i) j ≡ false) × (arrow_of (link_at links j) ≡ read)
      each read e = ⊎_elim
          (λ c.
          let of = index_in_map arrow_of links no_link read (element_of_kept (λ a. not a.is_reference) (map arrow_of links) read c) in
          (of.0, of.1, flag_inner of.0 of.1 (ap (λ a. a.is_reference) of.2 ∙ not-true _ (kept_passes (λ a. not a.is_reference) (map arrow_of links) read c)), of.2))
          (λ c.
          let of = index_in_map arrow_of (take i links) no_link read (element_of_kept (λ a. a.is_reference) (map arrow_of (take i links)) read c) in
          let h : of.0 < i = omega (arith, of.1, length-take-le i links within) in
          let is : arrow_of (link_at links of.0) ≡ read = ap arrow_of (sym (get_or-take i links of.0 no_link h)) ∙ of.2 in
          let t = ap (λ a. a.is_reference) is ∙ kept_passes (λ a. a.is_reference) (map arrow_of (take i links)) read c in (
            of.0,
            omega arith,
            flag_before of.0 h ∙ before_cut of.0 h t ∙ ap (is_pair_cut nat_eq (inner_of links) (references_of (take i links))) is ∙ kept_no_pair nat_eq Decides-eqb (inner_of links) (references_of (take i links)) read acyclic e,
            is,
          ))
          (kept_is_tested nat_eq (inner_of links) (references_of (take i links)) read e)

      kept : (j : ℕ) → j < length links → flag (flags_at links i) j ≡ false → Contains (kept_at links i) (arrow_of (link_at links j))
      kept j h f = ⊎_elim
          (λ t. ⊎_elim
          (λ l. (kept_where_no_pair nat_eq Decides-eqb (inner_of links) (references_of (take i links)) (arrow_of (link_at links j)) acyclic (inr (before_at links i j within l t))).1
          (sym (before_cut j l t) ∙ sym (flag_before j l) ∙ f))
          (λ l. absurd (both_ways _ f (flag_after j l h ∙ t)))
          (cases_lt j i))
          (λ g. kept_stays nat_eq (inner_of links) (references_of (take i links)) (arrow_of (link_at links j)) (inner_at links j h g))
          (cases_Bool (link_at links j).reference)

-- ---- at the end

pub listing_end : (links : List Link) (nodes : ℕ) → IsListing (ends_of_links nodes links) (map (is_cut links) links) (kept_of links)
listing_end links nodes = listing_of nodes links (map (is_cut links) links) (kept_of links) each kept
  where
    flag_at : (j : ℕ) → j < length links → flag (map (is_cut links) links) j ≡ is_cut links (link_at links j)
    flag_at j h = get_or-map (is_cut links) links j no_link false h

    each : (read : Arrow ℕ) → Contains (kept_of links) read → (j : ℕ) × (j < length links) × (flag (map (is_cut links) links) j ≡ false) × (arrow_of (link_at links j) ≡ read)
    each read e =
        let of = index_in_map arrow_of (filter (λ l. not (is_cut links l)) links) no_link read e in
        let l = link_at (filter (λ l. not (is_cut links l)) links) of.0 in
        let among = Contains-get_or (filter (λ l. not (is_cut links l)) links) of.0 no_link of.1 in
        let at = element_of_kept (λ l. not (is_cut links l)) links l among in
        let is : link_at links at.0 ≡ l = get_or_default links at.0 no_link l at.1 ∙ at.2 in
        (at.0, at.1, flag_at at.0 at.1 ∙ ap (is_cut links) is ∙ not-true _ (kept_passes (λ l. not (is_cut links l)) links l among), ap arrow_of is ∙ of.2)

    kept : (j : ℕ) → j < length links → flag (map (is_cut links) links) j ≡ false → Contains (kept_of links) (arrow_of (link_at links j))
    kept j h f =
        element_map arrow_of (filter (λ l. not (is_cut links l)) links) (link_at links j)
        (element_kept (λ l. not (is_cut links l)) links (link_at links j) (Contains-get_or links j no_link h) (ap not (sym (flag_at j h) ∙ f)))

-- what is kept is part of what is kept in the end, so it makes no cycle
pub kept_acyclic : (links : List Link) → IsAcyclic (inner_of links) → IsAcyclic (kept_of links)
kept_acyclic links acyclic = acyclic_part (kept_of links) (kept_after nat_eq (inner_of links) (references_of links)) part (acyclic_kept_after nat_eq Decides-eqb (inner_of links) (references_of links) acyclic)
  where
    part : IsPart (kept_of links) (kept_after nat_eq (inner_of links) (references_of links))
    part read e =
        let of = index_in_map arrow_of (filter (λ l. not (is_cut links l)) links) no_link read e in
        let l = link_at (filter (λ l. not (is_cut links l)) links) of.0 in
        let among = Contains-get_or (filter (λ l. not (is_cut links l)) links) of.0 no_link of.1 in
        let there = element_map arrow_of links l (element_of_kept (λ l. not (is_cut links l)) links l among) in
        let kept = not-true _ (kept_passes (λ l. not (is_cut links l)) links l among) in
        subst (λ a. Contains (kept_after nat_eq (inner_of links) (references_of links)) a) of.2
        (⊎_elim
        (λ t. (kept_where_no_pair nat_eq Decides-eqb (inner_of links) (references_of links) (arrow_of l) acyclic (inr (element_kept (λ a. a.is_reference) (map arrow_of links) (arrow_of l) there t))).1
        (sym (reference_cut links l t) ∙ kept))
        (λ f. kept_stays nat_eq (inner_of links) (references_of links) (arrow_of l) (element_kept (λ a. not a.is_reference) (map arrow_of links) (arrow_of l) there (ap not f)))
        (cases_Bool l.reference))

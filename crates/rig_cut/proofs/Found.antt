-- What a search along kept links finds.
use Rattle.std.specs.Prelude.{slice_index, nat_eq, Contains}
use Rattle.std.specs.List.{list_any}
use Rattle.std.proofs.Common.{◌≡◌, ◌⊎◌, ◌≢◌, ℕ, ◌+◌, ◌<◌, ◌≤◌, Bool, true, false, not, List, [], ◌∷◌, length, refl, sym, ap, ◌∙◌, subst, arith, inl, inr, ⊎_elim}
use Rattle.std.proofs.lemmas.Bool.{both_ways, cond_both, cases_eq, false_from_ne_true}
use Rattle.std.proofs.lemmas.Bool.Decides.{same_from_decides, Decides-eqb}
use Rattle.std.proofs.lemmas.List.{length-append, get_or_append_left}
use Rattle.std.proofs.lemmas.List.Elements.{All-contains}
use Rattle.rig_cycles.specs.Cut.{Arrow, leads}
use Rattle.rig_cycles.specs.Walk.{Walk}
use Rattle.rig_cycles.specs.Walk.Walk.{none, first}
use Rattle.rig_cycles.specs.Elements.{any_from_element, element_first, element_later, element_cases, element_none}
use Rattle.rig_cycles.specs.Leads.{walk_then, walk_keeps, leads_decides}
use Rattle.rig_rows.specs.Rows.{indices_of}
use Rattle.rig_cut.specs.NodeSets.{Begins, with_node}
use Rattle.rig_cut.specs.Graphs.{GraphEnds, IsListing, flag}
use Rattle.rig_cut.specs.Search.{with_source, with_sources, IsSearched}
use Rattle.rig_cut.proofs.Indices.{row_below, row_key, in_row}
use Rattle.rig_cut.specs.MemberTests.{member_decides, index_of_element, element_at, begins_itself, begins_then, begins_contains, with_node_begins, with_node_has, with_node_of}

module _ (ends : GraphEnds) (cuts : List Bool) where
  -- ---- the sources of a row

  source_begins : (members : List ℕ) (j : ℕ) → Begins members (with_source ends cuts members j)
  source_begins members j =
      cond_both (flag cuts j) members (with_node members (slice_index ends.sources j)) (λ l. Begins members l)
      (λ t. begins_itself members) (λ f. with_node_begins members (slice_index ends.sources j))

  pub sources_begin : (row members : List ℕ) → Begins members (with_sources ends cuts members row)
  sources_begin [] members = begins_itself members
  sources_begin (j ∷ row) members =
      begins_then members (with_source ends cuts members j) (with_sources ends cuts (with_source ends cuts members j) row)
      (source_begins members j) (sources_begin row (with_source ends cuts members j))

  source_has : (members : List ℕ) (j : ℕ) → flag cuts j ≡ false → Contains (with_source ends cuts members j) (slice_index ends.sources j)
  source_has members j kept = rw kept (with_node_has members (slice_index ends.sources j))

  sources_have : (row members : List ℕ) (j : ℕ) → Contains row j → flag cuts j ≡ false → Contains (with_sources ends cuts members row) (slice_index ends.sources j)
  sources_have [] members j e kept = absurd (element_none j e)
  sources_have (k ∷ row) members j e kept = ⊎_elim
      (λ s. begins_contains (with_source ends cuts members k) (with_sources ends cuts (with_source ends cuts members k) row) (slice_index ends.sources j)
      (sources_begin row (with_source ends cuts members k))
      (subst (λ z. Contains (with_source ends cuts members k) (slice_index ends.sources z)) s (source_has members k (subst (λ z. flag cuts z ≡ false) (sym s) kept))))
      (λ c. sources_have row (with_source ends cuts members k) j c kept)
      (element_cases k row j e)

  -- the source of a kept link of a row
  abbrev IsSourceIn : List ℕ → ℕ → Type 0
  IsSourceIn row n = (j : ℕ) × Contains row j × (flag cuts j ≡ false) × (slice_index ends.sources j ≡ n)

  source_of : (members : List ℕ) (j n : ℕ) → Contains (with_source ends cuts members j) n → Contains members n ⊎ ((flag cuts j ≡ false) × (slice_index ends.sources j ≡ n))
  source_of members j n =
      cond_both (flag cuts j) members (with_node members (slice_index ends.sources j)) (λ l. Contains l n → Contains members n ⊎ ((flag cuts j ≡ false) × (slice_index ends.sources j ≡ n)))
      (λ t e. inl e) (λ f e. ⊎_elim (λ c. inl c) (λ s. inr (f, s)) (with_node_of members (slice_index ends.sources j) n e))

  sources_of : (row members : List ℕ) (n : ℕ) → Contains (with_sources ends cuts members row) n → Contains members n ⊎ IsSourceIn row n
  sources_of [] members n e = inl e
  sources_of (j ∷ row) members n e = ⊎_elim
      (λ c. ⊎_elim (λ d. inl d) (λ s. inr (j, element_first j row, s.0, s.1)) (source_of members j n c))
      (λ s. inr (s.0, element_later j row s.0 s.1, s.2, s.3))
      (sources_of row (with_source ends cuts members j) n e)

  -- ---- a turn

  module _ (start : ℕ) (members : List ℕ) (next : ℕ) (searched : IsSearched ends cuts start members next) where
    module _ (same_length : length ends.readers ≡ length ends.sources) (node : ℕ) (row found : List ℕ) (h : next < length members) (at : node ≡ slice_index members next) (row_is : row ≡ indices_of node ends.readers) (found_is : found ≡ with_sources ends cuts members row) where
      begins : Begins members found
      begins = subst (λ l. Begins members l) (sym found_is) (sources_begin row members)

      longer : length members ≤ length found
      longer = omega (arith, ap length begins.1, length-append members begins.0)

      reached_more : (reads : List (Arrow ℕ)) → IsListing ends cuts reads → (n : ℕ) → Contains found n → Walk reads start n
      reached_more reads listing n e = ⊎_elim (λ c. searched.reached reads listing n c) (λ s. from_node s) (sources_of row members n (subst (λ l. Contains l n) found_is e))
        where
          from_node : IsSourceIn row n → Walk reads start n
          from_node s =
              let c = subst (λ l. Contains l s.0) row_is s.1 in
              let below = All-contains (λ k. k < length ends.readers) (indices_of node ends.readers) s.0 (row_below ends.readers node) c in
              let key = row_key ends.readers node s.0 c in
              let read = listing.has s.0 (omega arith) s.2 in
              subst (λ z. Walk reads start z) (read.2 ∙ s.3)
              (walk_then
              (subst (λ z. Walk reads start z) (sym at ∙ sym key ∙ sym read.3) (searched.reached reads listing (slice_index members next) (element_at members next (slice_index members next) h refl)))
              (first read.0 read.1 none))

      done_more : (i : ℕ) → i < next + 1 → (j : ℕ) → j < length ends.sources → flag cuts j ≡ false → slice_index ends.readers j ≡ slice_index found i → Contains found (slice_index ends.sources j)
      done_more i l j below kept e =
          let same : slice_index found i ≡ slice_index members i = ap (λ xs. slice_index xs i) begins.1 ∙ get_or_append_left members begins.0 0 i (omega arith) in
          ⊎_elim
          (λ (s : i ≡ next). subst (λ xs. Contains xs (slice_index ends.sources j)) (sym found_is)
          (sources_have row members j (subst (λ xs. Contains xs j) (sym row_is) (in_row ends.readers node j (omega arith) (e ∙ same ∙ ap (slice_index members) s ∙ sym at))) kept))
          (λ (s : i ≢ next). begins_contains members found (slice_index ends.sources j) begins (searched.done i (omega arith) j below kept (e ∙ same)))
          (cases_eq i next)

      pub searched_more : IsSearched ends cuts start found (next + 1)
      searched_more = record {
        begun = begins_contains members found start begins searched.begun;
        reached = reached_more;
        done = done_more;
        within = let l = longer in omega arith;
      }

    -- ---- at the end

    pub led : (end : ℕ) → (list_any (nat_eq end) members ≡ true) ⊎ (length members ≤ next) → (reads : List (Arrow ℕ)) → IsListing ends cuts reads → list_any (nat_eq end) members ≡ leads nat_eq reads start end
    led end stop reads listing =
        same_from_decides _ _ (λ t. searched.reached reads listing end ((member_decides members end).0 t), walk_member) (leads_decides nat_eq Decides-eqb reads start end)
      where
        keeps : length members ≤ next → (read : Arrow ℕ) → Contains reads read → Contains members read.reader → Contains members read.source
        keeps all read c e =
            let link = listing.of read c in
            let k = index_of_element members read.reader e in
            subst (λ z. Contains members z) link.3 (searched.done k.0 (omega (arith, k.1)) link.0 link.1 link.2 (link.4 ∙ sym k.2))

        walk_member : Walk reads start end → list_any (nat_eq end) members ≡ true
        walk_member w = ⊎_elim (λ t. t) (λ all. (member_decides members end).1 (walk_keeps reads (λ z. Contains members z) (keeps all) w searched.begun)) stop

-- a search begins
pub searched_none : (ends : GraphEnds) (cuts : List Bool) (start : ℕ) → IsSearched ends cuts start (start ∷ []) 0
searched_none ends cuts start = record {
  begun = (0, omega arith, refl);
  reached = λ reads listing n e. ⊎_elim (λ s. subst (λ z. Walk reads start z) s none) (λ c. absurd (element_none n c)) (element_cases start [] n e);
  done = λ i h. absurd (omega arith);
  within = omega arith;
}

-- ---- without a walk

-- where no kept link is of the end, only the end itself leads to it
pub not_led : (ends : GraphEnds) (cuts : List Bool) (start end : ℕ) → start ≢ end
    → ((j : ℕ) → j < length ends.sources → flag cuts j ≡ false → slice_index ends.sources j ≢ end)
    → (reads : List (Arrow ℕ)) → IsListing ends cuts reads → leads nat_eq reads start end ≡ false
not_led ends cuts start end other unread reads listing =
    false_from_ne_true _ (λ t. walk_keeps reads (λ z. z ≢ end) keeps ((leads_decides nat_eq Decides-eqb reads start end).0 t) other refl)
  where
    keeps : (read : Arrow ℕ) → Contains reads read → read.reader ≢ end → read.source ≢ end
    keeps read c d s =
        let link = listing.of read c in
        unread link.0 link.1 link.2 (link.3 ∙ s)

-- no link that is kept is of a node of which no link is kept
pub unread : (ends : GraphEnds) (cuts : List Bool) (node : ℕ) (row : List ℕ) → row ≡ indices_of node ends.sources → list_any (λ j. not (flag cuts j)) row ≡ false
    → (j : ℕ) → j < length ends.sources → flag cuts j ≡ false → slice_index ends.sources j ≢ node
unread ends cuts node row is cut j h kept s =
    both_ways _ cut (any_from_element (λ k. not (flag cuts k)) row j (subst (λ l. Contains l j) (sym is) (in_row ends.sources node j h s)) (ap not kept))

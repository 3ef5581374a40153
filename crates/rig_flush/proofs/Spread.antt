-- What a search from sources to their readers finds.
use Rattle.std.specs.Prelude.{slice_index, nat_eq, Contains}
use Rattle.std.specs.List.{All, list_any, enumerate_from}
use Rattle.std.proofs.Common.{◌≡◌, ◌⊎◌, ◌≢◌, ◌==◌, ◌&&◌, ℕ, ◌+◌, ◌<◌, ◌≤◌, true, false, not, List, [], ◌∷◌, length, map, filter, sym, ap, ◌∙◌, subst, arith, inl, inr, ⊎_elim}
use Rattle.std.proofs.lemmas.Bool.{and_parts, and_from, cases_eq, eqb-true, eq-eqb}
use Rattle.std.proofs.lemmas.Bool.Decides.{same_from_decides, Decides-eqb}
use Rattle.std.proofs.lemmas.List.{length-append, get_or_append_left}
use Rattle.std.proofs.lemmas.List.Elements.{All-contains}
use Rattle.std.proofs.lemmas.Option.{slice_get_within}
use Rattle.rig_cycles.specs.Cut.{Arrow, leads}
use Rattle.rig_cycles.specs.Walk.{Walk}
use Rattle.rig_cycles.specs.Walk.Walk.{none, first}
use Rattle.rig_cycles.specs.Elements.{element_first, element_later, element_cases, element_none, element_map, element_kept, element_of_kept, kept_passes, any_from_element, element_from_any}
use Rattle.rig_cycles.specs.Leads.{leads_decides}
use Rattle.rig_laws.specs.Lists.{Contains-flat_map, element_of_flat_map, element_of_map, All-numbered, All-elements}
use Rattle.rig_cut.specs.MemberTests.{member_decides, index_of_element, element_at, begins_itself, begins_then, begins_contains, with_node_begins, with_node_has, with_node_of}
use Rattle.rig_cut.specs.NodeSets.{Begins, with_node}
use Rattle.rig_links.specs.declared.table.In.{In}
use Rattle.rig_links.specs.Links.{kept_reads, readers_of}
use Rattle.rig_flush.specs.Reach.{is_reached}
use Rattle.rig_flush.specs.Search.{with_nodes, IsSpread}

-- ---- nodes after others

pub with_nodes_begins : (nodes members : List ℕ) → Begins members (with_nodes members nodes)
with_nodes_begins [] members = begins_itself members
with_nodes_begins (n ∷ nodes) members =
    begins_then members (with_node members n) (with_nodes (with_node members n) nodes) (with_node_begins members n) (with_nodes_begins nodes (with_node members n))

pub with_nodes_has : (nodes members : List ℕ) (n : ℕ) → Contains nodes n → Contains (with_nodes members nodes) n
with_nodes_has [] members n e = absurd (element_none n e)
with_nodes_has (m ∷ nodes) members n e = ⊎_elim
    (λ s. begins_contains (with_node members m) (with_nodes (with_node members m) nodes) n (with_nodes_begins nodes (with_node members m))
    (subst (λ z. Contains (with_node members m) z) s (with_node_has members m)))
    (λ c. with_nodes_has nodes (with_node members m) n c)
    (element_cases m nodes n e)

pub with_nodes_of : (nodes members : List ℕ) (n : ℕ) → Contains (with_nodes members nodes) n → Contains members n ⊎ Contains nodes n
with_nodes_of [] members n e = inl e
with_nodes_of (m ∷ nodes) members n e = ⊎_elim
    (λ c. ⊎_elim (λ d. inl d) (λ s. inr (subst (λ z. Contains (m ∷ nodes) z) s (element_first m nodes))) (with_node_of members m n c))
    (λ c. inr (element_later m nodes n c))
    (with_nodes_of nodes (with_node members m) n e)

-- ---- the readers of a number

module _ (rows : List (List In)) where
  abbrev reads_in : ℕ × List In → List (Arrow ℕ)
  reads_in e = map (λ l. record { reader = e.0; source = l.source; is_reference = false }) (filter (λ l. not l.cut) e.1)

  abbrev readers_in : ℕ → ℕ × List In → List ℕ
  readers_in n e = map (λ l. e.0) (filter (λ l. not l.cut && (l.source == n)) e.1)

  reader_listed : (read : Arrow ℕ) → Contains (kept_reads rows) read → Contains (readers_of read.source rows) read.reader
  reader_listed read c =
      let e = element_of_flat_map reads_in (enumerate_from 0 rows) read c in
      let l = element_of_map (λ (l : In). let a : Arrow ℕ = record { reader = e.0.0; source = l.source; is_reference = false } in a) (filter (λ l. not l.cut) e.0.1) read e.2 in
      Contains-flat_map (readers_in read.source) (enumerate_from 0 rows) e.0 read.reader e.1
      (subst (λ z. Contains (readers_in read.source e.0) z) (ap (λ (a : Arrow ℕ). a.reader) l.2)
      (element_map (λ (l : In). e.0.0) (filter (λ l. not l.cut && (l.source == read.source)) e.0.1) l.0
      (element_kept (λ (l : In). not l.cut && (l.source == read.source)) e.0.1 l.0 (element_of_kept (λ (l : In). not l.cut) e.0.1 l.0 l.1)
      (and_from (not l.0.cut) (l.0.source == read.source) (kept_passes (λ (l : In). not l.cut) e.0.1 l.0 l.1) (eq-eqb l.0.source read.source (ap (λ (a : Arrow ℕ). a.source) l.2))))))

  reader_read : (n r : ℕ) → Contains (readers_of n rows) r → (read : Arrow ℕ) × Contains (kept_reads rows) read × (read.source ≡ n) × (read.reader ≡ r) × (r < length rows)
  reader_read n r c =
      let e = element_of_flat_map (readers_in n) (enumerate_from 0 rows) r c in
      let l = element_of_map (λ (l : In). e.0.0) (filter (λ l. not l.cut && (l.source == n)) e.0.1) r e.2 in
      let parts = and_parts (not l.0.cut) (l.0.source == n) (kept_passes (λ (l : In). not l.cut && (l.source == n)) e.0.1 l.0 l.1) in
      let read : Arrow ℕ = record { reader = e.0.0; source = l.0.source; is_reference = false } in
      let within = All-contains (λ e. e.0 < length rows) (enumerate_from 0 rows) e.0 (All-numbered (λ e. e.0 < length rows) rows (λ i x at. slice_get_within rows i x at)) e.1 in (
        read,
        Contains-flat_map reads_in (enumerate_from 0 rows) e.0 read e.1
            (element_map (λ (l : In). let a : Arrow ℕ = record { reader = e.0.0; source = l.source; is_reference = false } in a) (filter (λ l. not l.cut) e.0.1) l.0
            (element_kept (λ (l : In). not l.cut) e.0.1 l.0 (element_of_kept (λ (l : In). not l.cut && (l.source == n)) e.0.1 l.0 l.1) parts.0)),
        eqb-true l.0.source n parts.1,
        l.2,
        subst (λ z. z < length rows) l.2 within,
      )

  pub readers_within : (n : ℕ) → All (λ r. r < length rows) (readers_of n rows)
  readers_within n = All-elements (λ r. r < length rows) (readers_of n rows) (λ r c. (reader_read n r c).4)

  -- ---- a turn

  module _ (start members : List ℕ) (next : ℕ) (spread : IsSpread rows start members next) where
    module _ (node : ℕ) (found : List ℕ) (h : next < length members) (at : node ≡ slice_index members next) (found_is : found ≡ with_nodes members (readers_of node rows)) where
      begins : Begins members found
      begins = subst (λ l. Begins members l) (sym found_is) (with_nodes_begins (readers_of node rows) members)

      reached_more : (n : ℕ) → Contains found n → (t : ℕ) × Contains start t × Walk (kept_reads rows) n t
      reached_more n e = ⊎_elim
          (λ c. spread.reached n c)
          (λ c.
          let read = reader_read node n c in
          let on = spread.reached node (element_at members next node h at) in
          (on.0, on.1, subst (λ z. Walk (kept_reads rows) z on.0) read.3 (first read.0 read.1 (subst (λ z. Walk (kept_reads rows) z on.0) (sym read.2) on.2))))
          (with_nodes_of (readers_of node rows) members n (subst (λ l. Contains l n) found_is e))

      done_more : (i : ℕ) → i < next + 1 → (read : Arrow ℕ) → Contains (kept_reads rows) read → read.source ≡ slice_index found i → Contains found read.reader
      done_more i l read c e =
          let same : slice_index found i ≡ slice_index members i = ap (λ xs. slice_index xs i) begins.1 ∙ get_or_append_left members begins.0 0 i (omega arith) in
          ⊎_elim
          (λ (s : i ≡ next). subst (λ xs. Contains xs read.reader) (sym found_is)
          (with_nodes_has (readers_of node rows) members read.reader
          (subst (λ z. Contains (readers_of z rows) read.reader) (e ∙ same ∙ ap (slice_index members) s ∙ sym at) (reader_listed read c))))
          (λ (s : i ≢ next). begins_contains members found read.reader begins (spread.done i (omega arith) read c (e ∙ same)))
          (cases_eq i next)

      pub spread_more : IsSpread rows start found (next + 1)
      spread_more = record {
        begun = λ n c. begins_contains members found n begins (spread.begun n c);
        reached = reached_more;
        done = done_more;
        within = omega (arith, ap length begins.1, length-append members begins.0);
      }

    -- ---- at the end

    pub spread_whole : length members ≤ next → (n : ℕ) → list_any (nat_eq n) members ≡ is_reached nat_eq (kept_reads rows) start n
    spread_whole all n = same_from_decides _ _ (member_decides members n) (found, led)
      where
        keeps : (read : Arrow ℕ) → Contains (kept_reads rows) read → Contains members read.source → Contains members read.reader
        keeps read c e =
            let k = index_of_element members read.source e in
            spread.done k.0 (omega (arith, k.1)) read c (sym k.2)

        back : {from to : ℕ} → Walk (kept_reads rows) from to → Contains members to → Contains members from
        back none e = e
        back (first read c w) e = keeps read c (back w e)

        found : list_any (leads nat_eq (kept_reads rows) n) start ≡ true → Contains members n
        found t =
            let s = element_from_any (leads nat_eq (kept_reads rows) n) start t in
            back ((leads_decides nat_eq Decides-eqb (kept_reads rows) n s.0).0 s.2) (spread.begun s.0 s.1)

        led : Contains members n → list_any (leads nat_eq (kept_reads rows) n) start ≡ true
        led e =
            let s = spread.reached n e in
            any_from_element (leads nat_eq (kept_reads rows) n) start s.0 s.1 ((leads_decides nat_eq Decides-eqb (kept_reads rows) n s.0).1 s.2)

pub spread_none : (rows : List (List In)) (start : List ℕ) → IsSpread rows start start 0
spread_none rows start = record {
  begun = λ n e. e;
  reached = λ n e. (n, e, none);
  done = λ i h. absurd (omega arith);
  within = omega arith;
}

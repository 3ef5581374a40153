-- What is reached by number is what is reached by operation.
use Rattle.std.specs.Prelude.{slice_get, nat_eq, Contains}
use Rattle.std.specs.Option.{option_map_or, option_map}
use Rattle.std.specs.List.{All, position, enumerate_from, range_with_len}
use Rattle.std.proofs.Common.{◌≡◌, ◌≢◌, ℕ, ◌<◌, ◌≤◌, Bool, true, false, not, cond, List, [], ◌∷◌, ◌++◌, length, map, filter, get_or, Option, Some, None, refl, sym, ap, ◌∙◌, subst, arith, ⊎_elim}
use Rattle.std.proofs.lemmas.Bool.{cases_eq, cases_lt, false_from_ne_true}
use Rattle.std.proofs.lemmas.Bool.Decides.{same_from_decides, Decides-eqb}
use Rattle.std.proofs.lemmas.List.Elements.{All-head, All-tail, All-contains}
use Rattle.std.proofs.lemmas.List.Sorted.{All-permutation}
use Rattle.std.proofs.lemmas.List.Quantifiers.{position-Some}
use Rattle.std.proofs.lemmas.Option.{slice_get-map, slice_get-get_or, slice_get_within, get_or_from_slice_get, same_Some}
use Rattle.rig_cycles.specs.Cut.{Arrow, leads}
use Rattle.rig_cycles.specs.Walk.{Walk}
use Rattle.rig_cycles.specs.Walk.Walk.{none, first}
use Rattle.rig_cycles.specs.Elements.{element_first, element_cases, element_none, element_map, element_kept, element_of_kept, kept_passes, any_from_element, element_from_any}
use Rattle.rig_cycles.specs.Leads.{leads_decides}
use Rattle.rig_laws.specs.Kept.{kept_links}
use Rattle.rig_laws.specs.Lists.{All-numbered, All-below, Contains-flat_map, element_of_flat_map, element_of_map, Contains-numbered, option_map-Some}
use Rattle.rig_links.specs.declared.table.In.{In}
use Rattle.rig_links.specs.Links.{Links, link_named, kept_reads}
use Rattle.rig_links.specs.Numbers.{same_operation}
use Rattle.rig_links.specs.SameOperation.{same_operation-Decides}
use Rattle.rig_cut.specs.Plan.{PlanNode}
use Rattle.rig_cut.specs.Positions.{position_at}
use Rattle.rig_scene.specs.declared.operation.OpId.{OpId}
use Rattle.rig_scene.specs.declared.operation.OpId.TheVariants.{Time}
use Rattle.rig_scene.specs.Found.{Contains-slice_get}
use Rattle.rig_scene.specs.Operations.{InLink, operations, ins}
use Rattle.rig_scene.specs.Pairs.{NoneTwice}
use Rattle.rig_scene.specs.Scene.{SceneRecord}
use Rattle.rig_flush.specs.Reach.{is_reached}
use Rattle.rig_flush.specs.Tables.{AreTablesOf, numbers_of, reached_numbers, places_in, plan_of, operations_at}

-- an element has an index
pub index_of : (ops : List OpId) (op : OpId) → Contains ops op → (n : ℕ) × (slice_get ops n ≡ Some op)
index_of ops op e = (e.0, slice_get-get_or ops e.0 op e.1 ∙ ap Some e.2)

-- and one alone, where nothing stands twice
pub one_index : (ops : List OpId) → NoneTwice ops → (op : OpId) (n m : ℕ) → slice_get ops n ≡ Some op → slice_get ops m ≡ Some op → n ≡ m
one_index ops once op n m at there =
    let same : get_or ops n op ≡ get_or ops m op = get_or_from_slice_get ops n op op at ∙ sym (get_or_from_slice_get ops m op op there) in
    ⊎_elim (λ s. s) (λ (d : n ≢ m). ⊎_elim
    (λ (l : n < m). absurd (once n m op l (slice_get_within ops m op there) same))
    (λ (l : m ≤ n). absurd (once m n op (omega arith) (slice_get_within ops n op at) (sym same)))
    (cases_lt n m)) (cases_eq n m)

-- reads between numbers, and between the operations of these
abbrev pub read_of : ℕ → ℕ → Arrow ℕ
read_of reader source = record { reader = reader; source = source; is_reference = false }

abbrev pub link_of : OpId → OpId → Arrow OpId
link_of reader source = record { reader = reader; source = source; is_reference = false }

module _ (s : SceneRecord) (ops : List OpId) (links : Links) (tables : AreTablesOf s ops links) where
  abbrev rows : List (List In)
  rows = links.ins

  pub is_operation : (n : ℕ) (op : OpId) → slice_get ops n ≡ Some op → slice_get (operations s) n ≡ Some op
  is_operation n op at = subst (λ l. slice_get l n ≡ Some op) tables.same at

  pub is_listed : (n : ℕ) (op : OpId) → slice_get (operations s) n ≡ Some op → slice_get ops n ≡ Some op
  is_listed n op at = subst (λ l. slice_get l n ≡ Some op) (sym tables.same) at

  -- the row of an operation's number
  row_is : (n : ℕ) (row : List In) (op : OpId) → slice_get rows n ≡ Some row → slice_get ops n ≡ Some op → map (link_named (operations s)) row ≡ map Some (ins s op)
  row_is n row op at is = same_Some _ _
      (sym (slice_get-map (map (link_named (operations s))) rows n ∙ ap (option_map (map (link_named (operations s)))) at)
      ∙ ap (λ l. slice_get l n) tables.ins
      ∙ slice_get-map (λ op. map Some (ins s op)) (operations s) n
      ∙ ap (option_map (λ op. map Some (ins s op))) (is_operation n op is))

  abbrev by_row : ℕ × List In → List (Arrow ℕ)
  by_row e = map (λ l. record { reader = e.0; source = l.source; is_reference = false }) (filter (λ l. not l.cut) e.1)

  abbrev by_operation : OpId → List (Arrow OpId)
  by_operation op = map (λ link. record { reader = op; source = link.op; is_reference = false }) (filter (λ link. not link.cut) (ins s op))

  -- ---- a read by number is one by operation

  abbrev ByOperation : Arrow ℕ → Type 0
  ByOperation read =
      (reader : OpId) × (source : OpId) × (slice_get ops read.reader ≡ Some reader) × (slice_get ops read.source ≡ Some source) × Contains (kept_links s) (link_of reader source)

  read_by_operation : (read : Arrow ℕ) → Contains (kept_reads rows) read → ByOperation read
  read_by_operation read c =
      let e = element_of_flat_map by_row (enumerate_from 0 rows) read c in
      let l = element_of_map (λ (l : In). read_of e.0.0 l.source) (filter (λ l. not l.cut) e.0.1) read e.2 in
      let row = All-contains (λ e. slice_get rows e.0 ≡ Some e.1) (enumerate_from 0 rows) e.0 (All-numbered (λ e. slice_get rows e.0 ≡ Some e.1) rows (λ i x at. at)) e.1 in
      let within : e.0.0 < length ops = omega (arith, slice_get_within rows e.0.0 e.0.1 row, tables.fit.rows) in
      let op = get_or ops e.0.0 Time in
      let at = slice_get-get_or ops e.0.0 Time within in
      let named = element_of_map Some (ins s op) (link_named (operations s) l.0)
      (subst (λ ls. Contains ls (link_named (operations s) l.0)) (row_is e.0.0 e.0.1 op row at) (element_map (link_named (operations s)) e.0.1 l.0 (element_of_kept (λ (l : In). not l.cut) e.0.1 l.0 l.1))) in
      let source = option_map-Some (λ op. let link : InLink = record { op = op; cut = l.0.cut } in link) (slice_get (operations s) l.0.source) named.0 (sym named.2) in
      let cut : not named.0.cut ≡ true = ap (λ (i : InLink). not i.cut) (sym source.2) ∙ kept_passes (λ (l : In). not l.cut) e.0.1 l.0 l.1 in
      let has : Contains (kept_links s) (link_of op named.0.op) =
      Contains-flat_map by_operation (operations s) op (link_of op named.0.op) (Contains-slice_get (operations s) e.0.0 op (is_operation e.0.0 op at))
      (element_map (λ (link : InLink). link_of op link.op) (filter (λ link. not link.cut) (ins s op)) named.0 (element_kept (λ (link : InLink). not link.cut) (ins s op) named.0 named.1 cut)) in (
        op,
        named.0.op,
        subst (λ n. slice_get ops n ≡ Some op) (ap (λ (a : Arrow ℕ). a.reader) l.2) at,
        subst (λ n. slice_get ops n ≡ Some named.0.op) (ap (λ (a : Arrow ℕ). a.source) l.2) (is_listed l.0.source named.0.op (source.1 ∙ ap Some (ap (λ (i : InLink). i.op) source.2))),
        has,
      )

  -- ---- and the other way round

  abbrev pub ByNumber : Arrow OpId → Type 0
  ByNumber link =
      (reader : ℕ) × (source : ℕ) × (slice_get ops reader ≡ Some link.reader) × (slice_get ops source ≡ Some link.source) × Contains (kept_reads rows) (read_of reader source)

  pub read_by_number : (link : Arrow OpId) → Contains (kept_links s) link → ByNumber link
  read_by_number link c =
      let e = element_of_flat_map by_operation (operations s) link c in
      let i = element_of_map (λ (i : InLink). link_of e.0 i.op) (filter (λ i. not i.cut) (ins s e.0)) link e.2 in
      let n = index_of (operations s) e.0 e.1 in
      let at = is_listed n.0 e.0 n.1 in
      let within : n.0 < length rows = omega (arith, slice_get_within ops n.0 e.0 at, tables.fit.rows) in
      let row = get_or rows n.0 [] in
      let row_at = slice_get-get_or rows n.0 [] within in
      let l = element_of_map (link_named (operations s)) row (Some i.0)
      (subst (λ ls. Contains ls (Some i.0)) (sym (row_is n.0 row e.0 row_at at)) (element_map Some (ins s e.0) i.0 (element_of_kept (λ (i : InLink). not i.cut) (ins s e.0) i.0 i.1))) in
      let source = option_map-Some (λ op. let link : InLink = record { op = op; cut = l.0.cut } in link) (slice_get (operations s) l.0.source) i.0 l.2 in
      let cut : not l.0.cut ≡ true = ap (λ (i : InLink). not i.cut) source.2 ∙ kept_passes (λ (i : InLink). not i.cut) (ins s e.0) i.0 i.1 in (
        n.0,
        l.0.source,
        at ∙ ap Some (ap (λ (a : Arrow OpId). a.reader) i.2),
        is_listed l.0.source source.0 source.1 ∙ ap Some (ap (λ (i : InLink). i.op) source.2 ∙ ap (λ (a : Arrow OpId). a.source) i.2),
        Contains-flat_map by_row (enumerate_from 0 rows) (n.0, row) (read_of n.0 l.0.source) (Contains-numbered rows n.0 row row_at)
            (element_map (λ (l : In). read_of n.0 l.source) (filter (λ l. not l.cut) row) l.0 (element_kept (λ (l : In). not l.cut) row l.0 l.1 cut)),
      )

  -- ---- walks

  module _ (once : NoneTwice ops) where
    walk_by_operation : {n t : ℕ} → Walk (kept_reads rows) n t → (op : OpId) → slice_get ops n ≡ Some op → (tag : OpId) × (slice_get ops t ≡ Some tag) × Walk (kept_links s) op tag
    walk_by_operation none op at = (op, at, none)
    walk_by_operation (first read e w) op at =
        let b = read_by_operation read e in
        let later = walk_by_operation w b.1 b.3 in
        (later.0, later.1, subst (λ z. Walk (kept_links s) z later.0) (same_Some b.0 op (sym b.2 ∙ at)) (first (link_of b.0 b.1) b.4 later.2))

    walk_by_number : {op tag : OpId} → Walk (kept_links s) op tag → (n : ℕ) → slice_get ops n ≡ Some op → (t : ℕ) × (slice_get ops t ≡ Some tag) × Walk (kept_reads rows) n t
    walk_by_number none n at = (n, at, none)
    walk_by_number (first link e w) n at =
        let b = read_by_number link e in
        let later = walk_by_number w b.1 b.3 in
        (later.0, later.1, subst (λ z. Walk (kept_reads rows) z later.0) (one_index ops once link.reader b.0 n b.2 at) (first (read_of b.0 b.1) b.4 later.2))

    -- ---- what is reached

    module _ (tags : List OpId) where
      -- the numbers are those of tags
      tag_of : (t : ℕ) → Contains (numbers_of ops tags) t → (tag : OpId) × Contains tags tag × (slice_get ops t ≡ Some tag)
      tag_of t c =
          let e = element_of_flat_map (λ tag. option_map_or (λ n. n ∷ []) (position (same_operation tag) ops) []) tags t c in
          (e.0, e.1, at e.0 (position (same_operation e.0) ops) refl e.2)
        where
          at : (tag : OpId) (o : Option ℕ) → position (same_operation tag) ops ≡ o → Contains (option_map_or (λ n. n ∷ []) o []) t → slice_get ops t ≡ Some tag
          at tag None e c = absurd (element_none t c)
          at tag (Some n) e c = ⊎_elim
              (λ (same : n ≡ t).
              let found = position-Some (same_operation tag) ops n tag e in
              ap (slice_get ops) (sym same) ∙ slice_get-get_or ops n tag found.0 ∙ ap Some (sym ((same_operation-Decides tag (get_or ops n tag)).0 found.1)))
              (λ d. absurd (element_none t d))
              (element_cases n [] t c)

      number_of_tag : (t : ℕ) (tag : OpId) → Contains tags tag → slice_get ops t ≡ Some tag → Contains (numbers_of ops tags) t
      number_of_tag t tag c at =
          let within = slice_get_within ops t tag at in
          let here = get_or_from_slice_get ops t tag tag at in
          let is : position (same_operation tag) ops ≡ Some t =
          position_at (same_operation tag) ops t tag within ((same_operation-Decides tag (get_or ops t tag)).1 (sym here))
          (λ k h. false_from_ne_true (same_operation tag (get_or ops k tag)) (λ e. once k t tag h within (sym ((same_operation-Decides tag (get_or ops k tag)).0 e) ∙ sym here))) in
          Contains-flat_map (λ tag. option_map_or (λ n. n ∷ []) (position (same_operation tag) ops) []) tags tag t c
          (subst (λ o. Contains (option_map_or (λ n. n ∷ []) o []) t) (sym is) (element_first t []))

      pub reached_alike : (n : ℕ) (op : OpId) → slice_get ops n ≡ Some op → is_reached nat_eq (kept_reads rows) (numbers_of ops tags) n ≡ is_reached same_operation (kept_links s) tags op
      reached_alike n op at = same_from_decides {P = (tag : OpId) × Contains tags tag × Walk (kept_links s) op tag} _ _ (
        λ r.
            let t = element_from_any (leads nat_eq (kept_reads rows) n) (numbers_of ops tags) r in
            let tag = tag_of t.0 t.1 in
            let w = walk_by_operation ((leads_decides nat_eq Decides-eqb (kept_reads rows) n t.0).0 t.2) op at in
            (tag.0, tag.1, subst (λ z. Walk (kept_links s) op z) (same_Some w.0 tag.0 (sym w.1 ∙ tag.2)) w.2),
        λ p.
            let w = walk_by_number p.2 n at in
            any_from_element (leads nat_eq (kept_reads rows) n) (numbers_of ops tags) w.0 (number_of_tag w.0 p.0 p.1 w.1) ((leads_decides nat_eq Decides-eqb (kept_reads rows) n w.0).1 w.2),
      ) (
        λ r.
            let t = element_from_any (leads same_operation (kept_links s) op) tags r in
            (t.0, t.1, (leads_decides same_operation same_operation-Decides (kept_links s) op t.0).0 t.2),
        λ p. any_from_element (leads same_operation (kept_links s) op) tags p.0 p.1 ((leads_decides same_operation same_operation-Decides (kept_links s) op p.0).1 p.2),
      )

-- a filter of numbers, and of their operations
kept_operations : (ops : List OpId) (p : ℕ → Bool) (q : OpId → Bool) (numbers : List ℕ) → All (λ n. n < length ops) numbers → ((n : ℕ) (op : OpId) → slice_get ops n ≡ Some op → p n ≡ q op) → operations_at ops (filter p numbers) ≡ filter q (operations_at ops numbers)
kept_operations ops p q [] within alike = refl
kept_operations ops p q (n ∷ numbers) within alike =
    let op = get_or ops n Time in
    let at = slice_get-get_or ops n Time (All-head (λ n. n < length ops) n numbers within) in
    let later = kept_operations ops p q numbers (All-tail (λ n. n < length ops) n numbers within) alike in
    by (p n) op at later
    ∙ ap (λ b. cond b (op ∷ filter q (operations_at ops numbers)) (filter q (operations_at ops numbers))) (alike n op at)
    ∙ sym (ap (λ o. filter q (option_map_or (λ op. op ∷ []) o [] ++ operations_at ops numbers)) at)
  where
    by : (b : Bool) (op : OpId) → slice_get ops n ≡ Some op → operations_at ops (filter p numbers) ≡ filter q (operations_at ops numbers)
        → operations_at ops (cond b (n ∷ filter p numbers) (filter p numbers)) ≡ cond b (op ∷ filter q (operations_at ops numbers)) (filter q (operations_at ops numbers))
    by true op at later = ap (λ o. option_map_or (λ op. op ∷ []) o [] ++ operations_at ops (filter p numbers)) at ∙ ap (λ l. op ∷ l) later
    by false op at later = later

-- the numbers of a plan
numbers_back : (table : List (List In)) (plan numbers : List ℕ) → map (λ (n : PlanNode). n.op) (map (λ n. record { op = n; ins = option_map_or (places_in plan) (slice_get table n) [] }) numbers) ≡ numbers
numbers_back table plan [] = refl
numbers_back table plan (n ∷ numbers) = ap (λ l. n ∷ l) (numbers_back table plan numbers)

pub planned_are_reached : (s : SceneRecord) (ops : List OpId) (links : Links) → NoneTwice ops → AreTablesOf s ops links → (tags : List OpId)
    → operations_at ops (map (λ n. n.op) (plan_of links.ins (reached_numbers ops links tags))) ≡ filter (is_reached same_operation (kept_links s) tags) (operations_at ops links.order)
planned_are_reached s ops links once tables tags =
    ap (operations_at ops) (numbers_back links.ins (reached_numbers ops links tags) (reached_numbers ops links tags))
    ∙ kept_operations ops (is_reached nat_eq (kept_reads links.ins) (numbers_of ops tags)) (is_reached same_operation (kept_links s) tags) links.order
    (All-permutation (λ n. n < length ops) (range_with_len 0 (length ops)) links.order tables.fit.order.same_nodes (All-below (λ n. n < length ops) (length ops) (λ k h. h)))
    (λ n op at. reached_alike s ops links tables once tags n op at)

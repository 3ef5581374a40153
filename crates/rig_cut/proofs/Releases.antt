-- Links that are taken from what is pending, one after another.
use Rattle.std.specs.Prelude.{slice_index, slice_set, nat_eq, cond}
use Rattle.std.specs.List.{count_by, list_any, range_with_len}
use Rattle.std.proofs.Common.{◌≡◌, ◌≢◌, ℕ, ◌+◌, ◌-◌, ◌<◌, ◌≤◌, ◌&&◌, Bool, true, false, not, List, [], ◌∷◌, ◌++◌, length, take, sym, ap, ◌∙◌, arith, ⊎_elim}
use Rattle.std.proofs.lemmas.Bool.{eqb-true, eq-eqb, false_from_ne_true, cases_eq}
use Rattle.std.proofs.lemmas.Bool.Decides.{same_from_decides}
use Rattle.std.proofs.lemmas.List.{get_or-set_same, get_or-set_other, get_or_append_left, take_more, length-take-le, take-append-le, take_all, length-append}
use Rattle.std.proofs.lemmas.List.FromFn.{get_or-range_with_len, length-range_with_len}
use Rattle.std.proofs.lemmas.List.Sums.{sum_by_more, sum_by-take-le, count_by-le-length}
use Rattle.rig_rows.specs.Rows.{indices_of}
use Rattle.rig_cut.specs.NodeSets.{Begins, with_node}
use Rattle.rig_cut.specs.Graphs.{GraphEnds, flag}
use Rattle.rig_cut.specs.Release.{is_kept_into, pending_after, AreReady, AreBehindSources, IsReleased}
use Rattle.rig_cut.proofs.Counts.{pending_before, pending_less, nothing_pending}
use Rattle.rig_cut.specs.MemberTests.{member_decides, element_at, with_node_begins, with_node_has, with_node_of, begins_contains}

-- ---- a member more

pub any_same : (members : List ℕ) (node : ℕ) → list_any (nat_eq node) (with_node members node) ≡ true
any_same members node = (member_decides (with_node members node) node).1 (with_node_has members node)

pub any_other : (members : List ℕ) (node n : ℕ) → n ≢ node → list_any (nat_eq n) (with_node members node) ≡ list_any (nat_eq n) members
any_other members node n other =
    same_from_decides _ _ (member_decides (with_node members node) n) (
      λ t. begins_contains members (with_node members node) n (with_node_begins members node) ((member_decides members n).0 t),
      λ e. (member_decides members n).1 (⊎_elim (λ c. c) (λ s. absurd (other (sym s))) (with_node_of members node n e)),
    )

-- ---- which links are kept into a node

module _ (ends : GraphEnds) (cuts : List Bool) (j r : ℕ) (at : slice_index ends.readers j ≡ r) where
  pub kept_here : flag cuts j ≡ false → is_kept_into ends cuts r j ≡ true
  kept_here f = ap (λ b. not b && nat_eq (slice_index ends.readers j) r) f ∙ eq-eqb (slice_index ends.readers j) r at

  pub kept_elsewhere : flag cuts j ≡ false → (n : ℕ) → n ≢ r → is_kept_into ends cuts n j ≡ false
  kept_elsewhere f n other =
      ap (λ b. not b && nat_eq (slice_index ends.readers j) n) f
      ∙ false_from_ne_true _ (λ t. other (sym (eqb-true (slice_index ends.readers j) n t) ∙ at))

pub cut_nowhere : (ends : GraphEnds) (cuts : List Bool) (j n : ℕ) → flag cuts j ≡ true → is_kept_into ends cuts n j ≡ false
cut_nowhere ends cuts j n t = ap (λ b. not b && nat_eq (slice_index ends.readers j) n) t

count_more : (p : ℕ → Bool) (xs : List ℕ) (i x : ℕ) → i < length xs → slice_index xs i ≡ x → (b : Bool) → p x ≡ b → count_by p (take (i + 1) xs) ≡ count_by p (take i xs) + cond b 1 0
count_more p xs i x h e b t = sum_by_more (λ y. cond (p y) 1 0) xs i 0 h ∙ ap (λ n. count_by p (take i xs) + n) (ap (λ y. cond (p y) 1 0) e ∙ ap (λ c. cond c 1 0) t)

-- ---- a link is taken from what is pending

module _ (ends : GraphEnds) (cuts : List Bool) (links : List ℕ) (i j : ℕ) (h : i < length links) (link : slice_index links i ≡ j) (pending initial : List ℕ) (all : length pending ≡ ends.nodes) (counts : (n : ℕ) → n < ends.nodes → slice_index pending n + count_by (is_kept_into ends cuts n) (take i links) ≡ slice_index initial n) where
  pub counts_cut : flag cuts j ≡ true → (n : ℕ) → n < ends.nodes → slice_index pending n + count_by (is_kept_into ends cuts n) (take (i + 1) links) ≡ slice_index initial n
  counts_cut t n node =
      let more = count_more (is_kept_into ends cuts n) links i j h link false (cut_nowhere ends cuts j n t) in
      let before = counts n node in
      omega arith

  module _ (r : ℕ) (at : slice_index ends.readers j ≡ r) (reader : r < ends.nodes) (kept : flag cuts j ≡ false) where
    pub is_pending : ((n : ℕ) → n < ends.nodes → count_by (is_kept_into ends cuts n) links ≤ slice_index initial n) → 1 ≤ slice_index pending r
    is_pending enough =
        let more = count_more (is_kept_into ends cuts r) links i j h link true (kept_here ends cuts j r at kept) in
        let before = counts r reader in
        let whole = enough r reader in
        let part = sum_by-take-le (λ y. cond (is_kept_into ends cuts r y) 1 0) links (i + 1) in
        omega arith

    pub counts_kept : 1 ≤ slice_index pending r → (n : ℕ) → n < ends.nodes → slice_index (slice_set pending r (slice_index pending r - 1)) n + count_by (is_kept_into ends cuts n) (take (i + 1) links) ≡ slice_index initial n
    counts_kept positive n node = ⊎_elim
        (λ (s : n ≡ r).
        let here = ap (λ z. slice_index (slice_set pending r (slice_index pending r - 1)) z) s ∙ get_or-set_same pending r (slice_index pending r - 1) 0 (omega arith) in
        let more = count_more (is_kept_into ends cuts n) links i j h link true (kept_here ends cuts j n (at ∙ sym s) kept) in
        let before = counts n node in
        let same = ap (slice_index pending) s in
        omega arith)
        (λ (s : n ≢ r).
        let there = get_or-set_other pending r n (slice_index pending r - 1) 0 s in
        let more = count_more (is_kept_into ends cuts n) links i j h link false (kept_elsewhere ends cuts j r at kept n s) in
        let before = counts n node in
        omega arith)
        (cases_eq n r)

-- ---- the members are still those for which nothing is pending

module _ (nodes : ℕ) (pending members : List ℕ) (r p : ℕ) (reader : r < length pending) (ready : AreReady nodes pending members) where
  pub ready_none : p ≡ 0 → AreReady nodes (slice_set pending r p) (with_node members r)
  ready_none e n node = ⊎_elim
      (λ (s : n ≡ r).
      ap (λ z. list_any (nat_eq z) (with_node members r)) s ∙ any_same members r
      ∙ sym (eq-eqb _ 0 (ap (λ z. slice_index (slice_set pending r p) z) s ∙ get_or-set_same pending r p 0 reader ∙ e)))
      (λ (s : n ≢ r). any_other members r n s ∙ ready n node ∙ ap (λ z. nat_eq z 0) (sym (get_or-set_other pending r n p 0 s)))
      (cases_eq n r)

  pub ready_some : r < nodes → 1 ≤ slice_index pending r → p ≢ 0 → AreReady nodes (slice_set pending r p) members
  ready_some below positive more n node = ⊎_elim
      (λ (s : n ≡ r).
      ap (λ z. list_any (nat_eq z) members) s ∙ ready r below
      ∙ false_from_ne_true _ (λ t. let zero = eqb-true (slice_index pending r) 0 t in omega arith)
      ∙ sym (false_from_ne_true _ (λ t. more (sym (ap (λ z. slice_index (slice_set pending r p) z) s ∙ get_or-set_same pending r p 0 reader) ∙ eqb-true _ 0 t))))
      (λ (s : n ≢ r). ready n node ∙ ap (λ z. nat_eq z 0) (sym (get_or-set_other pending r n p 0 s)))
      (cases_eq n r)

-- ---- a node is done

module _ (ends : GraphEnds) (cuts : List Bool) (pending members : List ℕ) (next : ℕ) (released : IsReleased ends cuts pending members next) (node : ℕ) (h : next < length members) (at : node ≡ slice_index members next) (below : node < ends.nodes) (once : list_any (nat_eq node) (take next members) ≡ false) (row : List ℕ) (row_is : row ≡ indices_of node ends.sources) where
  less : (n : ℕ) → n < ends.nodes → slice_index pending n ≡ pending_after ends cuts (take next members ++ node ∷ []) n + count_by (is_kept_into ends cuts n) row
  less n l =
      released.counts n l ∙ pending_less ends cuts (take next members) node n once
      ∙ ap (λ r. pending_after ends cuts (take next members ++ node ∷ []) n + count_by (is_kept_into ends cuts n) r) (sym row_is)

  pub enough : (n : ℕ) → n < ends.nodes → count_by (is_kept_into ends cuts n) row ≤ slice_index pending n
  enough n l = let e = less n l in omega arith

  module _ (pending_new members_new : List ℕ) (taken : (n : ℕ) → n < ends.nodes → slice_index pending_new n + count_by (is_kept_into ends cuts n) row ≡ slice_index pending n) (ready : AreReady ends.nodes pending_new members_new) (begins : Begins members members_new) where
    longer : length members ≤ length members_new
    longer = omega (arith, ap length begins.1, length-append members begins.0)

    same_take : (i : ℕ) → i ≤ length members → take i members_new ≡ take i members
    same_take i l = ap (take i) begins.1 ∙ take-append-le i members begins.0 l

    same_at : (i : ℕ) → i < length members → slice_index members_new i ≡ slice_index members i
    same_at i l = ap (λ xs. slice_index xs i) begins.1 ∙ get_or_append_left members begins.0 0 i l

    done : take (next + 1) members_new ≡ take next members ++ node ∷ []
    done = same_take (next + 1) (omega arith) ∙ take_more members next 0 h ∙ ap (λ z. take next members ++ z ∷ []) (sym at)

    nothing : slice_index pending node ≡ 0
    nothing = eqb-true (slice_index pending node) 0 (sym (released.ready node below) ∙ (member_decides members node).1 (element_at members next node h at))

    behind : AreBehindSources ends cuts members_new (next + 1)
    behind i l j link kept reader = ⊎_elim
        (λ (s : i ≡ next).
        let is : slice_index ends.readers j ≡ node = reader ∙ same_at i (omega arith) ∙ ap (slice_index members) s ∙ sym at in
        ap (λ xs. list_any (nat_eq (slice_index ends.sources j)) xs) (same_take i (omega arith) ∙ ap (λ k. take k members) s)
        ∙ nothing_pending ends cuts (take next members) node j (sym (released.counts node below) ∙ nothing) link (kept_here ends cuts j node is kept))
        (λ (s : i ≢ next).
        ap (λ xs. list_any (nat_eq (slice_index ends.sources j)) xs) (same_take i (omega arith))
        ∙ released.behind i (omega arith) j link kept (reader ∙ same_at i (omega arith)))
        (cases_eq i next)

    pub released_more : IsReleased ends cuts pending_new members_new (next + 1)
    released_more = record {
      counts = λ n l.
          let e = less n l in
          let t = taken n l in
          let now : slice_index pending_new n ≡ pending_after ends cuts (take next members ++ node ∷ []) n = omega arith in
          now ∙ ap (λ d. pending_after ends cuts d n) (sym done);
      ready = ready;
      behind = behind;
      within = let l = longer in omega arith;
    }

-- ---- the counts at the start

module _ (ends : GraphEnds) (cuts : List Bool) (i : ℕ) (h : i < length ends.sources) (pending : List ℕ) (all : length pending ≡ ends.nodes) (counts : (n : ℕ) → n < ends.nodes → slice_index pending n ≡ count_by (is_kept_into ends cuts n) (take i (range_with_len 0 (length ends.sources)))) where
  range_long : i < length (range_with_len 0 (length ends.sources))
  range_long = omega (arith, length-range_with_len 0 (length ends.sources))

  at_range : slice_index (range_with_len 0 (length ends.sources)) i ≡ i
  at_range = get_or-range_with_len 0 (length ends.sources) i 0 h ∙ (let e : 0 + i ≡ i = omega arith in e)

  pub count_fits : (n : ℕ) → n < ends.nodes → slice_index pending n ≤ i
  count_fits n node =
      let range = range_with_len 0 (length ends.sources) in
      let e = counts n node in
      omega (arith, count_by-le-length (is_kept_into ends cuts n) (take i range), length-take-le i range (omega (arith, range_long)))

  pub counted_cut : flag cuts i ≡ true → (n : ℕ) → n < ends.nodes → slice_index pending n ≡ count_by (is_kept_into ends cuts n) (take (i + 1) (range_with_len 0 (length ends.sources)))
  counted_cut t n node =
      let more = count_more (is_kept_into ends cuts n) (range_with_len 0 (length ends.sources)) i i range_long at_range false (cut_nowhere ends cuts i n t) in
      let before = counts n node in
      omega arith

  pub counted_kept : (r : ℕ) → slice_index ends.readers i ≡ r → r < ends.nodes → flag cuts i ≡ false → (n : ℕ) → n < ends.nodes → slice_index (slice_set pending r (slice_index pending r + 1)) n ≡ count_by (is_kept_into ends cuts n) (take (i + 1) (range_with_len 0 (length ends.sources)))
  counted_kept r at reader kept n node = ⊎_elim
      (λ (s : n ≡ r).
      let here = ap (λ z. slice_index (slice_set pending r (slice_index pending r + 1)) z) s ∙ get_or-set_same pending r (slice_index pending r + 1) 0 (omega arith) in
      let more = count_more (is_kept_into ends cuts n) (range_with_len 0 (length ends.sources)) i i range_long at_range true (kept_here ends cuts i n (at ∙ sym s) kept) in
      let before = counts n node in
      let same = ap (slice_index pending) s in
      omega arith)
      (λ (s : n ≢ r).
      let there = get_or-set_other pending r n (slice_index pending r + 1) 0 s in
      let more = count_more (is_kept_into ends cuts n) (range_with_len 0 (length ends.sources)) i i range_long at_range false (kept_elsewhere ends cuts i r at kept n s) in
      let before = counts n node in
      omega arith)
      (cases_eq n r)

pub counted_all : (ends : GraphEnds) (cuts : List Bool) (n : ℕ) → count_by (is_kept_into ends cuts n) (take (length ends.sources) (range_with_len 0 (length ends.sources))) ≡ pending_after ends cuts [] n
counted_all ends cuts n =
    ap (λ l. count_by (is_kept_into ends cuts n) l) (take_all (length ends.sources) (range_with_len 0 (length ends.sources)) (omega (arith, length-range_with_len 0 (length ends.sources))))
    ∙ sym (pending_before ends cuts n)

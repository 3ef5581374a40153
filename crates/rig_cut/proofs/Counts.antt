-- How many kept links into a node are pending.
use Rattle.std.specs.Prelude.{slice_index, nat_eq, Contains, cond}
use Rattle.std.specs.List.{All, count_by, list_any, range_with_len, enumerate_from}
use Rattle.std.proofs.Common.{◌≡◌, ℕ, suc, ◌+◌, ◌<◌, ◌≤◌, ◌==◌, ◌&&◌, ◌||◌, Bool, true, false, not, List, [], ◌∷◌, ◌++◌, length, map, filter, get_or, refl, sym, ap, ◌∙◌, subst, arith}
use Rattle.std.proofs.lemmas.Bool.{eqb-true, both_ways, cond_both}
use Rattle.std.proofs.lemmas.List.{get_or_default}
use Rattle.std.proofs.lemmas.List.Folds.{list_any-append}
use Rattle.std.proofs.lemmas.List.FromFn.{get_or-enumerate_from, length-enumerate_from}
use Rattle.std.proofs.lemmas.List.Sums.{sum_by-cons, get_or-le-sum_by}
use Rattle.rig_rows.specs.Rows.{indices_of}
use Rattle.rig_cut.specs.Graphs.{GraphEnds}
use Rattle.rig_cut.specs.Release.{is_kept_into, pending_after}

-- ---- counts

-- what an element that passes or fails counts
abbrev pub one : Bool → ℕ
one b = cond b 1 0

-- what is counted in two parts
count_parts : {X : Type 0} (p q r : X → Bool) → ((x : X) → one (p x) ≡ one (q x) + one (r x)) → (xs : List X) → count_by p xs ≡ count_by q xs + count_by r xs
count_parts p q r h [] = refl
count_parts p q r h (x ∷ xs) =
    let now = h x in
    let later = count_parts p q r h xs in
    omega (arith, sum_by-cons (λ x. one (p x)) x xs, sum_by-cons (λ x. one (q x)) x xs, sum_by-cons (λ x. one (r x)) x xs)

-- where nothing is counted, each element fails, and the other way round
pub none_counted : {X : Type 0} (p : X → Bool) (xs : List X) (x : X) → count_by p xs ≡ 0 → Contains xs x → p x ≡ false
none_counted p xs x h e =
    let least : one (p x) ≤ 0 = subst (λ n. one (p x) ≤ n) h (subst (λ z. one (p z) ≤ count_by p xs) e.2 (get_or-le-sum_by (λ x. one (p x)) xs e.0 x e.1)) in
    fails (p x) least
  where
    fails : (b : Bool) → one b ≤ 0 → b ≡ false
    fails true l = absurd (omega arith)
    fails false l = refl

pub count_none : {X : Type 0} (p : X → Bool) (xs : List X) → All (λ x. p x ≡ false) xs → count_by p xs ≡ 0
count_none p [] h = refl
count_none p (x ∷ xs) h =
    let now : one (p x) ≡ 0 = ap one (h 0 x (omega arith)) in
    let later = count_none p xs (λ k d l. h (suc k) d (omega arith)) in
    omega (arith, sum_by-cons (λ x. one (p x)) x xs)

-- ---- entries of a list with their indices

count_of_entries : (g : ℕ → Bool) (k : ℕ) (xs : List ℕ) → count_by (λ (e : ℕ × ℕ). g e.0 && true) (enumerate_from k xs) ≡ count_by g (range_with_len k (length xs))
count_of_entries g k [] = refl
count_of_entries g k (x ∷ xs) =
    let later = count_of_entries g (k + 1) xs in
    let same : one (g k && true) ≡ one (g k) = ap one (and_true (g k)) in
    omega (arith, sum_by-cons (λ (e : ℕ × ℕ). one (g e.0 && true)) (k, x) (enumerate_from (k + 1) xs), sum_by-cons (λ j. one (g j)) k (range_with_len (k + 1) (length xs)))
  where
    and_true : (b : Bool) → (b && true) ≡ b
    and_true true = refl
    and_true false = refl

count_of_kept : (g : ℕ → Bool) (s : ℕ) (es : List (ℕ × ℕ)) → count_by g (map (λ e. e.0) (filter (λ e. e.1 == s) es)) ≡ count_by (λ e. g e.0 && nat_eq e.1 s) es
count_of_kept g s [] = refl
count_of_kept g s (e ∷ es) =
    let later = count_of_kept g s es in
    cond_both (e.1 == s) (e ∷ filter (λ e. e.1 == s) es) (filter (λ e. e.1 == s) es) (λ l. count_by g (map (λ e. e.0) l) ≡ count_by (λ e. g e.0 && nat_eq e.1 s) (e ∷ es))
    (λ t. let same = and_true (g e.0) (nat_eq e.1 s) t in
    omega (arith, sum_by-cons (λ j. one (g j)) e.0 (map (λ e. e.0) (filter (λ e. e.1 == s) es)), sum_by-cons (λ (e : ℕ × ℕ). one (g e.0 && nat_eq e.1 s)) e es))
    (λ f. let none = and_false (g e.0) (nat_eq e.1 s) f in
    omega (arith, sum_by-cons (λ (e : ℕ × ℕ). one (g e.0 && nat_eq e.1 s)) e es))
  where
    and_true : (a b : Bool) → b ≡ true → one (a && b) ≡ one a
    and_true true b t = ap one t
    and_true false b t = refl

    and_false : (a b : Bool) → b ≡ false → one (a && b) ≡ 0
    and_false true b f = ap one f
    and_false false b f = refl

module _ (ends : GraphEnds) (cuts : List Bool) where
  pub pending_before : (node : ℕ) → pending_after ends cuts [] node ≡ count_by (is_kept_into ends cuts node) (range_with_len 0 (length ends.sources))
  pending_before node = count_of_entries (is_kept_into ends cuts node) 0 ends.sources

  one_done : (a m t : Bool) → (t ≡ true → m ≡ false) → one (a && not m) ≡ one (a && not (m || (t || false))) + one (a && t)
  one_done false m t h = refl
  one_done true false true h = refl
  one_done true false false h = refl
  one_done true true false h = refl
  one_done true true true h = absurd (both_ways true (h refl) refl)

  -- the kept links of one more node that is done are pending no more
  pub pending_less : (done : List ℕ) (s node : ℕ) → list_any (nat_eq s) done ≡ false → pending_after ends cuts done node ≡ pending_after ends cuts (done ++ s ∷ []) node + count_by (is_kept_into ends cuts node) (indices_of s ends.sources)
  pending_less done s node new =
      count_parts _ _ _ each (enumerate_from 0 ends.sources)
      ∙ ap (λ n. pending_after ends cuts (done ++ s ∷ []) node + n) (sym (count_of_kept (is_kept_into ends cuts node) s (enumerate_from 0 ends.sources)))
    where
      each : (e : ℕ × ℕ) → one (is_kept_into ends cuts node e.0 && not (list_any (nat_eq e.1) done))
          ≡ one (is_kept_into ends cuts node e.0 && not (list_any (nat_eq e.1) (done ++ s ∷ []))) + one (is_kept_into ends cuts node e.0 && nat_eq e.1 s)
      each e =
          rw (list_any-append (nat_eq e.1) done (s ∷ []))
          (one_done (is_kept_into ends cuts node e.0) (list_any (nat_eq e.1) done) (nat_eq e.1 s) (λ t. ap (λ z. list_any (nat_eq z) done) (eqb-true e.1 s t) ∙ new))

  -- where nothing is pending, the sources of all kept links are done
  pub nothing_pending : (done : List ℕ) (node j : ℕ) → pending_after ends cuts done node ≡ 0 → j < length ends.sources → is_kept_into ends cuts node j ≡ true → list_any (nat_eq (slice_index ends.sources j)) done ≡ true
  nothing_pending done node j none h kept =
      let s = slice_index ends.sources j in
      let lower : j < length (enumerate_from 0 ends.sources) = omega (arith, length-enumerate_from 0 ends.sources) in
      let at : get_or (enumerate_from 0 ends.sources) j (j, s) ≡ (j, s) = get_or-enumerate_from 0 ends.sources j (j, s) h ∙ ap (λ k. (k, get_or ends.sources j s)) (let z : 0 + j ≡ j = omega arith in z) ∙ ap (λ k. (j, k)) (get_or_default ends.sources j s 0 h) in
      passes (is_kept_into ends cuts node j) (list_any (nat_eq s) done) kept
      (none_counted (λ e. is_kept_into ends cuts node e.0 && not (list_any (nat_eq e.1) done)) (enumerate_from 0 ends.sources) (j, s) none (j, lower, at))
    where
      passes : (a m : Bool) → a ≡ true → (a && not m) ≡ false → m ≡ true
      passes true true t f = refl
      passes true false t f = sym f
      passes false m t f = absurd (both_ways false refl t)

  pub all_done : (done : List ℕ) (node : ℕ) → ((j : ℕ) → j < length ends.sources → is_kept_into ends cuts node j ≡ true → list_any (nat_eq (slice_index ends.sources j)) done ≡ true) → pending_after ends cuts done node ≡ 0
  all_done done node h = count_none (λ e. is_kept_into ends cuts node e.0 && not (list_any (nat_eq e.1) done)) (enumerate_from 0 ends.sources) (λ k d l.
      let lower : k < length ends.sources = omega (arith, length-enumerate_from 0 ends.sources) in
      let low : 0 + k < length ends.sources = omega arith in
      subst (λ (e : ℕ × ℕ). (is_kept_into ends cuts node e.0 && not (list_any (nat_eq e.1) done)) ≡ false) (sym (get_or-enumerate_from 0 ends.sources k d lower))
      (fails (is_kept_into ends cuts node (0 + k)) (list_any (nat_eq (get_or ends.sources k d.1)) done)
      (λ t. ap (λ z. list_any (nat_eq z) done) (get_or_default ends.sources k d.1 0 lower ∙ ap (slice_index ends.sources) (let z : k ≡ 0 + k = omega arith in z)) ∙ h (0 + k) low t)))
    where
      fails : (a m : Bool) → (a ≡ true → m ≡ true) → (a && not m) ≡ false
      fails true m h = ap not (h refl)
      fails false m h = refl

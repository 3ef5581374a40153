-- Members of sets of nodes.
use Rattle.std.specs.Prelude.{slice_index, slice_set, nat_eq, Contains}
use Rattle.std.specs.List.{list_any, position, IsDistinct}
use Rattle.std.proofs.Common.{◌≡◌, ◌≢◌, ℕ, ◌<◌, ◌≤◌, true, false, List, [], ◌∷◌, ◌++◌, length, take, Some, sym, ap, ◌∙◌, arith, ⊎_elim}
use Rattle.std.proofs.lemmas.Bool.{eqb-true, eq-eqb, false_from_ne_true, both_ways, cases_eq}
use Rattle.std.proofs.lemmas.Bool.Decides.{same_from_decides}
use Rattle.std.proofs.lemmas.Cmp.{nat_eq_equiv}
use Rattle.std.proofs.lemmas.List.{get_or_default, get_or-take, get_or_append_left, get_or_push, get_or-set_same, get_or-set_other, length-take-le, length_push, length-set}
use Rattle.std.proofs.lemmas.List.Elements.{All-contains, All-push, All-weaker}
use Rattle.std.proofs.lemmas.Map.Keys.{IsDistinct-from_apart, IsDistinct-push}
use Rattle.std.proofs.lemmas.Map.Steps.{length-le_from_distinct_below}
use Rattle.rig_cut.specs.MemberTests.{member_decides, not_member, index_of_element, element_at}
use Rattle.rig_cut.specs.NodeSets.{IsNodeSet}
use Rattle.rig_cut.specs.Positions.{position_at}

-- ---- sets of nodes

module _ (members positions : List ℕ) (capacity : ℕ) (set : IsNodeSet members positions capacity) where
  position_of : (n : ℕ) → Contains members n → (slice_index positions n < length members) × (slice_index members (slice_index positions n) ≡ n)
  position_of n e =
      let i = index_of_element members n e in
      let p : slice_index positions n ≡ i.0 = ap (slice_index positions) (sym i.2) ∙ set.at i.0 i.1 in
      (omega arith, ap (slice_index members) p ∙ i.2)

  pub contains_within : (n p m : ℕ) → p ≡ slice_index positions n → p < length members → m ≡ slice_index members p → nat_eq m n ≡ list_any (nat_eq n) members
  contains_within n p m at h is =
      same_from_decides _ _
      (λ t. element_at members p n h (sym (eqb-true m n t) ∙ is), λ e. eq-eqb m n (is ∙ ap (slice_index members) at ∙ (position_of n e).1))
      (member_decides members n)

  pub contains_beyond : (n p : ℕ) → p ≡ slice_index positions n → length members ≤ p → list_any (nat_eq n) members ≡ false
  contains_beyond n p at h = not_member members n (λ e. let within = (position_of n e).0 in omega arith)

  same_index : (i j : ℕ) → i < length members → j < length members → slice_index members i ≡ slice_index members j → i ≡ j
  same_index i j h l e = sym (set.at i h) ∙ ap (slice_index positions) e ∙ set.at j l

  pub is_position : (n p : ℕ) → p ≡ slice_index positions n → list_any (nat_eq n) members ≡ true → position (nat_eq n) members ≡ Some p
  is_position n p at there =
      let within = position_of n ((member_decides members n).0 there) in
      let is : slice_index members p ≡ n = ap (slice_index members) at ∙ within.1 in
      let l : p < length members = let w = within.0 in omega arith in
      position_at (nat_eq n) members p 0 l (eq-eqb n (slice_index members p) (sym is))
      (λ k h. false_from_ne_true (nat_eq n (slice_index members k)) (λ t.
      let same = same_index k p (omega arith) l (sym (eqb-true n (slice_index members k) t) ∙ sym is) in
      omega arith))

  pub distinct : IsDistinct nat_eq members
  distinct = IsDistinct-from_apart nat_eq members (λ i j d h l. false_from_ne_true _ (λ t.
      let lower : i < length members = omega arith in
      let e = same_index i j lower l (get_or_default members i 0 d lower ∙ eqb-true _ _ t ∙ get_or_default members j d 0 l) in
      omega arith))

  below : (q : ℕ) → Contains members q → q < length positions
  below q e = All-contains (λ n. n < length positions) members q set.below e

  pub members_within : length members ≤ length positions
  members_within = length-le_from_distinct_below members (length positions) distinct (λ q t. below q ((member_decides members q).0 t))

  pub once : (i : ℕ) → i < length members → list_any (nat_eq (slice_index members i)) (take i members) ≡ false
  once i h = not_member (take i members) (slice_index members i) (λ e.
      let k = index_of_element (take i members) (slice_index members i) e in
      let lower : k.0 < i = omega (arith, length-take-le i members (omega arith), k.1) in
      let same = same_index k.0 i (omega arith) h (sym (get_or-take i members k.0 0 lower) ∙ k.2) in
      omega arith)

  module _ (n : ℕ) (node : n < length positions) (new : list_any (nat_eq n) members ≡ false) where
    pub one_more_within : length members < length positions
    one_more_within =
        let le = length-le_from_distinct_below (members ++ n ∷ []) (length positions) (IsDistinct-push nat_eq_equiv members n distinct new)
        (λ q t. All-contains (λ z. z < length positions) (members ++ n ∷ []) q (All-push (λ z. z < length positions) members n set.below node) ((member_decides (members ++ n ∷ []) q).0 t)) in
        omega (arith, le, length_push members n)

    other : (i : ℕ) → i < length members → slice_index members i ≢ n
    other i h e = both_ways _ new ((member_decides members n).1 (element_at members i n h (sym e)))

    at_more : (i : ℕ) → i < length (members ++ n ∷ []) → slice_index (slice_set positions n (length members)) (slice_index (members ++ n ∷ []) i) ≡ i
    at_more i h = ⊎_elim
        (λ (e : i ≡ length members).
        ap (slice_index (slice_set positions n (length members))) (get_or_push members n 0 i (sym e)) ∙ get_or-set_same positions n (length members) 0 node ∙ sym e)
        (λ (e : i ≢ length members).
        let lower : i < length members = omega (arith, length_push members n) in
        ap (slice_index (slice_set positions n (length members))) (get_or_append_left members (n ∷ []) 0 i lower)
        ∙ get_or-set_other positions n (slice_index members i) (length members) 0 (other i lower)
        ∙ set.at i lower)
        (cases_eq i (length members))

    pub one_more : IsNodeSet (members ++ n ∷ []) (slice_set positions n (length members)) capacity
    one_more =
        let same = length-set positions n (length members) in
        record {
          at = at_more;
          below = All-weaker (λ z. z < length positions) (λ z. z < length (slice_set positions n (length members))) (λ z h. omega arith) (members ++ n ∷ []) (All-push (λ z. z < length positions) members n set.below node);
          room = let r = set.room in omega arith;
          few = let r = set.few in omega arith;
        }

-- Which object has an id, in a list whose ids rise.
use Rattle.std.proofs.Common.{◌≡◌, ℕ, ◌<◌, ◌≤◌, Bool, true, false, cond, List, [], ◌∷◌, length, Option, Some, None, nat_lt, nat_le, All, AllPairs, slice_get, slice_index_or, find, option_copied, refl, sym, ap, ◌∙◌, ⊎_elim, le_of_eq, le_of_lt, eq-or-lt_of_le, arith}
use Rattle.std.proofs.lemmas.Bool.{cases_order, eq-eqb, ne_eqb, le-leb, lt-leb, ltb-true, ltb-false}
use Rattle.std.proofs.lemmas.List.Elements.{All-head, All-tail}
use Rattle.std.proofs.lemmas.List.Sorted.{IsPartitionedBy-ltb, IsPartitionPoint-from_clause}
use Rattle.std.specs.Bool.{then_some}
use Rattle.std.specs.Fn.{Called, ComputesKey}
use Rattle.std.specs.List.Sorted.{IsNonDecreasingBy, IsPartitionedBy, IsPartitionPoint}
use denote.Param.Members.{Mut}
use denote.Ref.{Bor}
use Rattle.rig_scene.specs.declared.id.ObjectId.{ObjectId}
use Rattle.rig_scene.specs.declared.object.Object.{Object}
use Rattle.rig_scene.specs.Id.{same_object}
use Rattle.rig_scene.specs.Pairs.{AllPairs-head, AllPairs-tail}
use Rattle.rig_scene.specs.Rising.{find-slice_get}

abbrev pub RiseById : List Object → Type 0
RiseById xs = AllPairs (λ o p. o.id.0 < p.id.0) xs

-- the object, if its id is that one
abbrev pub if_same : ObjectId → Option Object → Option Object
if_same id None = None
if_same id (Some o) = cond (same_object o.id id) (Some o) None

module _ (id : ObjectId) where
  -- what lies above an id isn't its object
  none_above : (xs : List Object) → All (λ o. id.0 < o.id.0) xs → find (λ o. same_object o.id id) xs ≡ None
  none_above [] above = refl
  none_above (x ∷ xs) above =
      let head : id.0 < x.id.0 = All-head (λ o. id.0 < o.id.0) x xs above in
      ap (λ b. cond b (Some x) (find (λ o. same_object o.id id) xs)) (ne_eqb x.id.0 id.0 (λ s. absurd (omega arith)))
      ∙ none_above xs (All-tail (λ o. id.0 < o.id.0) x xs above)

  same-step : (x : Object) (xs : List Object) (b : Bool) → same_object x.id id ≡ b → find (λ o. same_object o.id id) (x ∷ xs) ≡ cond b (Some x) (find (λ o. same_object o.id id) xs)
  same-step x xs b e = ap (λ b. cond b (Some x) (find (λ o. same_object o.id id) xs)) e

  no_lower-step : (x : Object) (xs : List Object) (b : Bool) → nat_le id.0 x.id.0 ≡ b → find (λ o. nat_le id.0 o.id.0) (x ∷ xs) ≡ cond b (Some x) (find (λ o. nat_le id.0 o.id.0) xs)
  no_lower-step x xs b e = ap (λ b. cond b (Some x) (find (λ o. nat_le id.0 o.id.0) xs)) e

  -- the first object whose id is no lower, if its id is that one
  pub found_from : (xs : List Object) → RiseById xs → find (λ o. same_object o.id id) xs ≡ if_same id (find (λ o. nat_le id.0 o.id.0) xs)
  found_from [] rise = refl
  found_from (x ∷ xs) rise = ⊎_elim
      (λ equal.
      let is = eq-eqb x.id.0 id.0 (sym equal) in
      let first = no_lower-step x xs true (le-leb id.0 x.id.0 (omega arith)) in
      same-step x xs true is ∙ sym (ap (if_same id) first ∙ ap (λ b. cond b (Some x) None) is))
      (λ order. ⊎_elim
      (λ before.
      let above : All (λ p. x.id.0 < p.id.0) xs = AllPairs-head (λ o p. o.id.0 < p.id.0) x xs rise in
      let other = ne_eqb x.id.0 id.0 (λ s. absurd (omega arith)) in
      let first = no_lower-step x xs true (le-leb id.0 x.id.0 (omega arith)) in
      same-step x xs false other ∙ none_above xs (λ k d l. let later = above k d l in omega arith)
      ∙ sym (ap (if_same id) first ∙ ap (λ b. cond b (Some x) None) other))
      (λ behind.
      same-step x xs false (ne_eqb x.id.0 id.0 (λ s. absurd (omega arith)))
      ∙ found_from xs (AllPairs-tail (λ o p. o.id.0 < p.id.0) x xs rise)
      ∙ sym (ap (if_same id) (no_lower-step x xs false (lt-leb id.0 x.id.0 (omega arith)))))
      order)
      (cases_order id.0 x.id.0)

  -- the same by an index
  pub found_at : (xs : List Object) (i : ℕ) → RiseById xs → find (λ o. nat_le id.0 o.id.0) xs ≡ slice_get xs i → find (λ o. same_object o.id id) xs ≡ if_same id (slice_get xs i)
  found_at xs i rise e = found_from xs rise ∙ ap (if_same id) e

  -- what is behind a reference, if its id is that one
  pub copied_same : (o : Bor Object) (b : Bool) → b ≡ same_object o.now.id id → option_copied (then_some b o) ≡ if_same id (Some o.now)
  copied_same o true e = ap (λ b. cond b (Some o.now) None) e
  copied_same o false e = ap (λ b. cond b (Some o.now) None) e

-- where a binary search ends
module _ {F : Type 0} {g : Mut F (Bor Object × Unit {0}) Bool} {f : F} (id : ObjectId) (xs : List Object) (i : ℕ) (within : i ≤ length xs)
    (clause : (t : Object → Bool) → ComputesKey g t f → IsPartitionedBy t xs → IsPartitionPoint (λ o. t o ≡ true) (λ o. t o ≡ false) xs i)
    (rise : RiseById xs) where
  ids_rise : IsNonDecreasingBy (λ o. o.id.0) xs
  ids_rise j k d le within = ⊎_elim (λ e. le_of_eq (ap (λ n. (slice_index_or xs n d).id.0) e)) (λ l. le_of_lt (rise j k d l within)) (eq-or-lt_of_le le)

  pub first_no_lower : ((a : Bor Object × Unit {0}) (r : Bool) (h : F) → Called g f a r h → (r ≡ nat_lt a.0.now.id.0 id.0) × (h ≡ f))
      → find (λ o. nat_le id.0 o.id.0) xs ≡ slice_get xs i
  first_no_lower calls =
      let point = IsPartitionPoint-from_clause (λ o. nat_lt o.id.0 id.0) xs i clause (IsPartitionedBy-ltb (λ o. o.id.0) xs id.0 ids_rise) calls in
      find-slice_get (λ o. nat_le id.0 o.id.0) xs i within
      (λ k d h. lt-leb id.0 (slice_index_or xs k d).id.0 (ltb-true (slice_index_or xs k d).id.0 id.0 (point.0 k d (omega arith) h)))
      (λ k d h w. le-leb id.0 (slice_index_or xs k d).id.0 (ltb-false (slice_index_or xs k d).id.0 id.0 (point.1 k d h w)))

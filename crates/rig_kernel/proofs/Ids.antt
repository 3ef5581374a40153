-- Where the object of an id stands among objects whose ids rise.
use Rattle.std.proofs.Common.{◌≡◌, ℕ, zero, suc, ◌<◌, ◌≤◌, true, false, cond, List, [], ◌∷◌, length, get_or, slice_get, Option, Some, None, IsSome, refl, sym, ap, ◌∙◌, subst, ⊎_elim, arith}
use Rattle.std.specs.Prelude.{nat_lt}
use Rattle.std.specs.List.{prefix_len, AllPairs, find}
use Rattle.std.specs.List.Sorted.{IsPartitionPoint, IsNonDecreasingBy}
use Rattle.std.proofs.Math.Nat.{eq-or-lt_of_le}
use Rattle.std.proofs.lemmas.Bool.{lt-ltb, le-ltb, ne_eqb, false≢true}
use Rattle.std.proofs.lemmas.List.Sums.{prefix_len_is}
use Rattle.std.proofs.lemmas.Option.{slice_get_within, get_or_from_slice_get, slice_get-get_or, same_Some}
use Rattle.rig_scene.specs.declared.id.ObjectId.{ObjectId}
use Rattle.rig_scene.specs.declared.object.Object.{Object}
use Rattle.rig_scene.specs.Found.{find-contains}
use Rattle.rig_scene.specs.Id.{same_object}
use Rattle.rig_scene.specs.Pairs.{AllPairs-head, AllPairs-tail}
use Rattle.rig_scene.specs.Same.{same_object-equal, same_object-itself}

module _ (objects : List Object) (rise : AllPairs (λ o p. o.id.0 < p.id.0) objects) where
  -- as many objects have lower ids as an object's index says
  lower_ids : (i : ℕ) (o : Object) → slice_get objects i ≡ Some o → prefix_len (λ p. nat_lt p.id.0 o.id.0) objects ≡ i
  lower_ids i o at =
      let within : i < length objects = slice_get_within objects i o at in
      let here : get_or objects i o ≡ o = get_or_from_slice_get objects i o o at in
      prefix_len_is (λ p. nat_lt p.id.0 o.id.0) objects i o (omega arith)
      (λ k l. lt-ltb (get_or objects k o).id.0 o.id.0 (subst (λ (p : Object). (get_or objects k o).id.0 < p.id.0) here (rise k i o l within)))
      (λ l. subst (λ (p : Object). nat_lt p.id.0 o.id.0 ≡ false) (sym here) (le-ltb o.id.0 o.id.0 (omega arith)))

  -- the ids don't fall
  pub ids_sorted : IsNonDecreasingBy (λ (o : Object). o.id.0) objects
  ids_sorted i j d le within =
      ⊎_elim
      (λ (e : i ≡ j). subst (λ k. (get_or objects i d).id.0 ≤ (get_or objects k d).id.0) e (omega arith))
      (λ (l : i < j). let lower : (get_or objects i d).id.0 < (get_or objects j d).id.0 = rise i j d l within in omega arith)
      (eq-or-lt_of_le le)

-- what a search by halves gives
lower_searched : (n : ℕ) (objects : List Object) (i : ℕ) → i ≤ length objects
    → IsPartitionPoint (λ o. nat_lt o.id.0 n ≡ true) (λ o. nat_lt o.id.0 n ≡ false) objects i → prefix_len (λ o. nat_lt o.id.0 n) objects ≡ i
lower_searched n [] i within point = omega arith
lower_searched n (o ∷ objects) i within point =
    prefix_len_is (λ o. nat_lt o.id.0 n) (o ∷ objects) i o within (λ k l. point.0 k o (omega arith) l) (λ l. point.1 i o (omega arith) l)

-- the object at an index is the one of its id
pub object_found : (objects : List Object) → AllPairs (λ o p. o.id.0 < p.id.0) objects → (i : ℕ) (o : Object) → slice_get objects i ≡ Some o → find (λ p. same_object p.id o.id) objects ≡ Some o
object_found [] rise i o at = absurd cc
object_found (p ∷ objects) rise zero o at =
    let same : p ≡ o = same_Some p o at in
    subst (λ (q : Object). cond (same_object q.id o.id) (Some q) (find (λ p. same_object p.id o.id) objects) ≡ Some o) (sym same)
    (ap (λ b. cond b (Some o) (find (λ p. same_object p.id o.id) objects)) (same_object-itself o.id))
object_found (p ∷ objects) rise (suc i) o at =
    let lower : p.id.0 < o.id.0 =
    subst (λ (q : Object). p.id.0 < q.id.0) (get_or_from_slice_get objects i o o at) (AllPairs-head (λ (o p : Object). o.id.0 < p.id.0) p objects rise i o (slice_get_within objects i o at)) in
    ap (λ b. cond b (Some p) (find (λ p. same_object p.id o.id) objects)) (ne_eqb p.id.0 o.id.0 (λ e. omega arith))
    ∙ object_found objects (AllPairs-tail (λ (o p : Object). o.id.0 < p.id.0) p objects rise) i o at

pub there : {X : Type 0} (found : Option X) → IsSome found → (x : X) × (found ≡ Some x)
there None is = absurd (false≢true is)
there (Some x) is = (x, refl)

-- the object of an id stands where the lower ids end
pub stands_at : (objects : List Object) → AllPairs (λ o p. o.id.0 < p.id.0) objects → (id : ObjectId) → IsSome (find (λ o. same_object o.id id) objects) → (i : ℕ) → i ≤ length objects
    → IsPartitionPoint (λ o. nat_lt o.id.0 id.0 ≡ true) (λ o. nat_lt o.id.0 id.0 ≡ false) objects i
    → slice_get objects i ≡ find (λ o. same_object o.id id) objects
stands_at objects rise id is i within point =
    let found = there (find (λ o. same_object o.id id) objects) is in
    let o : Object = found.0 in
    let has = find-contains (λ o. same_object o.id id) objects o found.1 in
    let k : ℕ = has.0.0 in
    let at : slice_get objects k ≡ Some o = slice_get-get_or objects k o has.0.1 ∙ ap Some has.0.2 in
    let same : o.id ≡ id = same_object-equal o.id id has.1 in
    let index : prefix_len (λ p. nat_lt p.id.0 id.0) objects ≡ k = subst (λ (d : ObjectId). prefix_len (λ p. nat_lt p.id.0 d.0) objects ≡ k) same (lower_ids objects rise k o at) in
    ap (slice_get objects) (sym (lower_searched id.0 objects i within point) ∙ index) ∙ at ∙ sym found.1

-- what is read at an index where something was found
pub read_found : {X : Type 0} (xs : List X) (i : ℕ) (x : X) (found : Option X) → IsSome found → slice_get xs i ≡ found → x ≡ get_or xs i x → found ≡ Some x
read_found {X} xs i x found is at read =
    let o = there found is in
    let here : slice_get xs i ≡ Some o.0 = at ∙ o.1 in
    o.1 ∙ ap Some (sym (read ∙ get_or_from_slice_get xs i o.0 x here))

-- the object that stands at an index and has an id is the one of that id
pub object_at : (objects : List Object) → AllPairs (λ o p. o.id.0 < p.id.0) objects → (id : ObjectId) (i : ℕ) (o : Object) → slice_get objects i ≡ Some o → o.id.0 ≡ id.0 → find (λ p. same_object p.id id) objects ≡ Some o
object_at objects rise id i o at same = subst (λ (n : ℕ). find (λ p. same_object p.id record { 0 = n }) objects ≡ Some o) same (object_found objects rise i o at)

-- Lists with the first element that passes a test changed: what stands at an index, and what is found.
use Rattle.std.specs.Prelude.{◌≡◌, ◌≢◌, ℕ, zero, suc, ◌+◌, List, [], ◌∷◌, map, length, Bool, true, false, not, Option, Some, None, slice_get, slice_set, option_map, option_and_then, nat_lt, ℤ, pos, negsuc}
use Rattle.std.specs.Option.{option_map_or}
use Rattle.std.specs.List.{find, position, position_or_len}
use Rattle.std.proofs.Common.{refl, sym, ap, cond, ⊎_elim, ◌∙◌, subst, true≢false}
use Rattle.std.proofs.lemmas.Bool.Decides.{eqb_tells}
use Rattle.std.proofs.lemmas.Iterator.Adapters.{option_map_id}
use Rattle.std.proofs.lemmas.List.{length-map}
use Rattle.std.proofs.lemmas.List.Folds.{find_at}
use Rattle.std.proofs.lemmas.Option.{same_Some, cond_some}
use Rattle.rig_scene.specs.Found.{find-contains, some_slice_get}
use Rattle.rig_edits.specs.Lists.{position_within}
use Rattle.rig_edits.specs.Named.{update_at, update_first, update_at_number}
use Rattle.rig_edits.specs.Replaced.{kept_first, map-replaced}

-- ---- options

-- what is read of what is read
pub and_then_twice : {A B C : Type 0} (f : A → Option B) (g : B → Option C) (o : Option A)
    → option_and_then (λ x. option_and_then g (f x)) o ≡ option_and_then g (option_and_then f o)
and_then_twice f g None = refl
and_then_twice f g (Some x) = refl

-- ---- an element in the place of another

-- what stands at another index is the same
set_elsewhere : {A : Type 0} (xs : List A) (i k : ℕ) (y : A) → i ≢ k → slice_get (slice_set xs i y) k ≡ slice_get xs k
set_elsewhere [] i k y apart = refl
set_elsewhere (x ∷ xs) zero zero y apart = absurd (apart refl)
set_elsewhere (x ∷ xs) zero (suc k) y apart = refl
set_elsewhere (x ∷ xs) (suc i) zero y apart = refl
set_elsewhere (x ∷ xs) (suc i) (suc k) y apart = set_elsewhere xs i k y (λ e. apart (ap suc e))

-- and it stands in its own place
set_there : {A : Type 0} (xs : List A) (i : ℕ) (x y : A) → slice_get xs i ≡ Some x → slice_get (slice_set xs i y) i ≡ Some y
set_there [] i x y at = cc
set_there (z ∷ zs) zero x y at = refl
set_there (z ∷ zs) (suc i) x y at = set_there zs i x y at

-- the element at another index changed
pub at_other : {A : Type 0} (change : A → A) (i : ℕ) (xs : List A) (k : ℕ) → (i ≡ k → ⊥)
    → slice_get (update_at change i xs) k ≡ slice_get xs k
at_other {A} change i xs k apart = by (slice_get xs i)
  where
    by : (r : Option A) → slice_get (option_map_or (λ x. slice_set xs i (change x)) r xs) k ≡ slice_get xs k
    by None = refl
    by (Some x) = set_elsewhere xs i k (change x) apart

-- or that at another number
pub number_elsewhere : {A : Type 0} (change : A → A) (n : ℤ) (xs : List A) (k : ℕ) → (n ≡ pos k → ⊥)
    → slice_get (update_at_number change n xs) k ≡ slice_get xs k
number_elsewhere change (negsuc i) xs k apart = refl
number_elsewhere change (pos i) xs k apart = at_other change i xs k (λ e. apart (ap pos e))

-- what a search finds and reads is the same where the two are found alike
find-replaced : {A B : Type 0} (q : A → Bool) (h : A → B) (xs : List A) (i : ℕ) (x y : A) → slice_get xs i ≡ Some x → q y ≡ q x
    → (q x ≡ true → h y ≡ h x) → option_map h (find q (slice_set xs i y)) ≡ option_map h (find q xs)
find-replaced q h [] i x y at tests reads = refl
find-replaced {A} {B} q h (z ∷ zs) zero x y at tests reads =
    let here : z ≡ x = same_Some z x at in
    by (q z) refl (tests ∙ ap q (sym here)) (λ e. reads (ap q (sym here) ∙ e) ∙ ap h (sym here))
  where
    by : (b : Bool) → q z ≡ b → q y ≡ q z → (q z ≡ true → h y ≡ h z)
        → option_map h (cond (q y) (Some y) (find q zs)) ≡ option_map h (cond b (Some z) (find q zs))
    by true is same read = ap (λ c. option_map h (cond c (Some y) (find q zs))) (same ∙ is) ∙ ap Some (read is)
    by false is same read = ap (λ c. option_map h (cond c (Some y) (find q zs))) (same ∙ is)
find-replaced q h (z ∷ zs) (suc i) x y at tests reads = by (q z) (find-replaced q h zs i x y at tests reads)
  where
    by : (b : Bool) → option_map h (find q (slice_set zs i y)) ≡ option_map h (find q zs)
        → option_map h (cond b (Some z) (find q (slice_set zs i y))) ≡ option_map h (cond b (Some z) (find q zs))
    by true rest = refl
    by false rest = rest

-- what a search finds is the same where it passes both over
pub find-neither : {A : Type 0} (p : A → Bool) (xs : List A) (i : ℕ) (x y : A) → slice_get xs i ≡ Some x → p x ≡ false → p y ≡ false
    → find p (slice_set xs i y) ≡ find p xs
find-neither p xs i x y at old new =
    sym (option_map_id (find p (slice_set xs i y)))
    ∙ find-replaced p (λ z. z) xs i x y at (new ∙ sym old) (λ e. absurd (true≢false (sym e ∙ old)))
    ∙ option_map_id (find p xs)

-- ---- the first that passes, changed

-- the element at the index that is found passes
pub position_passes : {A : Type 0} (test : A → Bool) (xs : List A) (i : ℕ) → position test xs ≡ Some i
    → (x : A) × (slice_get xs i ≡ Some x) × (test x ≡ true)
position_passes test xs i is =
    let there = some_slice_get xs i (position_within test xs i is) in
    let index = (cond_some (nat_lt (position_or_len test xs) (length xs)) (position_or_len test xs) i is).1 in
    (there.0, there.1, (find-contains test xs there.0 (find_at test xs ∙ ap (slice_get xs) index ∙ there.1)).1)

module _ {A : Type 0} (test : A → Bool) (change : A → A) (xs : List A) where
  -- at an index stands what stood there, or the change of it
  pub at_index : (k : ℕ) (P : Option A → Type 0) → P (slice_get xs k)
      → ((x : A) → position test xs ≡ Some k → slice_get xs k ≡ Some x → test x ≡ true → P (Some (change x)))
      → P (slice_get (update_first test change xs) k)
  at_index k P old new = by (position test xs) refl
    where
      passes : (x : A) → position test xs ≡ Some k → slice_get xs k ≡ Some x → test x ≡ true
      passes x is at =
          let there = position_passes test xs k is in
          subst (λ y. test y ≡ true) (same_Some there.0 x (sym there.1 ∙ at)) there.2

      moved : (i : ℕ) (x : A) → position test xs ≡ Some i → slice_get xs i ≡ Some x → P (slice_get (slice_set xs i (change x)) k)
      moved i x is at = ⊎_elim
          (λ e.
          let same : i ≡ k = e.1 in
          let here : slice_get xs k ≡ Some x = subst (λ j. slice_get xs j ≡ Some x) same at in
          let first : position test xs ≡ Some k = is ∙ ap Some same in
          subst P (sym (subst (λ j. slice_get (slice_set xs i (change x)) j ≡ Some (change x)) same (set_there xs i x (change x) at)))
          (new x first here (passes x first here)))
          (λ e. subst P (sym (set_elsewhere xs i k (change x) e.1)) old)
          (eqb_tells i k)

      here : (i : ℕ) → position test xs ≡ Some i → (r : Option A) → slice_get xs i ≡ r
          → P (slice_get (option_map_or (λ x. slice_set xs i (change x)) r xs) k)
      here i is None at = old
      here i is (Some x) at = moved i x is at

      by : (r : Option ℕ) → position test xs ≡ r → P (slice_get (option_map_or (λ i. update_at change i xs) r xs) k)
      by None is = old
      by (Some i) is = here i is (slice_get xs i) refl

  -- at an index that isn't its own stands what stood there
  pub first_other : (k : ℕ) → (position test xs ≡ Some k → ⊥) → slice_get (update_first test change xs) k ≡ slice_get xs k
  first_other k differs = at_index k (λ r. r ≡ slice_get xs k) refl (λ x is at there. absurd (differs is))

  -- what a function gives of the changed ones too, it gives of the list
  pub map-first : {B : Type 0} (f : A → B) → ((x : A) → test x ≡ true → f (change x) ≡ f x) → map f (update_first test change xs) ≡ map f xs
  map-first f same =
      kept_first (λ ys. map f ys ≡ map f xs) change test xs refl
      (λ i x at found. map-replaced f xs i x (change x) at (same x (find-contains test xs x found).1))

  -- what is found by another test
  pub find-first : {B : Type 0} (q : A → Bool) (h : A → B) → ((x : A) → test x ≡ true → q (change x) ≡ q x)
      → ((x : A) → test x ≡ true → q x ≡ true → h (change x) ≡ h x)
      → option_map h (find q (update_first test change xs)) ≡ option_map h (find q xs)
  find-first q h tests reads =
      kept_first (λ ys. option_map h (find q ys) ≡ option_map h (find q xs)) change test xs refl
      (λ i x at found.
      let passes = (find-contains test xs x found).1 in
      find-replaced q h xs i x (change x) at (tests x passes) (reads x passes))

-- ---- the index of the first that passes

or_len-of_map : {A B : Type 0} (f : A → B) (p : B → Bool) (xs : List A) → position_or_len p (map f xs) ≡ position_or_len (λ x. p (f x)) xs
or_len-of_map f p [] = refl
or_len-of_map f p (x ∷ xs) = ap (λ n. cond (not (p (f x))) (1 + n) 0) (or_len-of_map f p xs)

-- it is told by what a function gives
pub position-same : {A B : Type 0} (f : A → B) (p : B → Bool) (xs ys : List A) → map f ys ≡ map f xs
    → position (λ y. p (f y)) ys ≡ position (λ x. p (f x)) xs
position-same f p xs ys same = sym (through ys) ∙ ap (position p) same ∙ through xs
  where
    through : (zs : List _) → position p (map f zs) ≡ position (λ x. p (f x)) zs
    through zs =
        let n = or_len-of_map f p zs in
        let l = length-map zs f in
        λ i. cond (nat_lt (n i) (l i)) (Some (n i)) None

-- Lists with one element changed, and what they have in common with the lists before.
use Rattle.std.proofs.Common.{◌≡◌, ℕ, zero, suc, ◌≤◌, Bool, true, false, cond, List, [], ◌∷◌, map, length, Option, Some, None, refl, sym, ap, ◌∙◌, subst, arith, ◌≢◌, ◌+◌, ◌||◌, ℤ, pos, negsuc}
use Rattle.std.specs.Prelude.{slice_get, slice_set, nat_lt, sum, sum_by, filter, option_map}
use Rattle.std.specs.Option.{option_map_or}
use Rattle.std.specs.List.{All, AllPairs, find, position, position_or_len, list_any}
use Rattle.std.proofs.lemmas.Bool.{lt-ltb}
use Rattle.std.proofs.lemmas.List.{length-map}
use Rattle.std.proofs.lemmas.List.Elements.{All-map, All-contains, All-set, All-weaker}
use Rattle.std.proofs.lemmas.List.Folds.{find_at}
use Rattle.std.proofs.lemmas.List.Sums.{sum-map, sum_by-cons}
use Rattle.std.proofs.lemmas.Option.{slice_get_within, same_Some}
use Rattle.rig_scene.specs.Found.{Contains-slice_get}
use Rattle.rig_scene.specs.Pairs.{AllPairs-head, AllPairs-tail, AllPairs-map, AllPairs-of_map, All-of_map, AllPairs-nil, AllPairs-cons}
use Rattle.rig_edits.specs.Named.{update_at, update_first, update_at_number}

-- ---- the first element that passes a test, changed

module _ {A : Type 0} (test : A → Bool) (change : A → A) (xs : List A) (x : A) (found : find test xs ≡ Some x) where
  -- it stands at the index of the first that passes
  pub at_first : slice_get xs (position_or_len test xs) ≡ Some x
  at_first = sym (find_at test xs) ∙ found

  -- it is replaced there
  pub first_replaced : update_first test change xs ≡ slice_set xs (position_or_len test xs) (change x)
  first_replaced =
      ap (λ b. option_map_or (λ index. update_at change index xs) (cond b (Some (position_or_len test xs)) None) xs)
      (lt-ltb (position_or_len test xs) (length xs) (slice_get_within xs (position_or_len test xs) x at_first))
      ∙ ap (λ r. option_map_or (λ y. slice_set xs (position_or_len test xs) (change y)) r xs) at_first

-- ---- one element in the place of another

-- an element is as all are
pub All-slice_get : {A : Type 0} (P : A → Type 0) (xs : List A) (i : ℕ) (x : A) → slice_get xs i ≡ Some x → All P xs → P x
All-slice_get P xs i x at all = All-contains P xs x all (Contains-slice_get xs i x at)

-- what the two have in common, the lists have
pub map-replaced : {A B : Type 0} (f : A → B) (xs : List A) (i : ℕ) (x y : A) → slice_get xs i ≡ Some x → f y ≡ f x → map f (slice_set xs i y) ≡ map f xs
map-replaced f [] i x y at same = refl
map-replaced f (z ∷ zs) zero x y at same =
    let here : z ≡ x = cc in
    ap (λ b. b ∷ map f zs) (same ∙ ap f (sym here))
map-replaced f (z ∷ zs) (suc i) x y at same = ap (λ bs. f z ∷ bs) (map-replaced f zs i x y at same)

-- all pairs, with one element replaced by one that stands in the relation wherever it did
pub AllPairs-replaced : {A : Type 0} (R : A → A → Type 0) (x y : A) → ((z : A) → R z x → R z y) → ((z : A) → R x z → R y z)
    → (xs : List A) (i : ℕ) → slice_get xs i ≡ Some x → AllPairs R xs → AllPairs R (slice_set xs i y)
AllPairs-replaced R x y before after [] i e pairs = AllPairs-nil R
AllPairs-replaced R x y before after (z ∷ zs) zero e pairs =
    let first : All (R x) zs = subst (λ w. All (R w) zs) (same_Some z x e) (AllPairs-head R z zs pairs) in
    AllPairs-cons R y zs (All-weaker (R x) (R y) after zs first) (AllPairs-tail R z zs pairs)
AllPairs-replaced R x y before after (z ∷ zs) (suc i) e pairs =
    let first : All (R z) zs = AllPairs-head R z zs pairs in
    AllPairs-cons R z (slice_set zs i y) (All-set (R z) zs i y (before z (All-contains (R z) zs x first (Contains-slice_get zs i x e))) first)
    (AllPairs-replaced R x y before after zs i e (AllPairs-tail R z zs pairs))

-- no two have the same still
pub distinct-replaced : {A B : Type 0} (f : A → B) (xs : List A) (i : ℕ) (x y : A) → slice_get xs i ≡ Some x → f y ≡ f x
    → AllPairs (λ a b. f a ≢ f b) xs → AllPairs (λ a b. f a ≢ f b) (slice_set xs i y)
distinct-replaced f xs i x y at same apart =
    AllPairs-replaced (λ a b. f a ≢ f b) x y (λ z h e. h (e ∙ same)) (λ z h e. h (sym same ∙ e)) xs i at apart

-- one passes where one did
pub list_any-replaced : {A : Type 0} (p : A → Bool) (xs : List A) (i : ℕ) (x y : A) → slice_get xs i ≡ Some x → p y ≡ p x
    → list_any p (slice_set xs i y) ≡ list_any p xs
list_any-replaced p [] i x y e same = refl
list_any-replaced p (z ∷ zs) zero x y e same = ap (λ b. b || list_any p zs) (same ∙ ap p (sym (same_Some z x e)))
list_any-replaced p (z ∷ zs) (suc i) x y e same = ap (λ b. p z || b) (list_any-replaced p zs i x y e same)

-- what is read of the element at an index
pub slice_get-replaced : {A B : Type 0} (f : A → B) (d : B) (xs : List A) (i : ℕ) (x y : A) (k : ℕ) → slice_get xs i ≡ Some x → f y ≡ f x
    → option_map_or f (slice_get (slice_set xs i y) k) d ≡ option_map_or f (slice_get xs k) d
slice_get-replaced f d [] i x y k e same = refl
slice_get-replaced f d (z ∷ zs) zero x y zero e same = same ∙ ap f (sym (same_Some z x e))
slice_get-replaced f d (z ∷ zs) zero x y (suc k) e same = refl
slice_get-replaced f d (z ∷ zs) (suc i) x y zero e same = refl
slice_get-replaced f d (z ∷ zs) (suc i) x y (suc k) e same = slice_get-replaced f d zs i x y k e same

-- a sum grows by what the new element has more, and falls by what it has less
pub sum_by-set : {A : Type 0} (f : A → ℕ) (xs : List A) (i : ℕ) (x y : A) (less more : ℕ) → slice_get xs i ≡ Some x → f y + less ≡ f x + more
    → sum_by f (slice_set xs i y) + less ≡ sum_by f xs + more
sum_by-set f [] i x y less more e change = cc
sum_by-set f (z ∷ zs) zero x y less more e change =
    let same : f z ≡ f x = ap f (same_Some z x e) in
    let new : sum_by f (y ∷ zs) ≡ f y + sum_by f zs = sum_by-cons f y zs in
    let old : sum_by f (z ∷ zs) ≡ f z + sum_by f zs = sum_by-cons f z zs in
    omega (arith, same, new, old, change)
sum_by-set f (z ∷ zs) (suc i) x y less more e change =
    let rest : sum_by f (slice_set zs i y) + less ≡ sum_by f zs + more = sum_by-set f zs i x y less more e change in
    let new : sum_by f (z ∷ slice_set zs i y) ≡ f z + sum_by f (slice_set zs i y) = sum_by-cons f z (slice_set zs i y) in
    let old : sum_by f (z ∷ zs) ≡ f z + sum_by f zs = sum_by-cons f z zs in
    omega (arith, rest, new, old)

-- a sum grows by no more than what is replaced
pub sum_by-replaced : {A : Type 0} (f : A → ℕ) (xs : List A) (i : ℕ) (x y : A) (more : ℕ) → slice_get xs i ≡ Some x → f y ≤ f x + more
    → sum_by f (slice_set xs i y) ≤ sum_by f xs + more
sum_by-replaced f xs i x y more e most =
    let set : sum_by f (slice_set xs i y) + f x ≡ sum_by f xs + f y = sum_by-set f xs i x y (f x) (f y) e (omega arith) in
    omega (arith, set, most)

-- ---- what a change of one element makes

module _ {A : Type 0} (P : List A → Type 0) (change : A → A) where
  -- a promise of the list is kept where it is kept for each element that may be changed
  pub kept_at : (i : ℕ) (xs : List A) → P xs → ((x : A) → slice_get xs i ≡ Some x → P (slice_set xs i (change x)))
      → P (update_at change i xs)
  kept_at i xs old new = by (slice_get xs i) refl
    where
      by : (r : Option A) → slice_get xs i ≡ r → P (option_map_or (λ x. slice_set xs i (change x)) r xs)
      by None e = old
      by (Some x) e = new x e

  pub kept_at_number : (n : ℤ) (xs : List A) → P xs → ((i : ℕ) (x : A) → slice_get xs i ≡ Some x → P (slice_set xs i (change x)))
      → P (update_at_number change n xs)
  kept_at_number (pos i) xs old new = kept_at i xs old (new i)
  kept_at_number (negsuc i) xs old new = old

  pub kept_first : (test : A → Bool) (xs : List A) → P xs
      → ((i : ℕ) (x : A) → slice_get xs i ≡ Some x → find test xs ≡ Some x → P (slice_set xs i (change x))) → P (update_first test change xs)
  kept_first test xs old new = by (nat_lt (position_or_len test xs) (length xs))
    where
      by : (b : Bool) → P (option_map_or (λ i. update_at change i xs) (cond b (Some (position_or_len test xs)) None) xs)
      by true = kept_at (position_or_len test xs) xs old (λ x e. new (position_or_len test xs) x e (find_at test xs ∙ e))
      by false = old

-- ---- lists of which a function gives the same

module _ {A B : Type 0} (f : A → B) (xs ys : List A) (same : map f ys ≡ map f xs) where
  -- they are as long, and what holds by what the function gives holds of both
  pub length-same : length ys ≡ length xs
  length-same = sym (length-map ys f) ∙ ap length same ∙ length-map xs f

  pub All-same : (P : B → Type 0) → All (λ x. P (f x)) xs → All (λ x. P (f x)) ys
  All-same P h = All-of_map P f ys (subst (All P) (sym same) (All-map P f xs h))

  pub AllPairs-same : (R : B → B → Type 0) → AllPairs (λ x y. R (f x) (f y)) xs → AllPairs (λ x y. R (f x) (f y)) ys
  AllPairs-same R h = AllPairs-of_map R f ys (subst (AllPairs R) (sym same) (AllPairs-map R f xs h))

-- the sums are the same
pub sum_by-same : {A : Type 0} (f : A → ℕ) (xs ys : List A) → map f ys ≡ map f xs → sum_by f ys ≡ sum_by f xs
sum_by-same f xs ys same = sym (sum-map f ys) ∙ ap sum same ∙ sum-map f xs

-- as many pass as there are `true` among the answers
count-of_map : {A : Type 0} (p : A → Bool) (xs : List A) → length (filter p xs) ≡ length (filter (λ b. b) (map p xs))
count-of_map p [] = refl
count-of_map {A} p (x ∷ xs) =
    let go : (b : Bool) → length (cond b (x ∷ filter p xs) (filter p xs)) ≡ length (cond b (b ∷ filter (λ b. b) (map p xs)) (filter (λ b. b) (map p xs))) =
    λ b. elim b as (λ b. length (cond b (x ∷ filter p xs) (filter p xs)) ≡ length (cond b (b ∷ filter (λ b. b) (map p xs)) (filter (λ b. b) (map p xs)))) [
      | true ↦ ap suc (count-of_map p xs)
      | false ↦ count-of_map p xs
    ] in
    go (p x)

-- as many pass a test
pub count-same : {A : Type 0} (p : A → Bool) (xs ys : List A) → map p ys ≡ map p xs → length (filter p ys) ≡ length (filter p xs)
count-same p xs ys same = count-of_map p ys ∙ ap (λ bs. length (filter (λ b. b) bs)) same ∙ sym (count-of_map p xs)

-- what is found by what a function gives
pub find-of_map : {A B : Type 0} (f : A → B) (p : B → Bool) (xs : List A) → find p (map f xs) ≡ option_map f (find (λ x. p (f x)) xs)
find-of_map f p [] = refl
find-of_map {A} {B} f p (x ∷ xs) =
    let go : (b : Bool) → cond b (Some (f x)) (find p (map f xs)) ≡ option_map f (cond b (Some x) (find (λ x. p (f x)) xs)) =
    λ b. elim b as (λ b. cond b (Some (f x)) (find p (map f xs)) ≡ option_map f (cond b (Some x) (find (λ x. p (f x)) xs))) [
      | true ↦ refl
      | false ↦ find-of_map f p xs
    ] in
    go (p (f x))

-- ---- an element changed, of which a function gives the same as before

module _ {A B : Type 0} (f : A → B) (change : A → A) (keeps : (x : A) → f (change x) ≡ f x) where
  pub map-updated_at : (i : ℕ) (xs : List A) → map f (update_at change i xs) ≡ map f xs
  map-updated_at i xs = go (slice_get xs i) refl
    where
      go : (r : Option A) → slice_get xs i ≡ r → map f (option_map_or (λ x. slice_set xs i (change x)) r xs) ≡ map f xs
      go None e = refl
      go (Some x) e = map-replaced f xs i x (change x) e (keeps x)

  pub map-updated_first : (test : A → Bool) (xs : List A) → map f (update_first test change xs) ≡ map f xs
  map-updated_first test xs = go (position test xs)
    where
      go : (r : Option ℕ) → map f (option_map_or (λ i. update_at change i xs) r xs) ≡ map f xs
      go None = refl
      go (Some i) = map-updated_at i xs

-- the list keeps its length
pub length-updated_at : {A : Type 0} (change : A → A) (i : ℕ) (xs : List A) → length (update_at change i xs) ≡ length xs
length-updated_at change i xs = length-same {B = ℕ} (λ x. 0) xs (update_at change i xs) (map-updated_at {B = ℕ} (λ x. 0) change (λ x. refl) i xs)

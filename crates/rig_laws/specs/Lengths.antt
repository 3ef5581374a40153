-- How long lists are that are joined, and that a list in which nothing stands twice isn't longer than one with all its elements.
use Rattle.std.specs.Prelude.{◌≡◌, ◌≢◌, ℕ, suc, ◌+◌, ◌*◌, ◌≤◌, List, [], ◌∷◌, ◌++◌, map, length, filter, sum_by, Bool, true, false, not, Option, Some, None, slice_get, Contains, All}
use Rattle.std.specs.Option.{option_map_or}
use Rattle.std.specs.List.{flat_map, range_with_len}
use Rattle.std.proofs.Common.{refl, sym, ap, arith, ◌∙◌}
use Rattle.std.proofs.lemmas.List.{length-append}
use Rattle.std.proofs.lemmas.List.Concat.{length-flat_map, flat_map-append}
use Rattle.std.proofs.lemmas.List.Elements.{All-head, All-tail, All-contains}
use Rattle.std.proofs.lemmas.List.Folds.{flat_map-map}
use Rattle.std.proofs.lemmas.List.Sums.{sum_by-cons, sum_by-le, length-filter, count_by-le-length}
use Rattle.rig_cycles.specs.Cut.{IsEquality}
use Rattle.rig_cycles.specs.Elements.{element_kept, length-filter-lt}
use Rattle.rig_scene.specs.Pairs.{NoneTwice, AllPairs-head, AllPairs-tail}
use Rattle.rig_laws.specs.Lists.{All-elements}

-- ---- bounds

pub option_length : {X Y : Type 0} (f : X → List Y) (n : ℕ) (o : Option X) → ((x : X) → o ≡ Some x → length (f x) ≤ n) → length (option_map_or f o []) ≤ n
option_length f n None h = omega arith
option_length f n (Some x) h = h x refl

pub filter_length : {X : Type 0} (p : X → Bool) (xs : List X) → length (filter p xs) ≤ length xs
filter_length p xs = omega (arith, length-filter p xs, count_by-le-length p xs)

-- what a function gives of each, at most so many
pub each_length : {X Y : Type 0} (f : X → List Y) (n : ℕ) (xs : List X) → All (λ x. length (f x) ≤ n) xs → length (flat_map f xs) ≤ length xs * n
each_length f n xs h = omega (arith, length-flat_map f xs, sum_by-le (λ x. length (f x)) n xs h)

-- the same of what was mapped before
pub mapped_length : {X Y Z : Type 0} (f : Y → List Z) (g : X → Y) (n : ℕ) (xs : List X) → All (λ x. length (f (g x)) ≤ n) xs → length (flat_map f (map g xs)) ≤ length xs * n
mapped_length f g n xs h = omega (arith, ap length (flat_map-map f g xs), each_length (λ x. f (g x)) n xs h)

pub joined_length : {X Y : Type 0} (f : X → List Y) (xs ys : List X) → length (flat_map f (xs ++ ys)) ≡ length (flat_map f xs) + length (flat_map f ys)
joined_length f xs ys = ap length (flat_map-append f xs ys) ∙ length-append (flat_map f xs) (flat_map f ys)

-- what a function gives of what another gives of each
pub nested_length : {X Y Z : Type 0} (f : Y → List Z) (g : X → List Y) (xs : List X) → length (flat_map f (flat_map g xs)) ≡ sum_by (λ x. length (flat_map f (g x))) xs
nested_length f g [] = refl
nested_length f g (x ∷ xs) =
    joined_length f (g x) (flat_map g xs) ∙ ap (λ n. length (flat_map f (g x)) + n) (nested_length f g xs)
    ∙ sym (sum_by-cons (λ x. length (flat_map f (g x))) x xs)

-- a sum of terms of which each is at most a number and a second term
pub sum_beside : {X : Type 0} (f g : X → ℕ) (n : ℕ) (xs : List X) → All (λ x. f x ≤ n + g x) xs → sum_by f xs ≤ length xs * n + sum_by g xs
sum_beside f g n [] l = omega arith
sum_beside f g n (x ∷ xs) l =
    let here : f x ≤ n + g x = All-head (λ x. f x ≤ n + g x) x xs l in
    let rest : sum_by f xs ≤ length xs * n + sum_by g xs = sum_beside f g n xs (All-tail (λ x. f x ≤ n + g x) x xs l) in
    let fs : sum_by f (x ∷ xs) ≡ f x + sum_by f xs = sum_by-cons f x xs in
    let gs : sum_by g (x ∷ xs) ≡ g x + sum_by g xs = sum_by-cons g x xs in
    omega arith

pub sum_times : {X : Type 0} (g : X → ℕ) (n : ℕ) (xs : List X) → sum_by (λ x. n * g x) xs ≡ n * sum_by g xs
sum_times g n [] = omega arith
sum_times g n (x ∷ xs) =
    let rest : sum_by (λ x. n * g x) xs ≡ n * sum_by g xs = sum_times g n xs in
    let fs : sum_by (λ x. n * g x) (x ∷ xs) ≡ n * g x + sum_by (λ x. n * g x) xs = sum_by-cons (λ x. n * g x) x xs in
    let gs : sum_by g (x ∷ xs) ≡ g x + sum_by g xs = sum_by-cons g x xs in
    omega (arith, ap (λ m. n * m) gs)

-- a sum over indices is that over what stands at them
pub sum_at : {X : Type 0} (f : ℕ → ℕ) (g : Option X → ℕ) (a : ℕ) (xs : List X) → ((k : ℕ) → f (a + k) ≡ g (slice_get xs k)) → sum_by f (range_with_len a (length xs)) ≡ sum_by (λ x. g (Some x)) xs
sum_at f g a [] h = refl
sum_at f g a (x ∷ xs) h =
    let here : f a ≡ g (Some x) = ap f (let e : a ≡ a + 0 = omega arith in e) ∙ h 0 in
    let rest : sum_by f (range_with_len (a + 1) (length xs)) ≡ sum_by (λ x. g (Some x)) xs =
    sum_at f g (a + 1) xs (λ k. ap f (let e : (a + 1) + k ≡ a + suc k = omega arith in e) ∙ h (suc k)) in
    let fs : sum_by f (range_with_len a (length (x ∷ xs))) ≡ f a + sum_by f (range_with_len (a + 1) (length xs)) = sum_by-cons f a (range_with_len (a + 1) (length xs)) in
    let gs : sum_by (λ x. g (Some x)) (x ∷ xs) ≡ g (Some x) + sum_by (λ x. g (Some x)) xs = sum_by-cons (λ x. g (Some x)) x xs in
    omega arith

-- ---- nothing twice

-- a list in which nothing stands twice isn't longer than one that has all its elements
pub no_longer : {A : Type 0} (same : A → A → Bool) → IsEquality same → (xs ys : List A) → NoneTwice xs → All (Contains ys) xs → length xs ≤ length ys
no_longer same equal [] ys once within = omega arith
no_longer {A} same equal (x ∷ xs) ys once within =
    let fewer = length-filter-lt (λ y. not (same x y)) ys x (All-head (Contains ys) x xs within) (ap not ((equal x x).1 refl)) in
    let rest = no_longer same equal xs (filter (λ y. not (same x y)) ys) (AllPairs-tail (λ x y. x ≢ y) x xs once)
    (All-elements (Contains (filter (λ y. not (same x y)) ys)) xs
    (λ y e. element_kept (λ y. not (same x y)) ys y (All-contains (Contains ys) xs y (All-tail (Contains ys) x xs within) e)
    (others y (All-contains (λ y. x ≢ y) xs y (AllPairs-head (λ x y. x ≢ y) x xs once) e) (same x y) refl))) in
    omega arith
  where
    others : (y : A) → x ≢ y → (b : Bool) → same x y ≡ b → not b ≡ true
    others y ne true e = absurd (ne ((equal x y).0 e))
    others y ne false e = refl

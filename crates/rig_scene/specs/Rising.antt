-- Lemmas on lists whose frames rise: the elements up to a frame come first. A function says which frame an element has.
use Rattle.std.proofs.Common.{◌≡◌, ℕ, zero, suc, ◌<◌, ◌≤◌, ◌-◌, List, [], ◌∷◌, length, take, drop, get_or, filter, Bool, true, false, cond, Option, Some, None, ℤ, ◌≤ℤ◌, int_le, int_lt, slice_get, is_some, IfSome, nat_lt, refl, sym, ap, arith}
use Rattle.std.proofs.lemmas.Bool.{and_parts}
use Rattle.std.proofs.lemmas.Bool.Decides.{nat_tests}
use Rattle.std.proofs.lemmas.Int.{ints}
use Rattle.std.proofs.lemmas.Option.{slice_get_past, slice_get_read}
use Rattle.std.specs.Borrow.{Bor}
use Rattle.std.specs.List.{find, last_or}
use Rattle.std.specs.List.Sorted.{IsPartitionedBy}
use Rattle.std.specs.Option.{option_copied}
use Rattle.rig_scene.specs.Distinct.{are_rising}

-- the first element's frame is at or before each one's
rising-head : {A : Type 0} (f : A → ℤ) (x : A) (xs : List A) (j : ℕ) (d : A) → are_rising (λ a b. int_lt (f a) (f b)) (x ∷ xs) ≡ true → j < length (x ∷ xs) → f x ≤ℤ f (get_or (x ∷ xs) j d)
rising-head f x xs zero d rises within = grind (arith, ints)
rising-head f x [] (suc j) d rises within = absurd (omega arith)
rising-head f x (y ∷ ys) (suc j) d rises within =
    let parts = and_parts (int_lt (f x) (f y)) (are_rising (λ a b. int_lt (f a) (f b)) (y ∷ ys)) rises in
    let rest : f y ≤ℤ f (get_or (y ∷ ys) j d) = rising-head f y ys j d parts.1 (omega arith) in
    let step : int_lt (f x) (f y) ≡ true = parts.0 in
    grind (arith, ints)

-- what follows the first element rises too
rising-tail : {A : Type 0} (f : A → ℤ) (x : A) (xs : List A) → are_rising (λ a b. int_lt (f a) (f b)) (x ∷ xs) ≡ true → are_rising (λ a b. int_lt (f a) (f b)) xs ≡ true
rising-tail f x [] rises = refl
rising-tail f x (y ∷ ys) rises = (and_parts (int_lt (f x) (f y)) (are_rising (λ a b. int_lt (f a) (f b)) (y ∷ ys)) rises).1

-- a test against a frame that passes one frame passes those before it
le-earlier : (frame a b : ℤ) → a ≤ℤ b → int_le b frame ≡ true → int_le a frame ≡ true
le-earlier frame a b below passes = grind (arith, ints)

lt-earlier : (frame a b : ℤ) → a ≤ℤ b → int_lt b frame ≡ true → int_lt a frame ≡ true
lt-earlier frame a b below passes = grind (arith, ints)

-- the elements whose frames pass come first
partitioned-by : {A : Type 0} (p : ℤ → Bool) → ((a b : ℤ) → a ≤ℤ b → p b ≡ true → p a ≡ true) → (f : A → ℤ) (xs : List A) → are_rising (λ a b. int_lt (f a) (f b)) xs ≡ true → IsPartitionedBy (λ a. p (f a)) xs
partitioned-by p earlier f [] rises i j d le within passes = absurd (omega arith)
partitioned-by p earlier f (x ∷ xs) rises zero j d le within passes = earlier (f x) (f (get_or (x ∷ xs) j d)) (rising-head f x xs j d rises within) passes
partitioned-by p earlier f (x ∷ xs) rises (suc i) zero d le within passes = absurd (omega arith)
partitioned-by p earlier f (x ∷ xs) rises (suc i) (suc j) d le within passes = partitioned-by p earlier f xs (rising-tail f x xs rises) i j d (omega arith) (omega arith) passes

-- the elements up to a frame come first
pub rising-partitioned : {A : Type 0} (f : A → ℤ) (xs : List A) (frame : ℤ) → are_rising (λ a b. int_lt (f a) (f b)) xs ≡ true → IsPartitionedBy (λ a. int_le (f a) frame) xs
rising-partitioned f xs frame rises = partitioned-by (λ a. int_le a frame) (le-earlier frame) f xs rises

-- the elements before a frame come first
pub rising-partitioned_before : {A : Type 0} (f : A → ℤ) (xs : List A) (frame : ℤ) → are_rising (λ a b. int_lt (f a) (f b)) xs ≡ true → IsPartitionedBy (λ a. int_lt (f a) frame) xs
rising-partitioned_before f xs frame rises = partitioned-by (λ a. int_lt a frame) (lt-earlier frame) f xs rises

-- what passes a test is what stands before the index from which on nothing passes
pub filter-take : {A : Type 0} (p : A → Bool) (xs : List A) (n : ℕ) → n ≤ length xs → ((k : ℕ) (d : A) → k < n → p (get_or xs k d) ≡ true) → ((k : ℕ) (d : A) → n ≤ k → k < length xs → p (get_or xs k d) ≡ false) → filter p xs ≡ take n xs
filter-take p [] zero within front back = refl
filter-take p [] (suc n) within front back = absurd (omega arith)
filter-take p (x ∷ xs) zero within front back =
    let fails : p x ≡ false = back 0 x (omega arith) (omega arith) in
    let rest : filter p xs ≡ [] = filter-take p xs zero (omega arith) (λ k d h. absurd (omega arith)) (λ k d _ h. back (suc k) d (omega arith) (omega arith)) in
    rw fails rest
filter-take p (x ∷ xs) (suc n) within front back =
    let passes : p x ≡ true = front 0 x (omega arith) in
    let rest : filter p xs ≡ take n xs = filter-take p xs n (omega arith) (λ k d h. front (suc k) d (omega arith)) (λ k d h w. back (suc k) d (omega arith) (omega arith)) in
    rw passes (ap (λ ys. x ∷ ys) rest)

-- what passes a test is what stands from the index on up to which nothing passes
pub filter-drop : {A : Type 0} (p : A → Bool) (xs : List A) (n : ℕ) → n ≤ length xs → ((k : ℕ) (d : A) → k < n → p (get_or xs k d) ≡ false) → ((k : ℕ) (d : A) → n ≤ k → k < length xs → p (get_or xs k d) ≡ true) → filter p xs ≡ drop n xs
filter-drop p [] zero within front back = refl
filter-drop p [] (suc n) within front back = absurd (omega arith)
filter-drop p (x ∷ xs) zero within front back =
    let passes : p x ≡ true = back 0 x (omega arith) (omega arith) in
    let rest : filter p xs ≡ xs = filter-drop p xs zero (omega arith) (λ k d h. absurd (omega arith)) (λ k d _ h. back (suc k) d (omega arith) (omega arith)) in
    rw passes (ap (λ ys. x ∷ ys) rest)
filter-drop p (x ∷ xs) (suc n) within front back =
    let fails : p x ≡ false = front 0 x (omega arith) in
    let rest : filter p xs ≡ drop n xs = filter-drop p xs n (omega arith) (λ k d h. front (suc k) d (omega arith)) (λ k d h w. back (suc k) d (omega arith) (omega arith)) in
    rw fails rest

-- the first one that passes a test stands at the index up to which nothing passes
pub find-slice_get : {A : Type 0} (p : A → Bool) (xs : List A) (n : ℕ) → n ≤ length xs → ((k : ℕ) (d : A) → k < n → p (get_or xs k d) ≡ false) → ((k : ℕ) (d : A) → n ≤ k → k < length xs → p (get_or xs k d) ≡ true) → find p xs ≡ slice_get xs n
find-slice_get p [] n within front back = refl
find-slice_get p (x ∷ xs) zero within front back =
    let passes : p x ≡ true = back 0 x (omega arith) (omega arith) in
    rw passes refl
find-slice_get p (x ∷ xs) (suc n) within front back =
    let fails : p x ≡ false = front 0 x (omega arith) in
    let rest : find p xs ≡ slice_get xs n = find-slice_get p xs n (omega arith) (λ k d h. front (suc k) d (omega arith)) (λ k d h w. back (suc k) d (omega arith) (omega arith)) in
    rw fails rest

-- a number is either at most another or above it
pub lt-of_not_le : (a b : ℤ) → int_le a b ≡ false → int_lt b a ≡ true
lt-of_not_le a b fails = grind (arith, ints)

pub not_lt-of_le : (a b : ℤ) → int_le a b ≡ true → int_lt b a ≡ false
not_lt-of_le a b passes = grind (arith, ints)

pub le-of_not_lt : (a b : ℤ) → int_lt a b ≡ false → int_le b a ≡ true
le-of_not_lt a b fails = grind (arith, ints)

pub not_le-of_lt : (a b : ℤ) → int_lt a b ≡ true → int_le b a ≡ false
not_le-of_lt a b passes = grind (arith, ints)

-- the last element is the one at the last index
pub last_or-slice_get : {A : Type 0} (x : A) (xs : List A) → last_or (Some x) xs ≡ slice_get (x ∷ xs) (length xs)
last_or-slice_get x [] = refl
last_or-slice_get x (y ∷ ys) = last_or-slice_get y ys

pub last_or-at_last : {A : Type 0} (xs : List A) → last_or None xs ≡ slice_get xs (length xs - 1)
last_or-at_last [] = refl
last_or-at_last (x ∷ xs) =
    let e : length (x ∷ xs) - 1 ≡ length xs = omega arith in
    rw e (last_or-slice_get x xs)

-- the last of those that pass a test passes it
pub last_or-passes : {A : Type 0} (p : A → Bool) (xs : List A) (o : Option A) (y : A) → ((x : A) → o ≡ Some x → p x ≡ true) → last_or o (filter p xs) ≡ Some y → p y ≡ true
last_or-passes p [] o y known is = known y is
last_or-passes {A} p (x ∷ xs) o y known is =
    let go : (b : Bool) → p x ≡ b → last_or o (cond b (x ∷ filter p xs) (filter p xs)) ≡ Some y → p y ≡ true = λ b. elim b as (λ b. p x ≡ b → last_or o (cond b (x ∷ filter p xs) (filter p xs)) ≡ Some y → p y ≡ true) [
      | true ↦ λ passes e. last_or-passes p xs (Some x) y (λ z same. let same_one : x ≡ z = cc in rw (← same_one) passes) e
      | false ↦ λ fails e. last_or-passes p xs o y known e
    ] in
    go (p x) refl is

-- what is found passes the test
pub find-passes : {A : Type 0} (p : A → Bool) (xs : List A) (y : A) → find p xs ≡ Some y → p y ≡ true
find-passes p [] y is = cc
find-passes {A} p (x ∷ xs) y is =
    let go : (b : Bool) → p x ≡ b → cond b (Some x) (find p xs) ≡ Some y → p y ≡ true = λ b. elim b as (λ b. p x ≡ b → cond b (Some x) (find p xs) ≡ Some y → p y ≡ true) [
      | true ↦ λ passes e. let same_one : x ≡ y = cc in rw (← same_one) passes
      | false ↦ λ fails e. find-passes p xs y e
    ] in
    go (p x) refl is

-- what `get` of a slice answers
pub got : {A : Type 0} (xs : List A) (i : ℕ) (r : Option (Bor A)) → is_some r ≡ nat_lt i (length xs) → IfSome r (λ a. a.now ≡ get_or xs i a.now) → option_copied r ≡ slice_get xs i
got xs i None is at = sym (slice_get_past xs i (grind (arith, nat_tests)))
got xs i (Some a) is at = sym (slice_get_read xs (length xs) i a.now refl (grind (arith, nat_tests)) at)

-- where there is no last one of those that pass a test, the first doesn't pass
last_or-some : {A : Type 0} (x : A) (xs : List A) → last_or (Some x) xs ≡ None → ⊥
last_or-some x [] none = cc
last_or-some x (y ∷ ys) none = last_or-some y ys none

pub last_or-fails : {A : Type 0} (p : A → Bool) (x : A) (xs : List A) → last_or None (filter p (x ∷ xs)) ≡ None → p x ≡ false
last_or-fails {A} p x xs none =
    let go : (b : Bool) → p x ≡ b → last_or None (cond b (x ∷ filter p xs) (filter p xs)) ≡ None → p x ≡ false = λ b. elim b as (λ b. p x ≡ b → last_or None (cond b (x ∷ filter p xs) (filter p xs)) ≡ None → p x ≡ false) [
      | true ↦ λ passes e. absurd (last_or-some x (filter p xs) e)
      | false ↦ λ fails e. fails
    ] in
    go (p x) refl none

-- where none is found, the first doesn't pass
pub find-fails : {A : Type 0} (p : A → Bool) (x : A) (xs : List A) → find p (x ∷ xs) ≡ None → p x ≡ false
find-fails {A} p x xs none =
    let go : (b : Bool) → p x ≡ b → cond b (Some x) (find p xs) ≡ None → p x ≡ false = λ b. elim b as (λ b. p x ≡ b → cond b (Some x) (find p xs) ≡ None → p x ≡ false) [
      | true ↦ λ passes e. cc
      | false ↦ λ fails e. fails
    ] in
    go (p x) refl none

-- Lists that are mapped, joined, filtered, counted and searched, and what their elements are.
use Rattle.std.specs.Prelude.{◌≡◌, ℕ, zero, suc, ◌+◌, ◌<◌, ◌≤◌, ◌&&◌, List, [], ◌∷◌, ◌++◌, map, length, filter, Bool, true, false, Option, Some, None, slice_get, is_some, option_map, option_and_then, Contains, All}
use Rattle.std.specs.Option.{option_map_or}
use Rattle.std.specs.List.{find, flat_map, filter_map, cons_option, range_with_len, enumerate_from, slice_index_or}
use Rattle.std.proofs.Common.{⊎_elim, refl, sym, ap, subst, cond, arith, ◌∙◌, true≢false}
use Rattle.std.proofs.lemmas.List.{map-append}
use Rattle.std.proofs.lemmas.List.Elements.{All-nil, All-cons, All-head, All-tail, All-weaker, Contains-append_left, Contains-append_right, Contains-append_cases, Contains-get_or, filter-append}
use Rattle.rig_cycles.specs.Elements.{element_first, element_later, element_cases, element_none}

-- ---- what holds of each element

pub All-of_any : {X : Type 0} (P : X → Type 0) (xs : List X) → ((x : X) → P x) → All P xs
All-of_any P xs h k d l = h (slice_index_or xs k d)

pub All-one : {X : Type 0} (P : X → Type 0) (x : X) → P x → All P (x ∷ [])
All-one P x h = All-cons P x [] h (All-nil P)

pub All-range : (a n : ℕ) → All (λ k. k < a + n) (range_with_len a n)
All-range a zero = All-nil (λ k. k < a + 0)
All-range a (suc n) =
    All-cons (λ k. k < a + suc n) a (range_with_len (a + 1) n) (omega arith)
    (All-weaker (λ k. k < (a + 1) + n) (λ k. k < a + suc n) (λ k h. omega arith) (range_with_len (a + 1) n) (All-range (a + 1) n))

-- what holds of each element with its index, counted from a number on
pub All-enumerate : {X : Type 0} (P : ℕ × X → Type 0) (a : ℕ) (xs : List X) → ((i : ℕ) (x : X) → slice_get xs i ≡ Some x → P (a + i, x)) → All P (enumerate_from a xs)
All-enumerate P a [] h = All-nil P
All-enumerate P a (y ∷ ys) h =
    All-cons P (a, y) (enumerate_from (a + 1) ys) (subst (λ n. P (n, y)) (omega arith) (h 0 y refl))
    (All-enumerate P (a + 1) ys (λ i x e. subst (λ n. P (n, x)) (omega arith) (h (suc i) x e)))

-- what an option adds to a list
pub All-option : {X Y : Type 0} (P : Y → Type 0) (f : X → List Y) (o : Option X) → ((x : X) → o ≡ Some x → All P (f x)) → All P (option_map_or f o [])
All-option P f None h = All-nil P
All-option P f (Some x) h = h x refl

-- the parts of what was joined
pub All-left : {X : Type 0} (P : X → Type 0) (xs ys : List X) → All P (xs ++ ys) → All P xs
All-left P [] ys h = All-nil P
All-left P (x ∷ xs) ys h = All-cons P x xs (All-head P x (xs ++ ys) h) (All-left P xs ys (All-tail P x (xs ++ ys) h))

pub All-right : {X : Type 0} (P : X → Type 0) (xs ys : List X) → All P (xs ++ ys) → All P ys
All-right P [] ys h = h
All-right P (x ∷ xs) ys h = All-right P xs ys (All-tail P x (xs ++ ys) h)

pub All-each : {X Y : Type 0} (P : Y → Type 0) (f : X → List Y) (xs : List X) → All P (flat_map f xs) → All (λ x. All P (f x)) xs
All-each P f [] h = All-nil (λ x. All P (f x))
All-each P f (x ∷ xs) h = All-cons (λ x. All P (f x)) x xs (All-left P (f x) (flat_map f xs) h) (All-each P f xs (All-right P (f x) (flat_map f xs) h))

-- functions that agree at each element give the same list
pub map_same : {X Y : Type 0} (f g : X → Y) (xs : List X) → All (λ x. f x ≡ g x) xs → map f xs ≡ map g xs
map_same f g [] h = refl
map_same f g (x ∷ xs) h =
    let first = All-head (λ x. f x ≡ g x) x xs h in
    let rest = map_same f g xs (All-tail (λ x. f x ≡ g x) x xs h) in
    λ i. first i ∷ rest i

-- a filter of what a function gives
pub filter_of_map : {X Y : Type 0} (p : Y → Bool) (f : X → Y) (xs : List X) → filter p (map f xs) ≡ map f (filter (λ x. p (f x)) xs)
filter_of_map p f [] = refl
filter_of_map {X} p f (x ∷ xs) = by (p (f x)) (filter_of_map p f xs)
  where
    by : (b : Bool) → filter p (map f xs) ≡ map f (filter (λ x. p (f x)) xs) → cond b (f x ∷ filter p (map f xs)) (filter p (map f xs)) ≡ map f (cond b (x ∷ filter (λ x. p (f x)) xs) (filter (λ x. p (f x)) xs))
    by true e = ap (λ l. f x ∷ l) e
    by false e = e

-- a filter of what another keeps
pub filter_of_filter : {X : Type 0} (p q : X → Bool) (xs : List X) → filter p (filter q xs) ≡ filter (λ x. q x && p x) xs
filter_of_filter p q [] = refl
filter_of_filter p q (x ∷ xs) = by (q x) (filter_of_filter p q xs)
  where
    by : (b : Bool) → filter p (filter q xs) ≡ filter (λ x. q x && p x) xs → filter p (cond b (x ∷ filter q xs) (filter q xs)) ≡ cond (b && p x) (x ∷ filter (λ x. q x && p x) xs) (filter (λ x. q x && p x) xs)
    by true e = ap (λ l. cond (p x) (x ∷ l) l) e
    by false e = e

-- tests that agree at each element keep the same ones
pub filter_same : {X : Type 0} (p q : X → Bool) (xs : List X) → ((x : X) → Contains xs x → p x ≡ q x) → filter p xs ≡ filter q xs
filter_same p q [] h = refl
filter_same p q (x ∷ xs) h =
    let first = h x (element_first x xs) in
    let rest = filter_same p q xs (λ y c. h y (element_later x xs y c)) in
    λ i. cond (first i) (x ∷ rest i) (rest i)

-- a filter of joined lists, and what a function gives of them
pub filter_of_flat_map : {X Y : Type 0} (p : Y → Bool) (f : X → List Y) (xs : List X) → filter p (flat_map f xs) ≡ flat_map (λ x. filter p (f x)) xs
filter_of_flat_map p f [] = refl
filter_of_flat_map p f (x ∷ xs) = filter-append p (f x) (flat_map f xs) ∙ ap (λ l. filter p (f x) ++ l) (filter_of_flat_map p f xs)

pub map_of_flat_map : {X Y Z : Type 0} (g : Y → Z) (f : X → List Y) (xs : List X) → map g (flat_map f xs) ≡ flat_map (λ x. map g (f x)) xs
map_of_flat_map g f [] = refl
map_of_flat_map g f (x ∷ xs) = map-append g (f x) (flat_map f xs) ∙ ap (λ l. map g (f x) ++ l) (map_of_flat_map g f xs)

-- ---- elements

flat_map_at : {X Y : Type 0} (f : X → List Y) (xs : List X) (x : X) (y : Y) → Contains (f x) y → (k : ℕ) → k < length xs → slice_index_or xs k x ≡ x → Contains (flat_map f xs) y
flat_map_at f [] x y h k l s = absurd (omega arith)
flat_map_at f (z ∷ zs) x y h zero l s = Contains-append_left (f z) (flat_map f zs) y (subst (λ w. Contains (f w) y) (sym s) h)
flat_map_at f (z ∷ zs) x y h (suc k) l s = Contains-append_right (f z) (flat_map f zs) y (flat_map_at f zs x y h k (omega arith) s)

pub Contains-flat_map : {X Y : Type 0} (f : X → List Y) (xs : List X) (x : X) (y : Y) → Contains xs x → Contains (f x) y → Contains (flat_map f xs) y
Contains-flat_map f xs x y e h = flat_map_at f xs x y h e.0 e.1 e.2

-- what an element of such a list came of
pub element_of_flat_map : {X Y : Type 0} (f : X → List Y) (xs : List X) (y : Y) → Contains (flat_map f xs) y → (x : X) × Contains xs x × Contains (f x) y
element_of_flat_map f [] y e = absurd (element_none y e)
element_of_flat_map f (x ∷ xs) y e =
    ⊎_elim (λ c. (x, element_first x xs, c))
    (λ c. let found = element_of_flat_map f xs y c in (found.0, element_later x xs found.0 found.1, found.2))
    (Contains-append_cases (f x) (flat_map f xs) y e)

pub element_of_map : {X Y : Type 0} (f : X → Y) (xs : List X) (y : Y) → Contains (map f xs) y → (x : X) × Contains xs x × (f x ≡ y)
element_of_map f [] y e = absurd (element_none y e)
element_of_map f (x ∷ xs) y e =
    ⊎_elim (λ s. (x, element_first x xs, s))
    (λ c. let found = element_of_map f xs y c in (found.0, element_later x xs found.0 found.1, found.2))
    (element_cases (f x) (map f xs) y e)

pub Contains-range : (a n k : ℕ) → k < n → Contains (range_with_len a n) (a + k)
Contains-range a zero k l = absurd (omega arith)
Contains-range a (suc n) zero l = (0, omega arith, omega arith)
Contains-range a (suc n) (suc k) l = element_later a (range_with_len (a + 1) n) (a + suc k) (subst (Contains (range_with_len (a + 1) n)) (omega arith) (Contains-range (a + 1) n k (omega arith)))

pub Contains-enumerate : {X : Type 0} (a : ℕ) (xs : List X) (i : ℕ) (x : X) → slice_get xs i ≡ Some x → Contains (enumerate_from a xs) (a + i, x)
Contains-enumerate a [] i x h = absurd (cc)
Contains-enumerate a (y ∷ ys) zero x h = let same : y ≡ x = cc in let here : a ≡ a + 0 = omega arith in (0, omega arith, cc)
Contains-enumerate {X} a (y ∷ ys) (suc i) x h =
    element_later (a, y) (enumerate_from (a + 1) ys) (a + suc i, x)
    (subst (λ n. Contains (enumerate_from (a + 1) ys) (n, x)) (omega arith) (Contains-enumerate (a + 1) ys i x h))

-- what a search finds is an element, and passes the test
pub find-Some : {X : Type 0} (p : X → Bool) (xs : List X) (x : X) → find p xs ≡ Some x → Contains xs x × (p x ≡ true)
find-Some p [] x h = absurd (cc)
find-Some p (y ∷ ys) x h = by (p y) refl h (find-Some p ys x)
  where
    by : (b : Bool) → p y ≡ b → cond b (Some y) (find p ys) ≡ Some x → (find p ys ≡ Some x → Contains ys x × (p x ≡ true)) → Contains (y ∷ ys) x × (p x ≡ true)
    by true t e more = let s : y ≡ x = cc in ((0, omega arith, s), sym (ap p s) ∙ t)
    by false t e more = let f = more e in (element_later y ys x f.0, f.1)

-- what an option that was mapped came from
pub option_map-Some : {X Y : Type 0} (f : X → Y) (o : Option X) (y : Y) → option_map f o ≡ Some y → (x : X) × (o ≡ Some x) × (f x ≡ y)
option_map-Some f None y h = absurd (cc)
option_map-Some f (Some x) y h = (x, refl, cc)

pub option_and_then-Some : {X Y : Type 0} (f : X → Option Y) (o : Option X) (y : Y) → option_and_then f o ≡ Some y → (x : X) × (o ≡ Some x) × (f x ≡ Some y)
option_and_then-Some f None y h = absurd (cc)
option_and_then-Some f (Some x) y h = (x, refl, h)

-- an option that is there, and one of which a test is true
pub is_some-Some : {X : Type 0} (o : Option X) → is_some o ≡ true → (x : X) × (o ≡ Some x)
is_some-Some None h = absurd (true≢false (sym h))
is_some-Some (Some x) h = (x, refl)

pub some_where : {X : Type 0} (p : X → Bool) (o : Option X) → option_map_or p o false ≡ true → (x : X) × (o ≡ Some x) × (p x ≡ true)
some_where p None h = absurd (true≢false (sym h))
some_where p (Some x) h = (x, refl, h)

find_at : {X : Type 0} (p : X → Bool) (xs : List X) (x : X) → p x ≡ true → (k : ℕ) → k < length xs → slice_index_or xs k x ≡ x → is_some (find p xs) ≡ true
find_at p [] x h k l s = absurd (omega arith)
find_at p (y ∷ ys) x h zero l s = ap (λ b. is_some (cond b (Some y) (find p ys))) (ap p s ∙ h)
find_at p (y ∷ ys) x h (suc k) l s = by (p y) (find_at p ys x h k (omega arith) s)
  where
    by : (b : Bool) → is_some (find p ys) ≡ true → is_some (cond b (Some y) (find p ys)) ≡ true
    by true e = refl
    by false e = e

-- a search for what is there finds something
pub find-is_some : {X : Type 0} (p : X → Bool) (xs : List X) (x : X) → Contains xs x → p x ≡ true → is_some (find p xs) ≡ true
find-is_some p xs x e h = find_at p xs x h e.0 e.1 e.2

-- from a number on, so many
pub All-between : (P : ℕ → Type 0) (a n : ℕ) → ((k : ℕ) → a ≤ k → k < a + n → P k) → All P (range_with_len a n)
All-between P a zero h = All-nil P
All-between P a (suc n) h =
    All-cons P a (range_with_len (a + 1) n) (h a (omega arith) (omega arith))
    (All-between P (a + 1) n (λ k l m. h k (omega arith) (omega arith)))

-- counted from 0
pub All-numbered : {X : Type 0} (P : ℕ × X → Type 0) (xs : List X) → ((i : ℕ) (x : X) → slice_get xs i ≡ Some x → P (i, x)) → All P (enumerate_from 0 xs)
All-numbered P xs h = All-enumerate P 0 xs (λ i x e. subst (λ n. P (n, x)) (omega arith) (h i x e))

pub Contains-numbered : {X : Type 0} (xs : List X) (i : ℕ) (x : X) → slice_get xs i ≡ Some x → Contains (enumerate_from 0 xs) (i, x)
Contains-numbered xs i x e = subst (λ n. Contains (enumerate_from 0 xs) (n, x)) (omega arith) (Contains-enumerate 0 xs i x e)

pub All-below : (P : ℕ → Type 0) (n : ℕ) → ((k : ℕ) → k < n → P k) → All P (range_with_len 0 n)
All-below P n h = All-weaker (λ k. k < 0 + n) P (λ k l. h k (omega arith)) (range_with_len 0 n) (All-range 0 n)

pub Contains-below : (n k : ℕ) → k < n → Contains (range_with_len 0 n) k
Contains-below n k l = subst (λ j. Contains (range_with_len 0 n) j) (omega arith) (Contains-range 0 n k l)

-- what is an element holds of each that is one
pub All-elements : {X : Type 0} (P : X → Type 0) (xs : List X) → ((x : X) → Contains xs x → P x) → All P xs
All-elements P xs h k d l = h (slice_index_or xs k d) (Contains-get_or xs k d l)

-- what an option adds at its head
pub All-filter_map : {X Y : Type 0} (P : X → Type 0) (Q : Y → Type 0) (h : X → Option Y) (xs : List X) → ((x : X) (y : Y) → P x → h x ≡ Some y → Q y) → All P xs → All Q (filter_map h xs)
All-filter_map P Q h [] f a = All-nil Q
All-filter_map {X} {Y} P Q h (x ∷ xs) f a = by (h x) refl (All-filter_map P Q h xs f (All-tail P x xs a))
  where
    by : (o : Option Y) → h x ≡ o → All Q (filter_map h xs) → All Q (cons_option o (filter_map h xs))
    by None e rest = rest
    by (Some y) e rest = All-cons Q y (filter_map h xs) (f x y (All-head P x xs a) e) rest

kept_at : {X Y : Type 0} (h : X → Option Y) (xs : List X) (x : X) (y : Y) → h x ≡ Some y → (k : ℕ) → k < length xs → slice_index_or xs k x ≡ x → Contains (filter_map h xs) y
kept_at h [] x y e k l s = absurd (omega arith)
kept_at h (z ∷ zs) x y e zero l s =
    subst (λ o. Contains (cons_option o (filter_map h zs)) y) (sym e ∙ ap h (sym s)) (element_first y (filter_map h zs))
kept_at {X} {Y} h (z ∷ zs) x y e (suc k) l s = by (h z) (kept_at h zs x y e k (omega arith) s)
  where
    by : (o : Option Y) → Contains (filter_map h zs) y → Contains (cons_option o (filter_map h zs)) y
    by None c = c
    by (Some w) c = element_later w (filter_map h zs) y c

pub Contains-filter_map : {X Y : Type 0} (h : X → Option Y) (xs : List X) (x : X) (y : Y) → Contains xs x → h x ≡ Some y → Contains (filter_map h xs) y
Contains-filter_map h xs x y c e = kept_at h xs x y e c.0 c.1 c.2

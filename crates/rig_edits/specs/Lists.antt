-- Options, and lists that are searched or filtered.
use Rattle.std.proofs.Common.{◌≡◌, ℕ, zero, suc, ◌<◌, ◌≤◌, Bool, true, false, cond, not, List, [], ◌∷◌, length, get_or, filter, sum_by, count_by, Option, Some, None, refl, sym, ap, ◌∙◌, subst, arith, ℤ, pos, negsuc}
use Rattle.std.specs.Prelude.{IfSome, is_none, nat_lt, slice_get}
use Rattle.std.specs.List.{All, AllPairs, find, list_any, position, position_or_len}
use Rattle.std.proofs.lemmas.Bool.{or_parts, ltb-true, false≢true, true≢false}
use Rattle.std.proofs.lemmas.List.Elements.{All-cons, All-head, All-tail, All-nil, All-contains, All-filter, filter_passes}
use Rattle.std.proofs.lemmas.List.Filters.{sum_by-filter_both}
use Rattle.std.proofs.lemmas.List.Sums.{length-filter, count_by-le-length}
use Rattle.std.proofs.lemmas.Option.{cond_some, same_Some, slice_get_within, none-some}
use Rattle.rig_scene.specs.Found.{Contains-slice_get}
use Rattle.rig_scene.specs.Pairs.{AllPairs-head, AllPairs-tail}
use Rattle.rig_edits.specs.Named.{at_number}
use Rattle.rig_edits.specs.Edited.{natural}

-- ---- options

-- what isn't absent has a value
pub some_of : {A : Type 0} (o : Option A) → is_none o ≡ false → (x : A) × (o ≡ Some x)
some_of None e = absurd (true≢false e)
some_of (Some x) e = (x, refl)

-- what is absent is none
pub none_of : {A : Type 0} (o : Option A) → is_none o ≡ true → o ≡ None
none_of None e = refl
none_of (Some x) e = absurd (false≢true e)

-- what holds of a value where there is one, in two parts
pub IfSome-both : {A : Type 0} (P Q R : A → Type 0) → ((x : A) → P x → Q x → R x) → (o : Option A) → IfSome o P → IfSome o Q → IfSome o R
IfSome-both P Q R h None p q = tt
IfSome-both P Q R h (Some x) p q = h x p q

-- what holds of everything holds of a value where there is one
pub IfSome-all : {A : Type 0} (P : A → Type 0) → ((x : A) → P x) → (o : Option A) → IfSome o P
IfSome-all P h None = tt
IfSome-all P h (Some x) = h x

-- ---- lists that are searched

-- no element passes a test that none passes
pub none_passes : {A : Type 0} (p : A → Bool) (xs : List A) → list_any p xs ≡ false → All (λ x. p x ≡ false) xs
none_passes p [] e = All-nil (λ x. p x ≡ false)
none_passes p (x ∷ xs) e =
    let parts = or_parts (p x) (list_any p xs) e in
    All-cons (λ x. p x ≡ false) x xs parts.0 (none_passes p xs parts.1)

-- nothing is found where no element passes
pub find_none : {A : Type 0} (p : A → Bool) (xs : List A) → All (λ x. p x ≡ false) xs → find p xs ≡ None
find_none p [] h = refl
find_none p (x ∷ xs) h =
    ap (λ b. cond b (Some x) (find p xs)) (All-head (λ x. p x ≡ false) x xs h) ∙ find_none p xs (All-tail (λ x. p x ≡ false) x xs h)

-- where nothing is found, no element passes
pub none_found : {A : Type 0} (p : A → Bool) (xs : List A) → find p xs ≡ None → All (λ x. p x ≡ false) xs
none_found p [] e = All-nil (λ x. p x ≡ false)
none_found {A} p (x ∷ xs) e = by (none_found p xs) (p x) refl e
  where
    by : (find p xs ≡ None → All (λ x. p x ≡ false) xs) → (b : Bool) → p x ≡ b → cond b (Some x) (find p xs) ≡ None
        → All (λ x. p x ≡ false) (x ∷ xs)
    by rest true is none = cc
    by rest false is none = All-cons (λ x. p x ≡ false) x xs is (rest none)

-- what passes is found, where none before it passes
pub only_one_found : {A : Type 0} (p : A → Bool) (xs : List A) (i : ℕ) (x : A) → slice_get xs i ≡ Some x → p x ≡ true
    → AllPairs (λ y z. p z ≡ true → p y ≡ false) xs → find p xs ≡ Some x
only_one_found p [] i x at is pairs = absurd (none-some x at)
only_one_found p (y ∷ ys) zero x at is pairs =
    let here : y ≡ x = same_Some y x at in
    ap (λ b. cond b (Some y) (find p ys)) (ap p here ∙ is) ∙ ap Some here
only_one_found p (y ∷ ys) (suc i) x at is pairs =
    let before : p y ≡ false =
    All-contains (λ z. p z ≡ true → p y ≡ false) ys x (AllPairs-head (λ y z. p z ≡ true → p y ≡ false) y ys pairs) (Contains-slice_get ys i x at) is in
    ap (λ b. cond b (Some y) (find p ys)) before ∙ only_one_found p ys i x at is (AllPairs-tail (λ y z. p z ≡ true → p y ≡ false) y ys pairs)

-- an index that is found is below the length
pub position_within : {A : Type 0} (p : A → Bool) (xs : List A) (i : ℕ) → position p xs ≡ Some i → i < length xs
position_within p xs i e =
    let parts = cond_some (nat_lt (position_or_len p xs) (length xs)) (position_or_len p xs) i e in
    subst (λ n. n < length xs) parts.1 (ltb-true (position_or_len p xs) (length xs) parts.0)

-- a number of an element is below the length
pub number_within : {A : Type 0} (xs : List A) (n : ℤ) → is_none (at_number xs n) ≡ false → natural n < length xs
number_within {A} xs (pos i) e = by (slice_get xs i) refl e
  where
    by : (r : Option A) → slice_get xs i ≡ r → is_none r ≡ false → i < length xs
    by None at is = absurd (false≢true (sym is))
    by (Some x) at is = slice_get_within xs i x at
number_within xs (negsuc i) e = absurd (false≢true (sym e))

-- ---- lists that are filtered

-- what holds of each element, in two parts
pub All-both : {A : Type 0} (P Q R : A → Type 0) → ((x : A) → P x → Q x → R x) → (xs : List A) → All P xs → All Q xs → All R xs
All-both P Q R h xs p q = λ k d l. h (get_or xs k d) (p k d l) (q k d l)

-- of what is kept more is known than of all
pub All-kept : {A : Type 0} (p : A → Bool) (P : A → Type 0) (xs : List A) → All (λ x. p x ≡ true → P x) xs → All P (filter p xs)
All-kept p P xs h =
    All-both (λ x. p x ≡ true) (λ x. p x ≡ true → P x) P (λ x is f. f is) (filter p xs) (filter_passes p xs)
    (All-filter p (λ x. p x ≡ true → P x) xs h)

-- of a list at most all is kept
pub filter_shorter : {A : Type 0} (p : A → Bool) (xs : List A) → length (filter p xs) ≤ length xs
filter_shorter p xs = let e = length-filter p xs in let l = count_by-le-length p xs in omega arith

-- a sum over some of the elements is at most that over all
pub sum_kept : {A : Type 0} (f : A → ℕ) (p : A → Bool) (xs : List A) → sum_by f (filter p xs) ≤ sum_by f xs
sum_kept f p xs = let e = sum_by-filter_both p (λ x. not (p x)) (λ x. refl) f xs in omega arith

-- of some of the elements at most as many pass a test as of all
pub count_kept : {A : Type 0} (q p : A → Bool) (xs : List A) → length (filter q (filter p xs)) ≤ length (filter q xs)
count_kept q p xs =
    let some : length (filter q (filter p xs)) ≡ count_by q (filter p xs) = length-filter q (filter p xs) in
    let all : length (filter q xs) ≡ count_by q xs = length-filter q xs in
    let l : count_by q (filter p xs) ≤ count_by q xs = sum_kept (λ x. cond (q x) 1 0) p xs in
    omega arith

-- what is found is found among those that are kept, where it is kept
pub find_kept : {A : Type 0} (p q : A → Bool) → ((x : A) → p x ≡ true → q x ≡ true) → (xs : List A) → find p (filter q xs) ≡ find p xs
find_kept p q h [] = refl
find_kept {A} p q h (x ∷ xs) = by (find_kept p q h xs) (p x) (q x) refl refl
  where
    by : find p (filter q xs) ≡ find p xs → (b c : Bool) → p x ≡ b → q x ≡ c
        → find p (cond c (x ∷ filter q xs) (filter q xs)) ≡ cond b (Some x) (find p xs)
    by rest true true is kept = ap (λ b. cond b (Some x) (find p (filter q xs))) is
    by rest true false is kept = absurd (true≢false (sym (h x is) ∙ kept))
    by rest false true is kept = ap (λ b. cond b (Some x) (find p (filter q xs))) is ∙ rest
    by rest false false is kept = rest

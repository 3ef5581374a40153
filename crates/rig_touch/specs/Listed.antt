-- What a list has that was filtered and mapped, and what stands in one with more elements or fewer.
use Rattle.std.specs.Prelude.{◌≡◌, ◌<◌, ◌+◌, ◌++◌, ℕ, zero, suc, List, [], ◌∷◌, length, map, filter, Bool, true, false, not, Option, Some, None, slice_get, slice_index_or, ℤ, int_le, Contains}
use Rattle.std.specs.List.{All, last_or, position_or_len}
use Rattle.std.proofs.Common.{refl, sym, ap, cond, subst, ◌∙◌, arith}
use Rattle.std.proofs.lemmas.List.Elements.{All-head, All-tail, All-contains_itself, All-filter}
use Rattle.std.proofs.lemmas.Option.{same_Some}
use Rattle.rig_scene.specs.Keys.{key_up_to}

-- the first element
pub first_listed : {A : Type 0} (x : A) (xs : List A) → Contains (x ∷ xs) x
first_listed x xs = (0, omega arith, refl)

-- what a function makes of an element
pub Contains-map : {A B : Type 0} (f : A → B) (xs : List A) (x : A) → Contains xs x → Contains (map f xs) (f x)
Contains-map {A} f xs x c = at xs c.0 c.1 c.2
  where
    at : (xs : List A) (k : ℕ) → k < length xs → slice_index_or xs k x ≡ x → Contains (map f xs) (f x)
    at [] k l e = absurd (omega (arith, l))
    at (z ∷ zs) zero l e = (0, omega arith, ap f e)
    at (z ∷ zs) (suc k) l e = let c = at zs k (omega (arith, l)) e in (suc c.0, omega (arith, c.1), c.2)

-- an element that passes a test is kept
pub Contains-filter : {A : Type 0} (p : A → Bool) (xs : List A) (x : A) → p x ≡ true → Contains xs x → Contains (filter p xs) x
Contains-filter {A} p xs x is c = at xs c.0 c.1 c.2
  where
    later : (b : Bool) (z : A) (zs : List A) → Contains zs x → Contains (cond b (z ∷ zs) zs) x
    later true z zs c = (suc c.0, omega (arith, c.1), c.2)
    later false z zs c = c

    at : (xs : List A) (k : ℕ) → k < length xs → slice_index_or xs k x ≡ x → Contains (filter p xs) x
    at [] k l e = absurd (omega (arith, l))
    at (z ∷ zs) zero l e = subst (λ b. Contains (cond b (z ∷ filter p zs) (filter p zs)) x) (sym (ap p e ∙ is)) (0, omega arith, e)
    at (z ∷ zs) (suc k) l e = later (p z) z (filter p zs) (at zs k (omega (arith, l)) e)

-- what a function gives of an element that passes
pub kept_listed : {A B : Type 0} (f : A → B) (test : A → Bool) (xs : List A) (x : A) → Contains xs x → test x ≡ true
    → Contains (map f (filter test xs)) (f x)
kept_listed f test xs x within passes = Contains-map f (filter test xs) x (Contains-filter test xs x passes within)

-- the last of a list is one of it
last_listed : {A : Type 0} (P : A → Type 0) (before : Option A) (xs : List A) (x : A) → ((y : A) → before ≡ Some y → P y) → All P xs
    → last_or before xs ≡ Some x → P x
last_listed P before [] x first all is = first x is
last_listed P before (y ∷ ys) x first all is =
    last_listed P (Some y) ys x (λ z e. subst P (same_Some y z e) (All-head P y ys all)) (All-tail P y ys all) is

-- the key of a frame is one of the keys
pub key_listed : {K : Type 0} (frame_of : K → ℤ) (frame : ℤ) (keys : List K) (key : K) → key_up_to frame_of frame keys ≡ Some key
    → Contains keys key
key_listed frame_of frame keys key is =
    last_listed (Contains keys) None (filter (λ k. int_le (frame_of k) frame) keys) key (λ y e. cc)
    (All-filter (λ k. int_le (frame_of k) frame) (Contains keys) keys (All-contains_itself keys)) is

-- ---- one element more, or fewer

-- what is added behind changes nothing of what stands before
pub slice_get-before : {A : Type 0} (xs ys : List A) (k : ℕ) → k < length xs → slice_get (xs ++ ys) k ≡ slice_get xs k
slice_get-before [] ys k l = absurd (omega (arith, l))
slice_get-before (x ∷ xs) ys zero l = refl
slice_get-before (x ∷ xs) ys (suc k) l = slice_get-before xs ys k (omega (arith, l))

-- what is taken out changes nothing of what stands before the first of it
pub kept_before : {A : Type 0} (test : A → Bool) (xs : List A) (k : ℕ) → k < position_or_len test xs
    → slice_get (filter (λ x. not (test x)) xs) k ≡ slice_get xs k
kept_before test [] k l = refl
kept_before test (z ∷ zs) k l = by (test z) k l (kept_before test zs)
  where
    by : (b : Bool) (k : ℕ) → k < cond (not b) (1 + position_or_len test zs) 0
        → ((k : ℕ) → k < position_or_len test zs → slice_get (filter (λ x. not (test x)) zs) k ≡ slice_get zs k)
        → slice_get (cond (not b) (z ∷ filter (λ x. not (test x)) zs) (filter (λ x. not (test x)) zs)) k ≡ slice_get (z ∷ zs) k
    by true k l rest = absurd (omega (arith, l))
    by false zero l rest = refl
    by false (suc k) l rest = rest k (omega (arith, l))

-- The elements of a list, as a walk along it finds them.
use Rattle.std.specs.Prelude.{◌≡◌, ◌⊎◌, ℕ, zero, suc, ◌<◌, ◌||◌, List, [], ◌∷◌, map, length, filter, Bool, true, false, not, Contains}
use Rattle.std.specs.List.{list_any, slice_index_or}
use Rattle.std.proofs.Common.{inl, inr, ⊎_elim, refl, sym, ap, ◌∙◌, subst, arith}
use Rattle.std.proofs.lemmas.List.Elements.{All-contains, All-filter, All-contains_itself, filter_passes}
use Rattle.std.proofs.lemmas.List.Filters.{length-filter_both}
use Rattle.std.proofs.lemmas.List.Folds.{Any-from_list_any, list_any-from_Any}
use Rattle.std.proofs.lemmas.Bool.{cond-true, cond_both}

-- ---- an element is the first, or one of the others

pub element_first : {X : Type 0} (x : X) (xs : List X) → Contains (x ∷ xs) x
element_first x xs = (0, omega arith, refl)

pub element_later : {X : Type 0} (x : X) (xs : List X) (y : X) → Contains xs y → Contains (x ∷ xs) y
element_later x xs y e = (suc e.0, omega arith, e.2)

pub element_cases : {X : Type 0} (x : X) (xs : List X) (y : X) → Contains (x ∷ xs) y → (x ≡ y) ⊎ Contains xs y
element_cases x xs y e = at e.0 e.1 e.2
  where
    at : (k : ℕ) → k < length (x ∷ xs) → slice_index_or (x ∷ xs) k y ≡ y → (x ≡ y) ⊎ Contains xs y
    at zero h e = inl e
    at (suc k) h e = inr (k, omega arith, e)

pub element_none : {X : Type 0} (x : X) → Contains [] x → ⊥
element_none x e = let h : e.0 < 0 = e.1 in omega arith

-- ---- a test of the elements finds one that passes
pub any_from_element : {X : Type 0} (test : X → Bool) (xs : List X) (x : X) → Contains xs x → test x ≡ true → list_any test xs ≡ true
any_from_element test xs x e h = list_any-from_Any test xs (e.0, x, e.1, e.2, h)

pub element_from_any : {X : Type 0} (test : X → Bool) (xs : List X) → list_any test xs ≡ true → (x : X) × Contains xs x × (test x ≡ true)
element_from_any test xs h = let a = Any-from_list_any test xs h in (a.1, (a.0, a.2, a.3), a.4)

-- ---- a filter keeps the elements that pass its test, and no others

kept_step : {X : Type 0} (test : X → Bool) (y : X) (ys : List X) (x : X) → test x ≡ true → (Contains ys x → Contains (filter test ys) x) → (y ≡ x) ⊎ Contains ys x → Contains (filter test (y ∷ ys)) x
kept_step test y ys x h later = ⊎_elim here there
  where
    here : y ≡ x → Contains (filter test (y ∷ ys)) x
    here s = rw (cond-true (test y) (y ∷ filter test ys) (filter test ys) (subst (λ z. test z ≡ true) (sym s) h)) (subst (λ z. Contains (y ∷ filter test ys) z) s (element_first y (filter test ys)))

    there : Contains ys x → Contains (filter test (y ∷ ys)) x
    there c = cond_both (test y) (y ∷ filter test ys) (filter test ys) (λ l. Contains l x) (λ t. element_later y _ x (later c)) (λ t. later c)

pub element_kept : {X : Type 0} (test : X → Bool) (xs : List X) (x : X) → Contains xs x → test x ≡ true → Contains (filter test xs) x
element_kept test [] x e h = absurd (element_none x e)
element_kept test (y ∷ ys) x e h = kept_step test y ys x h (λ c. element_kept test ys x c h) (element_cases y ys x e)

pub element_of_kept : {X : Type 0} (test : X → Bool) (xs : List X) (x : X) → Contains (filter test xs) x → Contains xs x
element_of_kept test xs x e = All-contains (Contains xs) (filter test xs) x (All-filter test (Contains xs) xs (All-contains_itself xs)) e

pub kept_passes : {X : Type 0} (test : X → Bool) (xs : List X) (x : X) → Contains (filter test xs) x → test x ≡ true
kept_passes test xs x e = All-contains (λ y. test y ≡ true) (filter test xs) x (filter_passes test xs) e

-- a list is shorter without an element of it
pub length-filter-lt : {X : Type 0} (test : X → Bool) (xs : List X) (x : X) → Contains xs x → test x ≡ false → length (filter test xs) < length xs
length-filter-lt test xs x e h =
    let both = length-filter_both test (λ y. not (test y)) (λ y. refl) xs in
    let other = element_kept (λ y. not (test y)) xs x e (rw h) in
    let found : other.0 < length (filter (λ y. not (test y)) xs) = other.1 in
    omega arith

-- ---- the elements of what a function gives of each

pub element_map : {X Y : Type 0} (f : X → Y) (xs : List X) (x : X) → Contains xs x → Contains (map f xs) (f x)
element_map f [] x e = absurd (element_none x e)
element_map f (y ∷ ys) x e = ⊎_elim
    (λ s. subst (λ z. Contains (f y ∷ map f ys) (f z)) s (element_first (f y) (map f ys)))
    (λ c. element_later (f y) (map f ys) (f x) (element_map f ys x c))
    (element_cases y ys x e)

-- tests that agree at each element of a list agree over the list
pub any_of_map : {A B : Type 0} (f : A → B) (p : A → Bool) (q : B → Bool) (xs : List A) → ((x : A) → Contains xs x → q (f x) ≡ p x) → list_any q (map f xs) ≡ list_any p xs
any_of_map f p q [] h = refl
any_of_map f p q (x ∷ xs) h =
    ap (λ t. t || list_any q (map f xs)) (h x (element_first x xs)) ∙ ap (λ t. p x || t) (any_of_map f p q xs (λ y e. h y (element_later x xs y e)))

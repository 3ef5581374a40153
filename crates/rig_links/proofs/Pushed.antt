-- What is pushed onto a list of links, a piece at a time.
use Rattle.std.proofs.Common.{◌≡◌, ℕ, ◌+◌, ◌<◌, List, [], ◌∷◌, ◌++◌, length, map, drop, get_or, slice_get, Option, Some, None, Result, refl, sym, ap, ◌∙◌, subst}
use Rattle.std.specs.Prelude.{OnOk, option_and_then}
use Rattle.std.specs.Option.{option_map}
use Rattle.std.specs.List.{flat_map, cons_option, range_with_len}
use Rattle.std.proofs.lemmas.Grind.{flat_map-append}
use Rattle.std.proofs.lemmas.List.{append_assoc, append-nil, map-id, drop_more}
use Rattle.std.proofs.lemmas.List.Folds.{flat_map-map}
use Rattle.std.proofs.lemmas.List.FromFn.{map-range_with_len_more}
use Rattle.rig_nodes.specs.DriverRows.{drivers_at}
use Rattle.rig_scene.specs.declared.driver.Driver.{Driver}

-- lists that are equal, joined
pub both : {A : Type 0} {a b c d : List A} → a ≡ b → c ≡ d → a ++ c ≡ b ++ d
both e f = λ i. e i ++ f i

-- ---- one piece behind another, where the result of the last call is returned as it is

pub one_pushed : {A T E : Type 0} (r : Result T E) (old new a all : List A) → a ≡ all → OnOk r (new ≡ old ++ a) → OnOk r (new ≡ old ++ all)
one_pushed r old new a all is last = subst (λ l. OnOk r (new ≡ old ++ l)) is last

pub two_pushed : {A T E : Type 0} (r : Result T E) (old mid new a b all : List A) → mid ≡ old ++ a → a ++ b ≡ all → OnOk r (new ≡ mid ++ b) → OnOk r (new ≡ old ++ all)
two_pushed r old mid new a b all first is last =
    subst (λ l. OnOk r (new ≡ l)) (ap (λ l. l ++ b) first ∙ append_assoc old a b ∙ ap (λ l. old ++ l) is) last

pub three_pushed : {A T E : Type 0} (r : Result T E) (old m n new a b c all : List A) → m ≡ old ++ a → n ≡ m ++ b → a ++ (b ++ c) ≡ all → OnOk r (new ≡ n ++ c) → OnOk r (new ≡ old ++ all)
three_pushed r old m n new a b c all first second is last =
    two_pushed r old m new a (b ++ c) all first is (two_pushed r m n new b c (b ++ c) second refl last)

-- ---- one more in a loop

-- what a function gives of one more of the numbers in a row
pub one_more : {A : Type 0} (f : ℕ → List A) (a i j : ℕ) (old xs ys : List A) → a + i ≡ j → xs ≡ old ++ flat_map f (range_with_len a i) → ys ≡ xs ++ f j
    → ys ≡ old ++ flat_map f (range_with_len a (i + 1))
one_more f a i j old xs ys at so_far pushed =
    pushed ∙ ap (λ l. l ++ f j) so_far ∙ append_assoc old (flat_map f (range_with_len a i)) (f j)
    ∙ ap (λ l. old ++ l) (sym more)
  where
    numbers : range_with_len a (i + 1) ≡ range_with_len a i ++ j ∷ []
    numbers = sym (map-id (range_with_len a (i + 1))) ∙ map-range_with_len_more (λ n. n) a i j at ∙ ap (λ l. l ++ j ∷ []) (map-id (range_with_len a i))

    more : flat_map f (range_with_len a (i + 1)) ≡ flat_map f (range_with_len a i) ++ f j
    more = ap (flat_map f) numbers ∙ flat_map-append f (range_with_len a i) (j ∷ []) ∙ ap (λ l. flat_map f (range_with_len a i) ++ l) (append-nil (f j))

-- the same of a function that gives one
pub one_more_link : {A : Type 0} (f : ℕ → A) (a i j : ℕ) (old xs ys : List A) → a + i ≡ j → xs ≡ old ++ map f (range_with_len a i) → ys ≡ xs ++ f j ∷ []
    → ys ≡ old ++ map f (range_with_len a (i + 1))
one_more_link f a i j old xs ys at so_far pushed =
    pushed ∙ ap (λ l. l ++ f j ∷ []) so_far ∙ append_assoc old (map f (range_with_len a i)) (f j ∷ []) ∙ ap (λ l. old ++ l) (sym (map-range_with_len_more f a i j at))

-- the links of the driver at one more index of a row
pub one_more_driver : {A : Type 0} (f : Driver → List A) (drivers : List Driver) (row : List ℕ) (i e : ℕ) (d : Driver) (all xs ys : List A)
    → i < length row → slice_get drivers (get_or row i e) ≡ Some d
    → xs ++ flat_map f (drivers_at drivers (drop i row)) ≡ all → ys ≡ xs ++ f d → ys ++ flat_map f (drivers_at drivers (drop (i + 1) row)) ≡ all
one_more_driver f drivers row i e d all xs ys within at so_far pushed =
    ap (λ l. l ++ flat_map f (drivers_at drivers (drop (i + 1) row))) pushed
    ∙ append_assoc xs (f d) (flat_map f (drivers_at drivers (drop (i + 1) row)))
    ∙ ap (λ l. xs ++ flat_map f l) (sym (ap (drivers_at drivers) (drop_more row i e within) ∙ ap (λ o. cons_option o (drivers_at drivers (drop (i + 1) row))) at))
    ∙ so_far

-- ---- lists of lists

pub flat_map-flat_map : {X Y Z : Type 0} (f : Y → List Z) (g : X → List Y) (xs : List X) → flat_map f (flat_map g xs) ≡ flat_map (λ x. flat_map f (g x)) xs
flat_map-flat_map f g [] = refl
flat_map-flat_map f g (x ∷ xs) = flat_map-append f (g x) (flat_map g xs) ∙ ap (λ l. flat_map f (g x) ++ l) (flat_map-flat_map f g xs)

-- what a function gives of a first one, of those by their numbers, and of a last one
pub in_turn : {X A : Type 0} (f : X → List A) (g : ℕ → X) (first last : X) (numbers : List ℕ)
    → f first ++ (flat_map (λ n. f (g n)) numbers ++ f last) ≡ flat_map f (first ∷ (map g numbers ++ last ∷ []))
in_turn f g first last numbers =
    ap (λ l. f first ++ l)
    (sym (flat_map-append f (map g numbers) (last ∷ []) ∙ both (flat_map-map f g numbers) (append-nil (f last))))

-- an element by its index in a list that an option has
pub element_at : {A B : Type 0} (f : A → List B) (o : Option A) (xs : List B) (i : ℕ) (x : B) → option_map f o ≡ Some xs → slice_get xs i ≡ Some x
    → option_and_then (λ a. slice_get (f a) i) o ≡ Some x
element_at f None xs i x e at = absurd (cc)
element_at f (Some a) xs i x e at = let same : f a ≡ xs = cc in ap (λ l. slice_get l i) same ∙ at

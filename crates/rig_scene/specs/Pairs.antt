-- Lists in which each pair of elements stands in a relation, as those in which nothing stands twice, and those that rise.
use Rattle.std.proofs.Common.{◌≡◌, ◌≢◌, ℕ, zero, suc, ◌<◌, ◌≤◌, Bool, true, false, not, cond, List, [], ◌∷◌, ◌++◌, map, sym, ap, ◌∙◌, arith}
use Rattle.std.specs.Prelude.{IsTrue}
use Rattle.std.specs.List.{All, AllPairs, filter, flat_map, list_any, list_all, IsDistinct}
use Rattle.std.proofs.lemmas.Bool.{and_parts, or_parts, not-true, false≢true, false_from_ne_true}
use Rattle.std.proofs.lemmas.List.Elements.{All-cons, All-head, All-tail, All-append, All-filter, All-map, All-weaker, All-nil, recursion_from_All}
use Rattle.std.proofs.lemmas.List.Sums.{AllPass-from_list_all}
use Rattle.rig_scene.specs.Distinct.{are_new_after, are_distinct, are_rising}

-- ---- all pairs

module _ {A : Type 0} (R : A → A → Type 0) where
  pub AllPairs-nil : AllPairs R []
  AllPairs-nil = λ i j d l m. absurd (omega arith)

  pub AllPairs-cons : (x : A) (xs : List A) → All (R x) xs → AllPairs R xs → AllPairs R (x ∷ xs)
  AllPairs-cons x xs h t zero zero d l m = absurd (omega arith)
  AllPairs-cons x xs h t zero (suc j) d l m = h j d (omega arith)
  AllPairs-cons x xs h t (suc i) zero d l m = absurd (omega arith)
  AllPairs-cons x xs h t (suc i) (suc j) d l m = t i j d (omega arith) (omega arith)

  pub AllPairs-head : (x : A) (xs : List A) → AllPairs R (x ∷ xs) → All (R x) xs
  AllPairs-head x xs h = λ k d l. h 0 (suc k) d (omega arith) (omega arith)

  pub AllPairs-tail : (x : A) (xs : List A) → AllPairs R (x ∷ xs) → AllPairs R xs
  AllPairs-tail x xs h = λ i j d l m. h (suc i) (suc j) d (omega arith) (omega arith)

  -- two lists joined, where each of the first stands in the relation to each of the second
  pub AllPairs-append : (xs ys : List A) → AllPairs R xs → AllPairs R ys → All (λ x. All (R x) ys) xs → AllPairs R (xs ++ ys)
  AllPairs-append [] ys h k cross = k
  AllPairs-append (x ∷ xs) ys h k cross =
      AllPairs-cons x (xs ++ ys) (All-append (R x) xs ys (AllPairs-head x xs h) (All-head (λ x. All (R x) ys) x xs cross))
      (AllPairs-append xs ys (AllPairs-tail x xs h) k (All-tail (λ x. All (R x) ys) x xs cross))

  pub AllPairs-single : (x : A) → AllPairs R (x ∷ [])
  AllPairs-single x = AllPairs-cons x [] (All-nil (R x)) AllPairs-nil

  AllPairs-filter_if : (p : A → Bool) (x : A) (xs : List A) (b : Bool) → All (R x) (filter p xs) → AllPairs R (filter p xs) → AllPairs R (cond b (x ∷ filter p xs) (filter p xs))
  AllPairs-filter_if p x xs true h t = AllPairs-cons x (filter p xs) h t
  AllPairs-filter_if p x xs false h t = t

  pub AllPairs-filter : (p : A → Bool) (xs : List A) → AllPairs R xs → AllPairs R (filter p xs)
  AllPairs-filter p [] h = AllPairs-nil
  AllPairs-filter p (x ∷ xs) h =
      AllPairs-filter_if p x xs (p x) (All-filter p (R x) xs (AllPairs-head x xs h)) (AllPairs-filter p xs (AllPairs-tail x xs h))

  pub AllPairs-map : {X : Type 0} (f : X → A) (xs : List X) → AllPairs (λ x y. R (f x) (f y)) xs → AllPairs R (map f xs)
  AllPairs-map f [] h = AllPairs-nil
  AllPairs-map {X} f (x ∷ xs) h =
      AllPairs-cons (f x) (map f xs) (All-map (R (f x)) f xs (λ k d l. h 0 (suc k) d (omega arith) (omega arith)))
      (AllPairs-map f xs (λ i j d l m. h (suc i) (suc j) d (omega arith) (omega arith)))

pub All-of_map : {X A : Type 0} (P : A → Type 0) (f : X → A) (xs : List X) → All P (map f xs) → All (λ x. P (f x)) xs
All-of_map P f [] h = λ k d l. absurd (omega arith)
All-of_map P f (x ∷ xs) h = All-cons (λ x. P (f x)) x xs (All-head P (f x) (map f xs) h) (All-of_map P f xs (All-tail P (f x) (map f xs) h))

pub AllPairs-of_map : {X A : Type 0} (R : A → A → Type 0) (f : X → A) (xs : List X) → AllPairs R (map f xs) → AllPairs (λ x y. R (f x) (f y)) xs
AllPairs-of_map R f [] h = λ i j d l m. absurd (omega arith)
AllPairs-of_map R f (x ∷ xs) h =
    AllPairs-cons (λ x y. R (f x) (f y)) x xs (All-of_map (R (f x)) f xs (AllPairs-head R (f x) (map f xs) h))
    (AllPairs-of_map R f xs (AllPairs-tail R (f x) (map f xs) h))

pub AllPairs-weaker : {A : Type 0} (R S : A → A → Type 0) → ((x y : A) → R x y → S x y) → (xs : List A) → AllPairs R xs → AllPairs S xs
AllPairs-weaker R S h xs k = λ i j d l m. h _ _ (k i j d l m)

pub All-flat_map : {X A : Type 0} (P : A → Type 0) (f : X → List A) (xs : List X) → All (λ x. All P (f x)) xs → All P (flat_map f xs)
All-flat_map P f [] h = All-nil P
All-flat_map P f (x ∷ xs) h =
    All-append P (f x) (flat_map f xs) (All-head (λ x. All P (f x)) x xs h) (All-flat_map P f xs (All-tail (λ x. All P (f x)) x xs h))

-- ---- nothing stands twice

-- no two elements are equal
abbrev pub NoneTwice : {A : Type 0} → List A → Type 0
NoneTwice {A} xs = AllPairs (λ x y. x ≢ y) xs

-- lists of which each has one owner, and no two the same, joined in order
module _ {X A K : Type 0} (f : X → List A) (owner : A → K) (key : X → K) where
  pub NoneTwice-flat_map : ((x : X) → NoneTwice (f x)) → ((x : X) → All (λ a. owner a ≡ key x) (f x)) → (xs : List X) → AllPairs (λ x y. key x ≢ key y) xs → NoneTwice (flat_map f xs)
  NoneTwice-flat_map each owned [] h = AllPairs-nil (λ x y. x ≢ y)
  NoneTwice-flat_map each owned (x ∷ xs) h =
      AllPairs-append (λ x y. x ≢ y) (f x) (flat_map f xs) (each x) (NoneTwice-flat_map each owned xs (AllPairs-tail (λ x y. key x ≢ key y) x xs h))
      (All-weaker (λ a. owner a ≡ key x) (λ a. All (λ b. a ≢ b) (flat_map f xs))
      (λ a e. All-weaker (λ b. owner b ≢ key x) (λ b. a ≢ b) (λ b ne same. ne (ap owner (sym same) ∙ e)) (flat_map f xs)
      (All-flat_map (λ b. owner b ≢ key x) f xs (All-weaker (λ y. key x ≢ key y) (λ y. All (λ b. owner b ≢ key x) (f y))
      (λ y ne. All-weaker (λ b. owner b ≡ key y) (λ b. owner b ≢ key x) (λ b e same. ne (sym same ∙ e)) (f y) (owned y)) xs
      (AllPairs-head (λ x y. key x ≢ key y) x xs h)))) (f x) (owned x))

-- two lists without an element of the same mark, joined
pub NoneTwice-append : {A : Type 0} (mark : A → ℕ) (n : ℕ) (xs ys : List A) → NoneTwice xs → NoneTwice ys → All (λ a. mark a ≤ n) xs → All (λ a. n < mark a) ys → NoneTwice (xs ++ ys)
NoneTwice-append mark n xs ys h k low high =
    AllPairs-append (λ x y. x ≢ y) xs ys h k
    (All-weaker (λ a. mark a ≤ n) (λ a. All (λ b. a ≢ b) ys)
    (λ a l. All-weaker (λ b. n < mark b) (λ b. a ≢ b) (λ b m same. absurd (clash (mark a) (mark b) l m (ap mark same))) ys high) xs low)
  where
    clash : (x y : ℕ) → x ≤ n → n < y → x ≡ y → ⊥
    clash x y l m e = omega arith

-- what the tests of lists say
module _ {A : Type 0} (same : A → A → Bool) where
  pub none_same : (x : A) (xs : List A) → list_any (same x) xs ≡ false → All (λ y. same x y ≡ false) xs
  none_same x [] e = All-nil (λ y. same x y ≡ false)
  none_same x (y ∷ ys) e =
      let parts = or_parts (same x y) (list_any (same x) ys) e in
      All-cons (λ y. same x y ≡ false) y ys parts.0 (none_same x ys parts.1)

  new_after : (seen xs : List A) → IsTrue (are_new_after same seen xs) → All (λ x. All (λ y. same x y ≡ false) seen) xs × AllPairs (λ x y. same y x ≡ false) xs
  new_after seen [] is = (All-nil (λ x. All (λ y. same x y ≡ false) seen), AllPairs-nil (λ x y. same y x ≡ false))
  new_after seen (x ∷ xs) is =
      let parts = and_parts (not (list_any (same x) seen)) (are_new_after same (seen ++ x ∷ []) xs) is in
      let own = none_same x seen (not-true (list_any (same x) seen) parts.0) in
      let rest = new_after (seen ++ x ∷ []) xs parts.1 in (
        All-cons (λ x. All (λ y. same x y ≡ false) seen) x xs own
            (All-weaker (λ z. All (λ y. same z y ≡ false) (seen ++ x ∷ [])) (λ z. All (λ y. same z y ≡ false) seen) (λ z h. left (λ y. same z y ≡ false) seen (x ∷ []) h) xs rest.0),
        AllPairs-cons (λ x y. same y x ≡ false) x xs
            (All-weaker (λ z. All (λ y. same z y ≡ false) (seen ++ x ∷ [])) (λ z. same z x ≡ false) (λ z h. last (λ y. same z y ≡ false) seen x h) xs rest.0) rest.1,
      )
    where
      left : (P : A → Type 0) (us vs : List A) → All P (us ++ vs) → All P us
      left P [] vs h = All-nil P
      left P (u ∷ us) vs h = All-cons P u us (All-head P u (us ++ vs) h) (left P us vs (All-tail P u (us ++ vs) h))

      last : (P : A → Type 0) (us : List A) (x : A) → All P (us ++ x ∷ []) → P x
      last P [] x h = All-head P x [] h
      last P (u ∷ us) x h = last P us x (All-tail P u (us ++ x ∷ []) h)

  -- no later one is the same as an earlier one
  pub pairs_from_distinct : (xs : List A) → IsTrue (are_distinct same xs) → AllPairs (λ x y. same y x ≡ false) xs
  pairs_from_distinct xs is = (new_after [] xs is).1

  -- under a test that takes each for the same as itself nothing stands twice
  pub none_twice : ((x : A) → same x x ≡ true) → (xs : List A) → IsTrue (are_distinct same xs) → NoneTwice xs
  none_twice itself xs is =
      AllPairs-weaker (λ x y. same y x ≡ false) (λ x y. x ≢ y) (λ x y e eq. false≢true (sym e ∙ ap (same y) eq ∙ itself y)) xs (pairs_from_distinct xs is)

-- where nothing stands twice, the list is distinct by a test that takes equal ones alone for the same
pub distinct_keys : {A : Type 0} (same : A → A → Bool) → ((x y : A) → same x y ≡ true → x ≡ y) → (xs : List A) → NoneTwice xs → IsDistinct same xs
unfolding IsDistinct
distinct_keys same equal [] once = tt
distinct_keys same equal (x ∷ xs) once = (
  recursion_from_All (λ y. same x y ≡ false) xs
      (All-weaker (λ y. x ≢ y) (λ y. same x y ≡ false) (λ y ne. false_from_ne_true (same x y) (λ e. ne (equal x y e))) xs (AllPairs-head (λ x y. x ≢ y) x xs once)),
  distinct_keys same equal xs (AllPairs-tail (λ x y. x ≢ y) x xs once),
)

-- by what a function gives of each
pub none_twice_by : {X A : Type 0} (same : A → A → Bool) (f : X → A) → ((x : A) → same x x ≡ true) → (xs : List X) → IsTrue (are_distinct same (map f xs)) → AllPairs (λ x y. f x ≢ f y) xs
none_twice_by same f itself xs is = AllPairs-of_map (λ x y. x ≢ y) f xs (none_twice same itself (map f xs) is)

-- where each is below the next, each is below all that come after it
module _ {A : Type 0} (below : A → A → Bool) (through : (x y z : A) → IsTrue (below x y) → IsTrue (below y z) → IsTrue (below x z)) where
  above_head : (x : A) (xs : List A) → IsTrue (are_rising below (x ∷ xs)) → All (λ y. IsTrue (below x y)) xs
  above_head x [] is = All-nil (λ y. IsTrue (below x y))
  above_head x (y ∷ ys) is =
      let parts = and_parts (below x y) (are_rising below (y ∷ ys)) is in
      All-cons (λ y. IsTrue (below x y)) y ys parts.0
      (All-weaker (λ z. IsTrue (below y z)) (λ z. IsTrue (below x z)) (λ z h. through x y z parts.0 h) ys (above_head y ys parts.1))

  pub pairs_from_rising : (xs : List A) → IsTrue (are_rising below xs) → AllPairs (λ x y. IsTrue (below x y)) xs
  pairs_from_rising [] is = AllPairs-nil (λ x y. IsTrue (below x y))
  pairs_from_rising (x ∷ []) is = AllPairs-single (λ x y. IsTrue (below x y)) x
  pairs_from_rising (x ∷ y ∷ ys) is =
      AllPairs-cons (λ x y. IsTrue (below x y)) x (y ∷ ys) (above_head x (y ∷ ys) is)
      (pairs_from_rising (y ∷ ys) (and_parts (below x y) (are_rising below (y ∷ ys)) is).1)

-- each passes a test that all pass
pub all_pass : {A : Type 0} (p : A → Bool) (xs : List A) → IsTrue (list_all p xs) → All (λ x. IsTrue (p x)) xs
all_pass p xs is = AllPass-from_list_all p xs is

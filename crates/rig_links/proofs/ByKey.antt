-- Links in rows, and the rows of a scene's links.
use Rattle.std.proofs.Common.{◌≡◌, ℕ, zero, suc, ◌+◌, ◌<◌, Bool, true, false, cond, List, [], ◌∷◌, ◌++◌, length, map, filter, get_or, slice_get, Option, Some, refl, sym, ap, ◌∙◌, subst, arith}
use Rattle.std.specs.Prelude.{◌==◌, option_map}
use Rattle.std.specs.List.{All, filter_map, cons_option, flat_map, range_with_len, enumerate_from}
use Rattle.std.proofs.lemmas.Bool.{cond-true, cond-false, false_from_ne_true}
use Rattle.std.proofs.lemmas.Bool.Decides.{Decides-eqb}
use Rattle.std.proofs.lemmas.List.Elements.{All-nil, All-append, All-filter, All-head, All-map, All-tail, All-weaker, filter-append}
use Rattle.std.proofs.lemmas.List.{length-map}
use Rattle.std.proofs.lemmas.List.FromFn.{length-enumerate_from, get_or-enumerate_from}
use Rattle.rig_rows.specs.Rows.{joined, grouped, indices_of, values_at}

-- ---- values by key

module _ {X V : Type 0} (f : X → ℕ) (g : X → V) (key : ℕ) where
  one_index : (at : ℕ → Option V) (n : ℕ) (x : X) (xs : List X) → at n ≡ Some (g x)
      → filter_map at (map (λ (e : ℕ × ℕ). e.0) (filter (λ (e : ℕ × ℕ). e.1 == key) (enumerate_from (n + 1) (map f xs)))) ≡ map g (filter (λ x. f x == key) xs)
      → (b : Bool) → filter_map at (map (λ (e : ℕ × ℕ). e.0) (cond b ((n, f x) ∷ filter (λ (e : ℕ × ℕ). e.1 == key) (enumerate_from (n + 1) (map f xs))) (filter (λ (e : ℕ × ℕ). e.1 == key) (enumerate_from (n + 1) (map f xs)))))
      ≡ map g (cond b (x ∷ filter (λ x. f x == key) xs) (filter (λ x. f x == key) xs))
  one_index at n x xs here rest true =
      ap (λ o. cons_option o (filter_map at (map (λ (e : ℕ × ℕ). e.0) (filter (λ (e : ℕ × ℕ). e.1 == key) (enumerate_from (n + 1) (map f xs)))))) here ∙ ap (λ l. g x ∷ l) rest
  one_index at n x xs here rest false = rest

  -- the values at the indices of a key, where a function gives the value of an index
  at_indices : (at : ℕ → Option V) (n : ℕ) (xs : List X) → ((k : ℕ) → k < length xs → at (n + k) ≡ option_map g (slice_get xs k))
      → filter_map at (map (λ (e : ℕ × ℕ). e.0) (filter (λ (e : ℕ × ℕ). e.1 == key) (enumerate_from n (map f xs)))) ≡ map g (filter (λ x. f x == key) xs)
  at_indices at n [] gives = refl
  at_indices at n (x ∷ xs) gives =
      one_index at n x xs (ap at (omega arith) ∙ gives 0 (omega arith)) (at_indices at (n + 1) xs (λ k l. ap at (omega arith) ∙ gives (suc k) (omega arith))) (f x == key)

slice_get-of_map : {X V : Type 0} (g : X → V) (xs : List X) (k : ℕ) → slice_get (map g xs) k ≡ option_map g (slice_get xs k)
slice_get-of_map g [] k = refl
slice_get-of_map g (x ∷ xs) zero = refl
slice_get-of_map g (x ∷ xs) (suc k) = slice_get-of_map g xs k

pub map_alike : {A B : Type 0} (f g : A → B) → ((a : A) → f a ≡ g a) → (xs : List A) → map f xs ≡ map g xs
map_alike f g same [] = refl
map_alike f g same (x ∷ xs) = ap (λ y. y ∷ map f xs) (same x) ∙ ap (λ l. g x ∷ l) (map_alike f g same xs)

pub map_alike_at : {A B : Type 0} (f g : A → B) (P : A → Type 0) → ((a : A) → P a → f a ≡ g a) → (xs : List A) → All P xs → map f xs ≡ map g xs
map_alike_at f g P same [] h = refl
map_alike_at f g P same (x ∷ xs) h = ap (λ y. y ∷ map f xs) (same x (All-head P x xs h)) ∙ ap (λ l. g x ∷ l) (map_alike_at f g P same xs (All-tail P x xs h))

pub map_twice : {A B C : Type 0} (g : B → C) (f : A → B) (xs : List A) → map g (map f xs) ≡ map (λ x. g (f x)) xs
map_twice g f [] = refl
map_twice g f (x ∷ xs) = ap (λ l. g (f x) ∷ l) (map_twice g f xs)

-- values that are selected by indices that are grouped by key
pub selected_by_key : {X V : Type 0} (f : X → ℕ) (g : X → V) (xs : List X) (count : ℕ)
    → map (values_at (map g xs)) (grouped count (map f xs)) ≡ map (λ n. map g (filter (λ x. f x == n) xs)) (range_with_len 0 count)
selected_by_key f g xs count =
    map_twice (values_at (map g xs)) (λ n. indices_of n (map f xs)) (range_with_len 0 count)
    ∙ map_alike (λ n. values_at (map g xs) (indices_of n (map f xs))) (λ n. map g (filter (λ x. f x == n) xs))
    (λ n. at_indices f g n (λ i. slice_get (map g xs) i) 0 xs (λ k l. ap (slice_get (map g xs)) {x = 0 + k} (omega arith) ∙ slice_get-of_map g xs k)) (range_with_len 0 count)

-- ---- rows of what is in the order of its keys

module _ {L : Type 0} (key : L → ℕ) where
  all_pass : (n : ℕ) (ls : List L) → All (λ l. key l ≡ n) ls → filter (λ l. key l == n) ls ≡ ls
  all_pass n [] same = refl
  all_pass n (l ∷ ls) same =
      cond-true (key l == n) (l ∷ filter (λ l. key l == n) ls) (filter (λ l. key l == n) ls) ((Decides-eqb (key l) n).1 (All-head (λ l. key l ≡ n) l ls same))
      ∙ ap (λ r. l ∷ r) (all_pass n ls (All-tail (λ l. key l ≡ n) l ls same))

  none_passes : (n m : ℕ) (ls : List L) → All (λ l. key l ≡ m) ls → (m ≡ n → ⊥) → filter (λ l. key l == n) ls ≡ []
  none_passes n m [] same other = refl
  none_passes n m (l ∷ ls) same other =
      cond-false (key l == n) (l ∷ filter (λ l. key l == n) ls) (filter (λ l. key l == n) ls)
      (false_from_ne_true (key l == n) (λ t. other (sym (All-head (λ l. key l ≡ m) l ls same) ∙ (Decides-eqb (key l) n).0 t)))
      ∙ none_passes n m ls (All-tail (λ l. key l ≡ m) l ls same) other

  -- the rows of elements in a row, of which each has what has its index as key
  abbrev pub AreKeyed : {X : Type 0} → (X → List L) → ℕ → List X → Type 0
  AreKeyed {X} of a xs = (k : ℕ) (x : X) → slice_get xs k ≡ Some x → All (λ l. key l ≡ a + k) (of x)

  pub keyed_tail : {X : Type 0} (of : X → List L) (a : ℕ) (x : X) (xs : List X) → AreKeyed of a (x ∷ xs) → AreKeyed of (a + 1) xs
  keyed_tail of a x xs keyed k y at = All-weaker (λ l. key l ≡ a + suc k) (λ l. key l ≡ a + 1 + k) (λ l e. omega (arith, e)) (of y) (keyed (suc k) y at)

  pub keyed_head : {X : Type 0} (of : X → List L) (a : ℕ) (x : X) (xs : List X) → AreKeyed of a (x ∷ xs) → All (λ l. key l ≡ a) (of x)
  keyed_head of a x xs keyed = All-weaker (λ l. key l ≡ a + 0) (λ l. key l ≡ a) (λ l e. omega (arith, e)) (of x) (keyed 0 x refl)

  -- none of a key below
  none_below : {X : Type 0} (of : X → List L) (n a : ℕ) (xs : List X) → n < a → AreKeyed of a xs → filter (λ l. key l == n) (flat_map of xs) ≡ []
  none_below of n a [] h keyed = refl
  none_below of n a (x ∷ xs) h keyed =
      filter-append (λ l. key l == n) (of x) (flat_map of xs)
      ∙ ap (λ r. r ++ filter (λ l. key l == n) (flat_map of xs)) (none_passes n a (of x) (keyed_head of a x xs keyed) (λ e. omega (arith, e)))
      ∙ none_below of n (a + 1) xs (omega arith) (keyed_tail of a x xs keyed)

  -- those of the numbers from one on that are above another
  later_rows : {X : Type 0} (of : X → List L) (a b : ℕ) (x : X) (xs : List X) (n : ℕ) → All (λ l. key l ≡ a) (of x) → a < b
      → map (λ n. filter (λ l. key l == n) (of x ++ flat_map of xs)) (range_with_len b n) ≡ map (λ n. filter (λ l. key l == n) (flat_map of xs)) (range_with_len b n)
  later_rows of a b x xs zero same h = refl
  later_rows of a b x xs (suc n) same h =
      ap (λ r. r ∷ map (λ n. filter (λ l. key l == n) (of x ++ flat_map of xs)) (range_with_len (b + 1) n))
      (filter-append (λ l. key l == b) (of x) (flat_map of xs)
      ∙ ap (λ r. r ++ filter (λ l. key l == b) (flat_map of xs)) (none_passes b a (of x) same (λ e. omega (arith, e))))
      ∙ ap (λ r. filter (λ l. key l == b) (flat_map of xs) ∷ r) (later_rows of a (b + 1) x xs n same (omega arith))

  pub rows_are : {X : Type 0} (of : X → List L) (a : ℕ) (xs : List X) → AreKeyed of a xs
      → map (λ n. filter (λ l. key l == n) (flat_map of xs)) (range_with_len a (length xs)) ≡ map of xs
  rows_are of a [] keyed = refl
  rows_are of a (x ∷ xs) keyed =
      ap (λ r. r ∷ map (λ n. filter (λ l. key l == n) (of x ++ flat_map of xs)) (range_with_len (a + 1) (length xs)))
      (filter-append (λ l. key l == a) (of x) (flat_map of xs)
      ∙ ap (λ r. r ++ filter (λ l. key l == a) (flat_map of xs)) (all_pass a (of x) (keyed_head of a x xs keyed))
      ∙ ap (λ r. of x ++ r) (none_below of a (a + 1) xs (omega arith) (keyed_tail of a x xs keyed))
      ∙ nothing_more (of x))
      ∙ ap (λ r. of x ∷ r) (later_rows of a (a + 1) x xs (length xs) (keyed_head of a x xs keyed) (omega arith) ∙ rows_are of (a + 1) xs (keyed_tail of a x xs keyed))
    where
      nothing_more : (ls : List L) → ls ++ [] ≡ ls
      nothing_more [] = refl
      nothing_more (l ∷ ls) = ap (λ r. l ∷ r) (nothing_more ls)

-- ---- what the calls ask

-- the indices of a key are those of the keys
indices_within : (key : ℕ) (keys : List ℕ) → All (λ i. i < length keys) (indices_of key keys)
indices_within key keys =
    All-map (λ i. i < length keys) (λ (e : ℕ × ℕ). e.0) (filter (λ (e : ℕ × ℕ). e.1 == key) (enumerate_from 0 keys))
    (All-filter (λ (e : ℕ × ℕ). e.1 == key) (λ e. e.0 < length keys) (enumerate_from 0 keys) (λ k d l.
    let within : k < length keys = omega (arith, length-enumerate_from 0 keys) in
    let at : (get_or (enumerate_from 0 keys) k d).0 ≡ 0 + k = ap (λ (e : ℕ × ℕ). e.0) (get_or-enumerate_from 0 keys k d within) in
    omega arith))

all_within : (keys : List ℕ) (ns : List ℕ) → All (λ i. i < length keys) (joined (map (λ key. indices_of key keys) ns))
all_within keys [] = All-nil (λ i. i < length keys)
all_within keys (n ∷ ns) = All-append (λ i. i < length keys) (indices_of n keys) (joined (map (λ key. indices_of key keys) ns)) (indices_within n keys) (all_within keys ns)

pub grouped_within : {X V : Type 0} (f : X → ℕ) (g : X → V) (xs : List X) (count : ℕ) (keys : List ℕ) (values : List V) (rows : List (List ℕ))
    → keys ≡ map f xs → values ≡ map g xs → rows ≡ grouped count keys → All (λ i. i < length values) (joined rows)
grouped_within f g xs count keys values rows k v r =
    let long : length values ≡ length keys = ap length v ∙ length-map xs g ∙ sym (length-map xs f) ∙ sym (ap length k) in
    subst (λ n. All (λ i. i < n) (joined rows)) (sym long) (subst (λ rs. All (λ i. i < length keys) (joined rs)) (sym r) (all_within keys (range_with_len 0 count)))

pub rows_selected : {X V : Type 0} (f : X → ℕ) (g : X → V) (xs : List X) (count : ℕ) (keys : List ℕ) (values : List V) (rows : List (List ℕ))
    → keys ≡ map f xs → values ≡ map g xs → rows ≡ grouped count keys → map (values_at values) rows ≡ map (λ n. map g (filter (λ x. f x == n) xs)) (range_with_len 0 count)
rows_selected f g xs count keys values rows k v r =
    ap (λ vs. map (values_at vs) rows) v ∙ ap (map (values_at (map g xs))) (r ∙ ap (grouped count) k) ∙ selected_by_key f g xs count

pub keys_within : {X : Type 0} (f : X → ℕ) (xs : List X) (count : ℕ) (keys : List ℕ) → keys ≡ map f xs → All (λ x. f x < count) xs → All (λ key. key < count) keys
keys_within f xs count keys k h = subst (λ ks. All (λ key. key < count) ks) (sym k) (All-map (λ key. key < count) f xs h)

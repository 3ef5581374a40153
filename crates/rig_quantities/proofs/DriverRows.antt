-- The drivers at the indices of an id's slot are the drivers of that id.
use Rattle.std.proofs.Common.{◌≡◌, ℕ, suc, ◌+◌, ◌<◌, Bool, true, false, cond, List, [], ◌∷◌, ◌++◌, length, get_or, drop, map, filter, Some, refl, sym, ap, ◌∙◌, arith, append_assoc}
use Rattle.std.proofs.lemmas.List.{drop_more, length_push}
use Rattle.std.proofs.lemmas.List.Elements.{All-cons, All-nil, All-head, All-tail, All-weaker}
use Rattle.std.proofs.lemmas.List.FromFn.{length-map-range_with_len, get_or-map-range_with_len}
use Rattle.std.proofs.lemmas.Option.{slice_get-get_or, slice_get_read}
use Rattle.std.specs.Prelude.{◌==◌, slice_get}
use Rattle.std.specs.List.{All, flat_map, enumerate_from}
use Rattle.std.specs.Option.{option_map_or}
use Rattle.rig_rows.specs.Rows.{grouped, indices_of}
use Rattle.rig_scene.specs.declared.driver.Driver.{Driver}
use Rattle.rig_scene.specs.declared.path.Path.{Path}
use Rattle.rig_scene.specs.declared.quantity.Quantity.{Quantity}
use Rattle.rig_scene.specs.declared.quantity.Quantity.TheVariants.{Chan}
use Rattle.rig_quantities.specs.Slots.{chans_at}

-- the row of a number
pub row_is : (count : ℕ) (keys : List ℕ) (k : ℕ) → k < count → slice_get (grouped count keys) k ≡ Some (indices_of k keys)
row_is count keys k l =
    slice_get-get_or (grouped count keys) k [] (rw length-map-range_with_len l)
    ∙ ap Some (get_or-map-range_with_len (λ key. indices_of key keys) 0 count k k [] l (omega arith))

module _ {X : Type 0} (key : X → ℕ) (k : ℕ) where
  -- the indices from a number on
  abbrev indices_from : ℕ → List X → List ℕ
  indices_from n xs = map (λ e. e.0) (filter (λ e. e.1 == k) (enumerate_from n (map key xs)))

  below_if : (n : ℕ) (x : X) (xs : List X) (b : Bool) → All (λ i. i < suc n + length xs) (indices_from (n + 1) xs)
      → All (λ i. i < n + length (x ∷ xs)) (map (λ e. e.0) (cond b ((n, key x) ∷ filter (λ e. e.1 == k) (enumerate_from (n + 1) (map key xs))) (filter (λ e. e.1 == k) (enumerate_from (n + 1) (map key xs)))))
  below_if n x xs true rest = All-cons (λ i. i < n + length (x ∷ xs)) n (indices_from (n + 1) xs) (omega arith) (All-weaker (λ i. i < suc n + length xs) (λ i. i < n + length (x ∷ xs)) (λ i l. omega arith) (indices_from (n + 1) xs) rest)
  below_if n x xs false rest = All-weaker (λ i. i < suc n + length xs) (λ i. i < n + length (x ∷ xs)) (λ i l. omega arith) (indices_from (n + 1) xs) rest

  below_from : (n : ℕ) (xs : List X) → All (λ i. i < n + length xs) (indices_from n xs)
  below_from n [] = All-nil (λ i. i < n + 0)
  below_from n (x ∷ xs) =
      let e : suc n ≡ n + 1 = omega arith in
      below_if n x xs (key x == k) (rw e (below_from (n + 1) xs))

  -- each is the index of an element
  pub indices_below : (xs : List X) → All (λ i. i < length xs) (indices_of k (map key xs))
  indices_below xs = All-weaker (λ i. i < 0 + length xs) (λ i. i < length xs) (λ i l. omega arith) (indices_of k (map key xs)) (below_from 0 xs)

  -- the element at the length of what stands before
  at_length : (before : List X) (x : X) (xs : List X) → slice_get (before ++ x ∷ xs) (length before) ≡ Some x
  at_length [] x xs = refl
  at_length (y ∷ ys) x xs = at_length ys x xs

  module _ {A : Type 0} (value : X → A) where
    -- the values at these indices
    abbrev values_at : List X → List ℕ → List A
    values_at all indices = flat_map (λ i. option_map_or (λ x. value x ∷ []) (slice_get all i) []) indices

    picked_if : (before : List X) (x : X) (xs : List X) (b : Bool)
        → values_at (before ++ x ∷ xs) (indices_from (length before + 1) xs) ≡ map value (filter (λ x. key x == k) xs)
        → values_at (before ++ x ∷ xs) (map (λ e. e.0) (cond b ((length before, key x) ∷ filter (λ e. e.1 == k) (enumerate_from (length before + 1) (map key xs))) (filter (λ e. e.1 == k) (enumerate_from (length before + 1) (map key xs)))))
        ≡ map value (cond b (x ∷ filter (λ x. key x == k) xs) (filter (λ x. key x == k) xs))
    picked_if before x xs true rest =
        ap (λ o. option_map_or (λ x. value x ∷ []) o [] ++ values_at (before ++ x ∷ xs) (indices_from (length before + 1) xs)) (at_length before x xs)
        ∙ ap (λ vs. value x ∷ vs) rest
    picked_if before x xs false rest = rest

    picked_from : (before xs : List X) → values_at (before ++ xs) (indices_from (length before) xs) ≡ map value (filter (λ x. key x == k) xs)
    picked_from before [] = refl
    picked_from before (x ∷ xs) =
        let joined : (before ++ x ∷ []) ++ xs ≡ before ++ x ∷ xs = append_assoc before (x ∷ []) xs in
        let long : length (before ++ x ∷ []) ≡ length before + 1 = length_push before x in
        let rest : values_at (before ++ x ∷ xs) (indices_from (length before + 1) xs) ≡ map value (filter (λ x. key x == k) xs) =
        ap (λ all. values_at all (indices_from (length before + 1) xs)) (sym joined)
        ∙ ap (λ n. values_at ((before ++ x ∷ []) ++ xs) (indices_from n xs)) (sym long)
        ∙ picked_from (before ++ x ∷ []) xs in
        picked_if before x xs (key x == k) rest

    -- the values at the indices of a key are those of the elements that have it
    pub picked : (xs : List X) → values_at xs (indices_of k (map key xs)) ≡ map value (filter (λ x. key x == k) xs)
    picked xs = picked_from [] xs

-- two tests that agree at each element of a list keep the same elements
pub filter_agree_within : {X : Type 0} (p q : X → Bool) (xs : List X) → All (λ x. p x ≡ q x) xs → filter p xs ≡ filter q xs
filter_agree_within p q [] h = refl
filter_agree_within p q (x ∷ xs) h =
    ap (λ b. cond b (x ∷ filter p xs) (filter p xs)) (All-head (λ x. p x ≡ q x) x xs h)
    ∙ ap (λ ys. cond (q x) (x ∷ ys) ys) (filter_agree_within p q xs (All-tail (λ x. p x ≡ q x) x xs h))

-- one more index
pub chans_step : (drivers : List Driver) (indices : List ℕ) (n : ℕ) (d : Driver) (path : Path) (items new all : List Quantity)
    → n < length indices → get_or indices n 0 < length drivers → d ≡ get_or drivers (get_or indices n 0) d → path ≡ d.path
    → new ≡ items ++ Chan d.id path ∷ [] → items ++ chans_at drivers (drop n indices) ≡ all → new ++ chans_at drivers (drop (n + 1) indices) ≡ all
chans_step drivers indices n d path items new all l within at same added e =
    let there : slice_get drivers (get_or indices n 0) ≡ Some d = slice_get_read drivers (length drivers) (get_or indices n 0) d refl within at in
    let rest : chans_at drivers (drop n indices) ≡ Chan d.id path ∷ chans_at drivers (drop (n + 1) indices) =
    ap (chans_at drivers) (drop_more indices n 0 l)
    ∙ ap (λ o. option_map_or (λ d. Chan d.id d.path ∷ []) o [] ++ chans_at drivers (drop (n + 1) indices)) there
    ∙ ap (λ p. Chan d.id p ∷ chans_at drivers (drop (n + 1) indices)) (sym same) in
    ap (λ items. items ++ chans_at drivers (drop (n + 1) indices)) added
    ∙ append_assoc items (Chan d.id path ∷ []) (chans_at drivers (drop (n + 1) indices))
    ∙ ap (λ chans. items ++ chans) (sym rest) ∙ e

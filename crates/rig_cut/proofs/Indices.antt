-- The rows of keys: the indices of each key.
use Rattle.std.specs.Prelude.{slice_index, slice_get, Some, Contains}
use Rattle.std.specs.List.{All, enumerate_from}
use Rattle.std.proofs.Common.{◌≡◌, ℕ, ◌+◌, ◌<◌, ◌==◌, List, [], length, filter, get_or, refl, sym, ap, ◌∙◌, subst, arith}
use Rattle.std.proofs.lemmas.Bool.{eqb-true, eq-eqb}
use Rattle.std.proofs.lemmas.Option.{get_or_from_slice_get}
use Rattle.std.proofs.lemmas.List.{get_or_default}
use Rattle.std.proofs.lemmas.List.FromFn.{get_or-map-range_with_len, get_or-enumerate_from, length-enumerate_from, length-map-range_with_len}
use Rattle.std.proofs.lemmas.List.Elements.{All-map, All-filter, filter_passes, All-contains}
use Rattle.rig_cycles.specs.Elements.{element_map, element_kept}
use Rattle.rig_rows.specs.Rows.{indices_of, grouped}

pub length-grouped : (count : ℕ) (keys : List ℕ) → length (grouped count keys) ≡ count
length-grouped count keys = length-map-range_with_len (λ key. indices_of key keys) 0 count

-- a row of what is grouped
pub row_of_key : (count : ℕ) (keys : List ℕ) (key : ℕ) (row : List ℕ) → key < count → slice_get (grouped count keys) key ≡ Some row → row ≡ indices_of key keys
row_of_key count keys key row h e =
    sym (get_or_from_slice_get (grouped count keys) key row [] e) ∙ get_or-map-range_with_len (λ k. indices_of k keys) 0 count key key [] h (omega arith)

-- a key and its index
abbrev IsEntry : List ℕ → ℕ × ℕ → Type 0
IsEntry keys e = (e.0 < length keys) × (slice_index keys e.0 ≡ e.1)

entry : (keys : List ℕ) → All (IsEntry keys) (enumerate_from 0 keys)
entry keys i d h =
    let lower : i < length keys = omega (arith, length-enumerate_from 0 keys) in
    subst (λ e. IsEntry keys e) (sym (get_or-enumerate_from 0 keys i d lower))
    (let low : 0 + i < length keys = omega arith in (low, get_or_default keys (0 + i) 0 d.1 low ∙ ap (λ k. get_or keys k d.1) (let e : 0 + i ≡ i = omega arith in e)))

-- each index of a row is one of a key that is the row's
pub each_of_row : (keys : List ℕ) (key : ℕ) → All (λ j. (j < length keys) × (slice_index keys j ≡ key)) (indices_of key keys)
each_of_row keys key =
    All-map (λ j. (j < length keys) × (slice_index keys j ≡ key)) (λ e. e.0) (filter (λ e. e.1 == key) (enumerate_from 0 keys))
    (λ i d h.
    let at = All-filter (λ e. e.1 == key) (IsEntry keys) (enumerate_from 0 keys) (entry keys) i d h in
    let passes = filter_passes (λ (e : ℕ × ℕ). e.1 == key) (enumerate_from 0 keys) i d h in
    (at.0, at.1 ∙ eqb-true _ key passes))

pub row_below : (keys : List ℕ) (key : ℕ) → All (λ j. j < length keys) (indices_of key keys)
row_below keys key i d h = (each_of_row keys key i d h).0

pub row_key : (keys : List ℕ) (key j : ℕ) → Contains (indices_of key keys) j → slice_index keys j ≡ key
row_key keys key j e = (All-contains (λ k. (k < length keys) × (slice_index keys k ≡ key)) (indices_of key keys) j (each_of_row keys key) e).1

-- each index of a key is in the key's row
pub in_row : (keys : List ℕ) (key j : ℕ) → j < length keys → slice_index keys j ≡ key → Contains (indices_of key keys) j
in_row keys key j h e =
    let lower : j < length (enumerate_from 0 keys) = omega (arith, length-enumerate_from 0 keys) in
    let at : get_or (enumerate_from 0 keys) j (j, key) ≡ (j, key) = get_or-enumerate_from 0 keys j (j, key) h ∙ ap (λ k. (k, get_or keys j key)) (let z : 0 + j ≡ j = omega arith in z) ∙ ap (λ k. (j, k)) (get_or_default keys j key 0 h ∙ e) in
    element_map (λ e. e.0) (filter (λ e. e.1 == key) (enumerate_from 0 keys)) (j, key)
    (element_kept (λ e. e.1 == key) (enumerate_from 0 keys) (j, key) (j, lower, at) (eq-eqb key key refl))

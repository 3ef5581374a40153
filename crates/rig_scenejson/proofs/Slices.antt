-- Items of a value as those of the slice that they are read from.
use Rattle.std.proofs.Common.{◌≡◌, ℕ, zero, suc, ◌<◌, ◌≤◌, List, [], ◌∷◌, length, get_or, Some, None, refl}
use Rattle.std.specs.List.{slice_get}
use Rattle.std.proofs.lemmas.Option.{slice_get_read, slice_get_past}
use Rattle.serde_json.specs.Data.{null}
use Rattle.serde_json.specs.View.{view, items_view}
use Rattle.serde_json.specs.declared.value.Value.{Value}
use Rattle.rig_scenejson.specs.Value.{item_at}

there : (i : ℕ) (vs : List Value) (v : Value) → slice_get vs i ≡ Some v → item_at i (items_view vs) ≡ view v
there i [] v e = absurd cc
there zero (x ∷ vs) v e = cc
there (suc i) (x ∷ vs) v e = there i vs v e

absent : (i : ℕ) (vs : List Value) → slice_get vs i ≡ None → item_at i (items_view vs) ≡ null
absent i [] e = refl
absent zero (x ∷ vs) e = absurd cc
absent (suc i) (x ∷ vs) e = absent i vs e

-- the item of an index that is there
pub item_there : (i : ℕ) (vs : List Value) (v : Value) → i < length vs → v ≡ get_or vs i v → item_at i (items_view vs) ≡ view v
item_there i vs v inside e = there i vs v (slice_get_read vs (length vs) i v refl inside e)

-- the item of an index that isn't
pub item_absent : (i : ℕ) (vs : List Value) → length vs ≤ i → item_at i (items_view vs) ≡ null
item_absent i vs past = absent i vs (slice_get_past vs i past)

-- Items of an array as those of the slice that they are read from.
use Rattle.std.proofs.Common.{◌≡◌, ℕ, zero, suc, ◌<◌, List, [], ◌∷◌, ◌++◌, length, get_or, Some, refl}
use Rattle.std.specs.List.{slice_get}
use Rattle.std.proofs.lemmas.Option.{slice_get_read}
use Rattle.serde_json.specs.View.{view, items_view}
use Rattle.serde_json.specs.declared.value.Value.{Value}
use Rattle.rig_scenejson.specs.Tests.{in_item}
use Rattle.rig_scenejson.specs.Value.{item_at, integer_faults}
use Rattle.rig_scriptjson.specs.EditFaults.{whole_items_faults}

there : (i : ℕ) (vs : List Value) (v : Value) → slice_get vs i ≡ Some v → item_at i (items_view vs) ≡ view v
there i [] v e = absurd cc
there zero (x ∷ vs) v e = cc
there (suc i) (x ∷ vs) v e = there i vs v e

-- the item of an index that is there
pub item_there : (i : ℕ) (vs : List Value) (v : Value) → i < length vs → v ≡ get_or vs i v → item_at i (items_view vs) ≡ view v
item_there i vs v inside e = there i vs v (slice_get_read vs (length vs) i v refl inside e)

-- those of three items, one after the other
pub faults_of_three : (vs : List Value) → length vs ≡ 3
    → whole_items_faults (items_view vs)
    ≡ in_item 0 (integer_faults (item_at 0 (items_view vs))) ++ (in_item 1 (integer_faults (item_at 1 (items_view vs))) ++ (in_item 2 (integer_faults (item_at 2 (items_view vs))) ++ []))
faults_of_three [] e = absurd cc
faults_of_three (a ∷ []) e = absurd cc
faults_of_three (a ∷ b ∷ []) e = absurd cc
faults_of_three (a ∷ b ∷ c ∷ []) e = refl
faults_of_three (a ∷ b ∷ c ∷ d ∷ vs) e = absurd cc

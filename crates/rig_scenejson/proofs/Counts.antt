-- The number of items of an array.
use Rattle.std.proofs.Common.{◌≡◌, suc, List, [], ◌∷◌, length, refl, ap}
use Rattle.serde_json.specs.View.{items_view}
use Rattle.serde_json.specs.declared.value.Value.{Value}
use Rattle.rig_scenejson.specs.Value.{item_count}

pub item_count_of_view : (vs : List Value) → item_count (items_view vs) ≡ length vs
item_count_of_view [] = refl
item_count_of_view (v ∷ vs) = ap suc (item_count_of_view vs)

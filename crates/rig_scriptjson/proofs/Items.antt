-- Reading items one after the other: one step, and their number.
use Rattle.std.proofs.Common.{◌≡◌, ℕ, suc, ◌+◌, ◌<◌, List, [], ◌∷◌, ◌++◌, length, drop, get_or, refl, ap, sym, ◌∙◌, add-one}
use Rattle.std.proofs.lemmas.List.{at_drop_more}
use Rattle.serde_json.specs.Data.{Data, Items, no_items, item}
use Rattle.serde_json.specs.View.{view, items_view}
use Rattle.serde_json.specs.declared.value.Value.{Value}
use Rattle.rig_scenejson.specs.declared.fault.Fault.{Fault}
use Rattle.rig_scenejson.specs.Given.{values}
use Rattle.rig_scenejson.specs.Tests.{first, in_item, items_faults}
use Rattle.rig_scenejson.specs.Value.{item_count}
use Rattle.rig_scriptjson.proofs.First.{or_first, first_append}

pub item_count_of_view : (vs : List Value) → item_count (items_view vs) ≡ length vs
item_count_of_view [] = refl
item_count_of_view (v ∷ vs) = ap suc (item_count_of_view vs)

module _ {A : Type 0} (gives : Data → A) where
  pub values_step : (i : ℕ) (vs : List Value) (v : Value) → i < length vs → v ≡ get_or vs i v
      → values gives (items_view (drop i vs)) ≡ gives (view v) ∷ values gives (items_view (drop (i + 1) vs))
  values_step i vs v inside e =
      at_drop_more (λ (ws : List Value). values gives (items_view ws)) vs i v inside
      ∙ ap (λ (w : Value). gives (view w) ∷ values gives (items_view (drop (i + 1) vs))) (sym e)

module _ {B : Type 0} (faults : B → Data → List Fault) (next : B → Data → B) where
  pub faults_step : (i : ℕ) (b : B) (vs : List Value) (v : Value) → i < length vs → v ≡ get_or vs i v
      → first (items_faults faults next i b (items_view (drop i vs)))
      ≡ or_first (first (in_item i (faults b (view v)))) (first (items_faults faults next (i + 1) (next b (view v)) (items_view (drop (i + 1) vs))))
  faults_step i b vs v inside e =
      at_drop_more (λ (ws : List Value). first (items_faults faults next i b (items_view ws))) vs i v inside
      ∙ ap (λ (w : Value). first (in_item i (faults b (view w)) ++ items_faults faults next (suc i) (next b (view w)) (items_view (drop (i + 1) vs)))) (sym e)
      ∙ ap (λ (n : ℕ). first (in_item i (faults b (view v)) ++ items_faults faults next n (next b (view v)) (items_view (drop (i + 1) vs)))) (sym (add-one i))
      ∙ first_append (in_item i (faults b (view v))) (items_faults faults next (i + 1) (next b (view v)) (items_view (drop (i + 1) vs)))

-- as many values as items
pub length_of_values : {A : Type 0} (value : Data → A) (ds : Items) → length (values value ds) ≡ item_count ds
length_of_values value no_items = refl
length_of_values value (item d ds) = ap suc (length_of_values value ds)

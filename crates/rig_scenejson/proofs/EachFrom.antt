-- Reading items one after the other: one step.
use Rattle.std.proofs.Common.{◌≡◌, ℕ, suc, ◌+◌, ◌<◌, List, ◌∷◌, ◌++◌, length, drop, get_or, ap, sym, ◌∙◌, add-one}
use Rattle.std.proofs.lemmas.List.{at_drop_more}
use Rattle.serde_json.specs.Data.{Data}
use Rattle.serde_json.specs.View.{view, items_view}
use Rattle.serde_json.specs.declared.value.Value.{Value}
use Rattle.rig_scenejson.specs.declared.fault.Fault.{Fault}
use Rattle.rig_scenejson.specs.Tests.{first, in_item}
use Rattle.rig_scenejson.specs.Given.{values_from}
use Rattle.rig_scenejson.specs.PassTwo.{each_from}
use Rattle.rig_scenejson.proofs.First.{or_first, first_append}

module _ {A : Type 0} (gives : ℕ → Data → A) where
  pub values_step : (i : ℕ) (vs : List Value) (v : Value) → i < length vs → v ≡ get_or vs i v
      → values_from gives i (items_view (drop i vs)) ≡ gives i (view v) ∷ values_from gives (i + 1) (items_view (drop (i + 1) vs))
  values_step i vs v inside e =
      at_drop_more (λ (ws : List Value). values_from gives i (items_view ws)) vs i v inside
      ∙ ap (λ (w : Value). gives i (view w) ∷ values_from gives (suc i) (items_view (drop (i + 1) vs))) (sym e)
      ∙ ap (λ (n : ℕ). gives i (view v) ∷ values_from gives n (items_view (drop (i + 1) vs))) (sym (add-one i))

module _ {B : Type 0} (faults : ℕ → B → Data → List Fault) (next : B → Data → B) where
  pub found_step : (i : ℕ) (b : B) (vs : List Value) (v : Value) → i < length vs → v ≡ get_or vs i v
      → first (each_from faults next i b (items_view (drop i vs))) ≡ or_first (first (in_item i (faults i b (view v)))) (first (each_from faults next (i + 1) (next b (view v)) (items_view (drop (i + 1) vs))))
  found_step i b vs v inside e =
      at_drop_more (λ (ws : List Value). first (each_from faults next i b (items_view ws))) vs i v inside
      ∙ ap (λ (w : Value). first (in_item i (faults i b (view w)) ++ each_from faults next (suc i) (next b (view w)) (items_view (drop (i + 1) vs)))) (sym e)
      ∙ ap (λ (n : ℕ). first (in_item i (faults i b (view v)) ++ each_from faults next n (next b (view v)) (items_view (drop (i + 1) vs)))) (sym (add-one i))
      ∙ first_append (in_item i (faults i b (view v))) (each_from faults next (i + 1) (next b (view v)) (items_view (drop (i + 1) vs)))

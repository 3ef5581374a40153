-- The value of a quantity over the values of others, and where two such agree.
use Rattle.std.specs.Prelude.{◌≡◌, List, Option, Some, ℤ, Contains, All}
use Rattle.rig_scene.specs.declared.modifier.Mode.{Mode}
use Rattle.rig_scene.specs.declared.quantity.Quantity.{Quantity}
use Rattle.rig_scene.specs.declared.quantity.Read.{Read}
use Rattle.rig_scene.specs.Cut.{is_cut}
use Rattle.rig_scene.specs.Quantities.{quantities}
use Rattle.rig_scene.specs.Scene.{SceneRecord}
use Rattle.rig_scene.specs.Value.{Value, read_value, value_by}

-- two functions give the same at the source of each of some reads
abbrev pub AgreeOn : (Quantity → Value) → (Quantity → Value) → List Read → Type 0
AgreeOn get other rs = All (λ r. get r.source ≡ other r.source) rs

-- the value of a quantity by the values of the others: a kept read gives its source's, a cut one its source's rest
abbrev pub value_over : SceneRecord → Mode → ℤ → (Quantity → Value) → Quantity → Option Value
value_over s mode frame values q =
    value_by s mode frame (λ source. is_cut s source q) (λ source. read_value (is_cut s source q) values source) q

-- values of a scene's quantities each of which follows from the values of its sources
abbrev pub AreValuesOf : SceneRecord → Mode → ℤ → (Quantity → Value) → Type 0
AreValuesOf s mode frame values = (q : Quantity) → Contains (quantities s) q → value_over s mode frame values q ≡ Some (values q)

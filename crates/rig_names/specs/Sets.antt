-- Adding a value to values that are distinct.
use Rattle.std.specs.Prelude.{◌≡◌, List, [], ◌∷◌, ◌++◌, Bool, not, if◌then◌else◌}
use Rattle.std.specs.List.{list_any}

-- whether the value was new, and the values after it: a new one stands at the end
abbrev pub Adds : {A : Type 0} → (A → A → Bool) → A → List A → List A → Bool → Type 0
Adds same value old new added = (added ≡ not (list_any (same value) old)) × (new ≡ (if added then old ++ value ∷ [] else old))

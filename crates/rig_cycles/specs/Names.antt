-- Reads of other names: the same reads between nodes of another type, as numbers in the place of nodes.
use Rattle.std.specs.Prelude.{◌≡◌, List, Bool, Contains}
use Rattle.rig_cycles.specs.Cut.{Arrow}

-- a read between the names of its nodes
abbrev pub arrow_map : {A B : Type 0} → (A → B) → Arrow A → Arrow B
arrow_map name read = record { reader = name read.reader; source = name read.source; is_reference = read.is_reference }

-- a test of names tells of these nodes what another test tells of the nodes themselves
abbrev pub TellsApart : {A B : Type 0} → List A → (A → A → Bool) → (B → B → Bool) → (A → B) → Type 0
TellsApart {A} nodes same same_name name = (a b : A) → Contains nodes a → Contains nodes b → same_name (name a) (name b) ≡ same a b

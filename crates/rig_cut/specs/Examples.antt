-- Short lists of links for examples.
use Rattle.std.specs.Prelude.{ℕ, List, [], ◌∷◌, true, false}
use Rattle.rig_cut.specs.declared.links.Link.{Link}

-- a link that is tested, and one that is always kept
abbrev pub reference : ℕ → ℕ → Link
reference source reader = record { source = source; reader = reader; reference = true }

abbrev pub inner : ℕ → ℕ → Link
inner source reader = record { source = source; reader = reader; reference = false }

abbrev pub chain_of_references : List Link
chain_of_references = reference 2 1 ∷ reference 3 2 ∷ reference 1 3 ∷ reference 3 1 ∷ []

abbrev pub read_of_itself : List Link
read_of_itself = reference 0 0 ∷ []

abbrev pub closed_by_a_reference : List Link
closed_by_a_reference = reference 2 0 ∷ inner 0 1 ∷ inner 1 2 ∷ []

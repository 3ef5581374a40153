-- Texts as their bytes, and which are the same.
use Rattle.std.specs.Prelude.{ℕ, List, Bool, nat_eq}
use lib.Pointwise.{pointwise}

-- whether two texts have the same bytes
abbrev pub same_text : List ℕ → List ℕ → Bool
same_text a b = pointwise nat_eq a b

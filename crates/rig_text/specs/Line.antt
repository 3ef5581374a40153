-- What the lines of several texts are made of.
use Rattle.std.specs.Prelude.{ℤ, ℕ, List, [], ◌∷◌}
use Rattle.std.specs.Fmt.{signed_decimal}

-- the end of a line
abbrev pub line_feed : List ℕ
line_feed = 10 ∷ []

-- a number with a space before it
abbrev pub spaced : ℤ → List ℕ
spaced x = 32 ∷ signed_decimal x

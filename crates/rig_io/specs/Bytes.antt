-- What a source gave and what a sink took, where it is told.
use Rattle.std.specs.Prelude.{◌≡◌, ℕ, ◌+◌, ◌≤◌, ◌++◌, List, [], length, Option, Some, None}

-- A source that tells what is left gave these bytes, and has the rest left.
abbrev pub Gave : Option (List ℕ) → Option (List ℕ) → List ℕ → Type 0
Gave None after bytes = Unit {0}
Gave (Some left) after bytes = (rest : List ℕ) × (left ≡ bytes ++ rest) × (after ≡ Some rest)

-- A source that tells what is left gave all of it: these bytes.
abbrev pub GaveAll : Option (List ℕ) → Option (List ℕ) → List ℕ → Type 0
GaveAll None after bytes = Unit {0}
GaveAll (Some left) after bytes = (left ≡ bytes) × (after ≡ Some [])

-- A sink that tells what was written got these bytes at the end.
abbrev pub Appended : Option (List ℕ) → Option (List ℕ) → List ℕ → Type 0
Appended None after bytes = Unit {0}
Appended (Some written) after bytes = after ≡ Some (written ++ bytes)

-- The source gave some bytes, no more than the limit.
abbrev pub GaveAtMost : Option (List ℕ) → Option (List ℕ) → ℕ → Type 0
GaveAtMost before after limit = (bytes : List ℕ) × (Gave before after bytes) × (length bytes ≤ limit)

-- The source gave one byte more than the limit.
abbrev pub GaveOneMore : Option (List ℕ) → Option (List ℕ) → ℕ → Type 0
GaveOneMore before after limit = (bytes : List ℕ) × (Gave before after bytes) × (length bytes ≡ limit + 1)

-- A sink that tells what was written got a prefix of these bytes at the end.
abbrev pub AppendedPrefix : Option (List ℕ) → Option (List ℕ) → List ℕ → Type 0
AppendedPrefix before after bytes =
    (prefix : List ℕ) × (rest : List ℕ) × (bytes ≡ prefix ++ rest) × (Appended before after prefix)

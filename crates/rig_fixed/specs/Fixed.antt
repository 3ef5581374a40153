-- Fixed-point numbers: whole numbers of millionths.
use Rattle.std.specs.Prelude.{ℤ, pos, negsuc, ◌≤ℤ◌}
use Rattle.std.specs.Int.{int_min, int_max}

-- one whole unit
abbrev pub unit : ℤ
unit = pos 1000000

-- the limits of every number
abbrev pub highest : ℤ
highest = pos 1000000000000

abbrev pub lowest : ℤ
lowest = negsuc 999999999999

-- a number between the limits
abbrev pub IsWithinLimits : ℤ → Type 0
IsWithinLimits x = (lowest ≤ℤ x) × (x ≤ℤ highest)

-- the nearest number between the limits
abbrev pub clamp : ℤ → ℤ
clamp x = int_max lowest (int_min x highest)

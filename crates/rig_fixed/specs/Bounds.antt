-- How large the numbers on the way to a result get.
use Rattle.std.specs.Prelude.{ℕ, ◌≤◌, ℤ, pos, negsuc, unsigned_abs}

-- what is divided in 128 bits, and in 64
abbrev pub wide_highest : ℤ
wide_highest = pos 10000000000000000000000000000000000000

abbrev pub wide_lowest : ℤ
wide_lowest = negsuc 9999999999999999999999999999999999999

abbrev pub narrow_highest : ℤ
narrow_highest = pos 2000000000000000000

abbrev pub narrow_lowest : ℤ
narrow_lowest = negsuc 1999999999999999999

-- what is divided by a length, or by the square of a unit
abbrev pub dividend_bound : ℕ
dividend_bound = 10000000000000000000000000

-- a product of two components of rotations, and a sum of four such products
abbrev pub product_bound : ℕ
product_bound = 1000002000001

abbrev pub component_bound : ℕ
component_bound = 4000008000004

-- a component of a quaternion that isn't of the length of one unit yet
abbrev pub IsWithinProduct : ℤ → Type 0
IsWithinProduct c = unsigned_abs c ≤ component_bound

-- the square of such a component, and the sum of four such squares
abbrev pub square_bound : ℕ
square_bound = 16000064000096000064000016

abbrev pub squares_bound : ℕ
squares_bound = 64000256000384000256000064

-- a million times the length of such four components
abbrev pub length_bound : ℕ
length_bound = 9000000000000000000

-- coordinates of a cross product of an axis with a point, of a second one with that, and how far they move a point
abbrev pub once_bound : ℕ
once_bound = 2000002000000000000

abbrev pub twice_bound : ℕ
twice_bound = 4000008000004000000000000

abbrev pub turn_bound : ℕ
turn_bound = 100000000000000

-- what a reciprocal is at most: 2^63, of numbers that are shifted by at most 32 digits
abbrev pub reciprocal_bound : ℕ
reciprocal_bound = 9223372036854775808

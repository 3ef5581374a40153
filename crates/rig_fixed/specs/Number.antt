-- Arithmetic on whole numbers: division rounded to the nearest, and square roots rounded down.
use Rattle.std.specs.Prelude.{ℕ, zero, suc, ◌+◌, ◌*◌, ◌/◌, ◌<◌, ◌≤◌, nat_le, if◌then◌else◌, ℤ, pos, ◌+ℤ◌, ◌*ℤ◌, ◌≤ℤ◌, ◌<ℤ◌}
use Rattle.std.specs.Int.{int_div_euclid}

-- q is n / d rounded down: the greatest whose product with d is at most n
abbrev pub IsFloor : ℤ → ℤ → ℤ → Type 0
IsFloor n d q = ((d *ℤ q) ≤ℤ n) × (n <ℤ (d *ℤ (q +ℤ pos 1)))

-- a / b for a positive b, rounded to the nearest whole number, and a half upward: (2a + b) / 2b rounded down
abbrev pub rdiv : ℤ → ℤ → ℤ
rdiv a b = int_div_euclid (pos 2 *ℤ a +ℤ b) (pos 2 *ℤ b)

-- r is the square root of n rounded down: the greatest whose square is at most n
abbrev pub IsRoot : ℕ → ℕ → Type 0
IsRoot n r = (r * r ≤ n) × (n < (r + 1) * (r + 1))

-- the greater of r and r + 1 whose square is at most n
abbrev pub root_from : ℕ → ℕ → ℕ
root_from n r = if nat_le ((r + 1) * (r + 1)) n then r + 1 else r

-- the root of a number of at most so many digits in base 4: twice that of n / 4, or one more
abbrev pub root_of_digits : ℕ → ℕ → ℕ
root_of_digits zero n = 0
root_of_digits (suc digits) zero = 0
root_of_digits (suc digits) (suc n) = root_from (suc n) (2 * root_of_digits digits (suc n / 4))

-- the greatest number whose square is at most n. A number n has no more than n digits
abbrev pub isqrt : ℕ → ℕ
isqrt n = root_of_digits n n

-- A quotient is told by its remainder.
use Rattle.std.proofs.Common.{◌≡◌, ap, ℕ, ◌*◌, arith}
use Rattle.std.proofs.Math.IntN.{ℤ, pos, negsuc, ◌+ℤ◌, ◌-ℤ◌, ◌*ℤ◌}
use Rattle.std.proofs.Math.Nat.{div-eq_of_lt-le}
use Rattle.std.specs.Int.{int_div_euclid}
use Rattle.std.specs.Int.Signed.{◌≤ℤ◌, ◌<ℤ◌}
use Rattle.std.proofs.lemmas.Int.{ints}
use Rattle.rig_fixed.specs.Number.{rdiv}

-- what is left when q times the divisor is taken is from 0 to below the divisor
pub quotient_is : (x : ℤ) (d : ℕ) (q : ℤ) → pos 0 ≤ℤ (x -ℤ pos d *ℤ q) → (x -ℤ pos d *ℤ q) <ℤ pos d → int_div_euclid x (pos d) ≡ q
quotient_is (pos t) d (pos q) low high = ap pos (div-eq_of_lt-le d (omega (arith, ints)) (omega (arith, ints)))
quotient_is (pos t) d (negsuc q) low high = absurd (omega (arith, ints))
quotient_is (negsuc t) d (pos q) low high = absurd (omega (arith, ints))
quotient_is (negsuc t) d (negsuc q) low high = ap negsuc (div-eq_of_lt-le d (omega (arith, ints)) (omega (arith, ints)))

pub rounded_is : (a b q : ℤ) → pos 0 <ℤ b → pos 0 ≤ℤ (pos 2 *ℤ a +ℤ b -ℤ pos 2 *ℤ b *ℤ q) → (pos 2 *ℤ a +ℤ b -ℤ pos 2 *ℤ b *ℤ q) <ℤ (pos 2 *ℤ b) → rdiv a b ≡ q
rounded_is a (pos b) q positive low high = quotient_is (pos 2 *ℤ a +ℤ pos b) (2 * b) q low high
rounded_is a (negsuc b) q positive low high = absurd (omega (arith, ints))

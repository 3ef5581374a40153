-- Bits of several numbers put together, and bits value_on round.
use Rattle.std.proofs.Common.{◌≡◌, ℕ, ◌+◌, ◌-◌, ◌*◌, ◌<◌, ◌^◌, ℤ, negsuc, ◌-ℤ◌, bit_and, bit_or, bit_xor, to_z, of_z, w64, ◌∙◌, arith}
use Rattle.std.specs.Int.{int_bit_xor}
use Rattle.std.specs.Int.Bits.{xor_add_and}
use Rattle.std.proofs.lemmas.Int.{ints}
use Rattle.std.proofs.lemmas.Nat.{or_lt, le_or_l, le_or_r, and_mask}
use Rattle.rig_points.specs.Near.{IsNear}

pub left_below : (m a b : ℕ) → bit_or a b < m → a < m
left_below m a b below = omega (arith, le_or_l a b)

pub right_below : (m a b : ℕ) → bit_or a b < m → b < m
right_below m a b below = omega (arith, le_or_r a b)

pub both_below : (a b : ℕ) → a < 2 ^ 40 → b < 2 ^ 40 → bit_or a b < 2 ^ 40
both_below a b left right = or_lt 40 a b left right

all_bits : (a : ℕ) → a < 2 ^ 64 → bit_and a (2 ^ 64 - 1) ≡ a
all_bits a fits = and_mask a 64 ∙ (omega arith)

others : (a : ℕ) → a < 2 ^ 64 → bit_xor a (2 ^ 64 - 1) ≡ 2 ^ 64 - 1 - a
others a fits =
    let sum : bit_xor a (2 ^ 64 - 1) + bit_and a (2 ^ 64 - 1) * 2 ≡ a + (2 ^ 64 - 1) = xor_add_and a (2 ^ 64 - 1) in
    let same : bit_and a (2 ^ 64 - 1) ≡ a = all_bits a fits in
    omega arith

below_all : (m : ℕ) (c : ℤ) → IsNear c → m + of_z w64 c ≡ 2 ^ 64 - 1 → to_z w64 m ≡ negsuc 0 -ℤ c
below_all m c near sum = grind (arith, ints)

-- all bits of a near number value_on round
pub flipped : (c : ℤ) → IsNear c → int_bit_xor w64 c (negsuc 0) ≡ negsuc 0 -ℤ c
flipped c near =
    let fits : of_z w64 c < 2 ^ 64 = omega (arith, ints) in
    let is : bit_xor (of_z w64 c) (2 ^ 64 - 1) ≡ 2 ^ 64 - 1 - of_z w64 c = others (of_z w64 c) fits in
    below_all (bit_xor (of_z w64 c) (2 ^ 64 - 1)) c near (omega arith)

-- How large sums, products and quotients get.
use Rattle.std.proofs.Common.{ℕ, zero, suc, ◌+◌, ◌*◌, ◌/◌, ◌<◌, ◌≤◌, arith}
use Rattle.std.proofs.Math.IntN.{ℤ, pos, negsuc, ◌+ℤ◌, ◌-ℤ◌, ◌*ℤ◌, neg_ℤ}
use Rattle.std.proofs.Math.Nat.{mul-le-mul, mul-le-mul_left, div-add-mod}
use Rattle.std.specs.Int.RustNames.{unsigned_abs}
use Rattle.std.specs.Int.{int_div_euclid}
use Rattle.std.specs.Int.Signed.{◌≤ℤ◌, ◌<ℤ◌}
use Rattle.std.proofs.lemmas.Int.{ints, unsigned_abs-mul}
use Rattle.rig_fixed.specs.Fixed.{IsWithinLimits}
use Rattle.rig_fixed.specs.Number.{rdiv}
use Rattle.rig_fixed.specs.Rotation.{IsWithinUnit}

pub mul_within : (a b : ℤ) (m n : ℕ) → unsigned_abs a ≤ m → unsigned_abs b ≤ n → unsigned_abs (a *ℤ b) ≤ m * n
mul_within a b m n h k =
    let e = unsigned_abs-mul a b in
    let p : unsigned_abs a * unsigned_abs b ≤ m * n = mul-le-mul h k in
    omega arith

pub sub_within : (a b : ℤ) (m n : ℕ) → unsigned_abs a ≤ m → unsigned_abs b ≤ n → unsigned_abs (a -ℤ b) ≤ m + n
sub_within a b m n h k = omega (arith, ints)

pub add_within : (a b : ℤ) (m n : ℕ) → unsigned_abs a ≤ m → unsigned_abs b ≤ n → unsigned_abs (a +ℤ b) ≤ m + n
add_within a b m n h k = omega (arith, ints)

pub within_of : (a : ℤ) (n : ℕ) → neg_ℤ (pos n) ≤ℤ a → a ≤ℤ pos n → unsigned_abs a ≤ n
within_of a n h k = omega (arith, ints)

pub low_of : (a : ℤ) (n m : ℕ) → unsigned_abs a ≤ n → n ≤ m → neg_ℤ (pos m) ≤ℤ a
low_of a n m h k = omega (arith, ints)

pub high_of : (a : ℤ) (n m : ℕ) → unsigned_abs a ≤ n → n ≤ m → a ≤ℤ pos m
high_of a n m h k = omega (arith, ints)

quotient_le : (t d m : ℕ) → 0 < d → t < d * (m + 1) → t / d ≤ m
quotient_le t d m p h =
    let e = div-add-mod t d in
    let contrary : m + 1 ≤ t / d → ⊥ = λ k. let s : d * (m + 1) ≤ d * (t / d) = mul-le-mul_left d k in omega arith in
    omega arith

euclid_within : (x : ℤ) (k m : ℕ) → 0 < k → x ≤ℤ pos (2 * k * m + k) → (neg_ℤ (pos (2 * k * m)) +ℤ pos k) ≤ℤ x
    → unsigned_abs (int_div_euclid x (pos (2 * k))) ≤ m
euclid_within (pos t) k m p high low = quotient_le t (2 * k) m (omega arith) (omega (arith, ints))
euclid_within (negsuc t) k zero p high low = absurd (omega (arith, ints))
euclid_within (negsuc t) k (suc m) p high low =
    let h : t / (2 * k) ≤ m = quotient_le t (2 * k) m (omega arith) (omega (arith, ints)) in
    omega arith

-- a quotient of a number within m times the divisor is within m, also rounded
pub rdiv_within : (a : ℤ) (b m : ℕ) → 0 < b → unsigned_abs a ≤ b * m → unsigned_abs (rdiv a (pos b)) ≤ m
rdiv_within a b m p h = euclid_within (pos 2 *ℤ a +ℤ pos b) b m p (omega (arith, ints)) (omega (arith, ints))

pub unit_within : (a : ℤ) → IsWithinUnit a → unsigned_abs a ≤ 1000001
unit_within a h = omega (arith, ints)

pub limits_within : (a : ℤ) → IsWithinLimits a → unsigned_abs a ≤ 1000000000000
limits_within a h = omega (arith, ints)

pub rdiv_within_part : (a d : ℤ) (m : ℕ) → pos 0 <ℤ d → unsigned_abs a ≤ unsigned_abs d * m → unsigned_abs (rdiv a d) ≤ m
rdiv_within_part a (pos b) m p h = rdiv_within a b m (omega (arith, ints)) h
rdiv_within_part a (negsuc b) m p h = absurd (omega (arith, ints))

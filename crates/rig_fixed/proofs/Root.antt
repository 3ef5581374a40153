-- The root by digits is the greatest number whose square is at most the other.
use Rattle.std.proofs.Common.{◌≡◌, ℕ, zero, suc, ◌+◌, ◌*◌, ◌/◌, ◌<◌, ◌≤◌, refl, arith}
use Rattle.std.proofs.Math.Bool.{Bool, true, false, cond}
use Rattle.std.proofs.Math.Dec.{leb}
use Rattle.std.proofs.Math.Nat.{mul-le-mul}
use Rattle.std.proofs.lemmas.Bool.Decides.{leb_tells}
use Rattle.std.proofs.lemmas.Grind.{common_steps}
use Rattle.rig_fixed.specs.Number.{IsRoot, root_from, root_of_digits, isqrt}

-- the choice between 2r and 2r + 1
root_from-cases : (n r : ℕ) → r * r ≤ n / 4 → n / 4 < (r + 1) * (r + 1) → (b : Bool)
    → (b ≡ true → (2 * r + 1) * (2 * r + 1) ≤ n) → (b ≡ false → n < (2 * r + 1) * (2 * r + 1))
    → IsRoot n (cond b (2 * r + 1) (2 * r))
root_from-cases n r low high true fits above = let h = fits refl in (h, omega arith)
root_from-cases n r low high false fits above = let h = above refl in (omega arith, h)

-- the root of n, from that of n / 4
root_from-meets : (n r : ℕ) → IsRoot (n / 4) r → IsRoot n (root_from n (2 * r))
root_from-meets n r h =
    root_from-cases n r h.0 h.1 (leb ((2 * r + 1) * (2 * r + 1)) n)
    (λ e. grind (arith, common_steps, leb_tells)) (λ e. grind (arith, common_steps, leb_tells))

-- digits enough give the root
root_of_digits-meets : (digits n : ℕ) → n ≤ digits → IsRoot n (root_of_digits digits n)
root_of_digits-meets zero zero h = (omega arith, omega arith)
root_of_digits-meets zero (suc n) h = omega arith
root_of_digits-meets (suc digits) zero h = (omega arith, omega arith)
root_of_digits-meets (suc digits) (suc n) h =
    root_from-meets (suc n) (root_of_digits digits (suc n / 4)) (root_of_digits-meets digits (suc n / 4) (omega arith))

pub isqrt-meets : (n : ℕ) → IsRoot n (isqrt n)
isqrt-meets n = root_of_digits-meets n n (omega arith)

-- of two numbers with r·r ≤ n < (s + 1)·(s + 1), the first isn't greater
pub below_root : (n r s : ℕ) → r * r ≤ n → n < (s + 1) * (s + 1) → r ≤ s
below_root n r s low high =
    let contrary : s < r → ⊥ = λ h.
    let squares : (s + 1) * (s + 1) ≤ r * r = let k : s + 1 ≤ r = omega arith in mul-le-mul k k in
    omega arith in
    omega arith

-- there is one root
pub root_unique : (n r : ℕ) → IsRoot n r → r ≡ isqrt n
root_unique n r h =
    let root = isqrt-meets n in
    let above : r ≤ isqrt n = below_root n r (isqrt n) h.0 root.1 in
    let below : isqrt n ≤ r = below_root n (isqrt n) r root.0 h.1 in
    omega arith

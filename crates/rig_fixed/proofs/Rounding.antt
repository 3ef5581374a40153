-- Division by a positive number rounds down.
use Rattle.std.proofs.Common.{◌≡◌, ℕ, zero, suc, ◌+◌, ◌-◌, ◌*◌, ◌/◌, ◌%◌, ◌<◌, ◌≤◌, refl, arith}
use Rattle.std.proofs.Math.IntN.{ℤ, pos, negsuc, ◌+ℤ◌, neg_ℤ}
use Rattle.std.proofs.Math.Bool.{true}
use Rattle.std.proofs.Math.Dec.{ltb, le→leb, lt→ltb}
use Rattle.std.proofs.Math.Nat.{div-add-mod, mod-lt}
use Rattle.std.specs.Int.Signed.{◌≤ℤ◌, ◌<ℤ◌}
use Rattle.std.specs.Int.{int_div_euclid}
use Rattle.std.proofs.lemmas.Bool.{lt-ltb}
use Rattle.std.proofs.lemmas.Grind.{common_steps}
use Rattle.rig_fixed.specs.Number.{IsFloor}

le_neg : (n a : ℕ) → suc a ≤ n → neg_ℤ (pos n) ≤ℤ negsuc a
le_neg zero a h = absurd (omega arith)
le_neg (suc m) a h = record { le = le→leb a m (omega arith) }

lt_neg : (n a : ℕ) → 0 < n → n ≤ a → negsuc a <ℤ neg_ℤ (pos n)
lt_neg zero a p h = absurd (omega arith)
lt_neg (suc m) a p h = record { lt = lt→ltb m a (omega arith) }

one_more : (q : ℕ) → negsuc (suc q) +ℤ pos 1 ≡ negsuc q
one_more q =
    let e : ltb 1 (suc (suc q)) ≡ true = lt-ltb 1 (suc (suc q)) (omega arith) in
    let s : suc (suc q) - 2 ≡ q = omega arith in
    grind (arith, common_steps)

floor_natural : (a d : ℕ) → 0 < d → IsFloor (pos a) (pos d) (pos (a / d))
floor_natural a d h =
    let e = div-add-mod a d in
    let m = mod-lt a h in
    (record { le = le→leb (d * (a / d)) a (omega arith) }, record { lt = lt→ltb a (d * (a / d + 1)) (omega arith) })

floor_negative : (a d q : ℕ) → a / suc d ≡ q → suc d * q + a % suc d ≡ a → a % suc d < suc d → IsFloor (negsuc a) (pos (suc d)) (negsuc q)
floor_negative a d zero e s m = (le_neg (suc d * 1) a (omega arith), record { lt = tt })
floor_negative a d (suc q) e s m = (
  le_neg (suc d * suc (suc q)) a (omega arith),
  rw (one_more q) (lt_neg (suc d * suc q) a (omega arith) (omega arith)),
)

pub floor-of_div_euclid : (n : ℤ) (d : ℕ) → 0 < d → IsFloor n (pos d) (int_div_euclid n (pos d))
floor-of_div_euclid (pos a) d h = floor_natural a d h
floor-of_div_euclid (negsuc a) zero h = absurd (omega arith)
floor-of_div_euclid (negsuc a) (suc d) h =
    floor_negative a d (a / suc d) refl (div-add-mod a (suc d)) (mod-lt a h)

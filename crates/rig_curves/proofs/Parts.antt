-- A part of a number, rounded to the nearest, is between 0 and all of it.
use Rattle.std.proofs.Common.{◌≡◌, ℕ, suc, ◌+◌, ◌*◌, ◌/◌, ◌<◌, ◌≤◌, arith, ap, ◌∙◌}
use Rattle.std.proofs.Math.IntN.{ℤ, pos, negsuc, ◌+ℤ◌, ◌*ℤ◌, neg_ℤ}
use Rattle.std.proofs.Math.Nat.{mul-le-mul_left, div-lt_iff_lt-mul}
use Rattle.std.specs.Int.Signed.{◌≤ℤ◌, ◌<ℤ◌}
use Rattle.std.specs.Int.{int_div_euclid, int_min, int_max}
use Rattle.std.proofs.lemmas.Int.{ints, clamps}
use Rattle.rig_fixed.specs.Number.{rdiv}

quotient-at_most : (n d q : ℕ) → 0 < d → n < (q + 1) * d → n / d ≤ q
quotient-at_most n d q positive below = let less = (div-lt_iff_lt-mul positive).1 below in omega arith

-- what is less than the divisor has a quotient of at most 0
div_euclid-at_most : (x : ℤ) (d : ℕ) → 0 < d → x <ℤ pos d → int_div_euclid x (pos d) ≤ℤ pos 0
div_euclid-at_most (pos n) d positive below =
    let zero : n / d ≤ 0 = quotient-at_most n d 0 positive (omega (arith, ints)) in
    omega (arith, ints)
div_euclid-at_most (negsuc n) d positive below = omega (arith, ints)

-- what is at least a negative number of divisors has a quotient of at least that number
div_euclid-at_least : (x : ℤ) (d q : ℕ) → 0 < d → neg_ℤ (pos ((q + 1) * d)) ≤ℤ x → negsuc q ≤ℤ int_div_euclid x (pos d)
div_euclid-at_least (pos n) d q positive above = omega (arith, ints)
div_euclid-at_least (negsuc n) d q positive above =
    let quotient : n / d ≤ q = quotient-at_most n d q positive (omega (arith, ints)) in
    omega (arith, ints)

-- a part of so many frames of a span, below and above
part-at_least : (rise : ℤ) (elapsed span : ℕ) → elapsed < span → int_min (pos 0) rise ≤ℤ rdiv (rise *ℤ pos elapsed) (pos span)
part-at_least (pos rise) elapsed span within = omega (arith, ints, clamps)
part-at_least (negsuc rise) elapsed span within =
    let part : suc rise * elapsed ≤ suc rise * span = mul-le-mul_left (suc rise) (omega arith) in
    let least : negsuc rise ≤ℤ rdiv (negsuc rise *ℤ pos elapsed) (pos span) =
    div_euclid-at_least (pos 2 *ℤ (negsuc rise *ℤ pos elapsed) +ℤ pos span) (2 * span) rise (omega arith) (omega (arith, ints)) in
    omega (arith, ints, clamps)

part-at_most : (rise : ℤ) (elapsed span : ℕ) → elapsed < span → rdiv (rise *ℤ pos elapsed) (pos span) ≤ℤ int_max (pos 0) rise
part-at_most (pos rise) elapsed span within =
    let part : rise * elapsed ≤ rise * span = mul-le-mul_left rise (omega arith) in
    let most : (2 * (rise * elapsed) + span) / (2 * span) ≤ rise =
    quotient-at_most (2 * (rise * elapsed) + span) (2 * span) rise (omega arith) (omega arith) in
    omega (arith, ints, clamps)
part-at_most (negsuc rise) elapsed span within =
    let most : rdiv (negsuc rise *ℤ pos elapsed) (pos span) ≤ℤ pos 0 =
    div_euclid-at_most (pos 2 *ℤ (negsuc rise *ℤ pos elapsed) +ℤ pos span) (2 * span) (omega arith) (omega (arith, ints)) in
    omega (arith, ints, clamps)

-- a part of a rise is between nothing and the whole rise
pub part-between : (rise elapsed span : ℤ) → pos 0 ≤ℤ elapsed → elapsed <ℤ span
    → (int_min (pos 0) rise ≤ℤ rdiv (rise *ℤ elapsed) span) × (rdiv (rise *ℤ elapsed) span ≤ℤ int_max (pos 0) rise)
part-between rise (negsuc e) span begun within = absurd (omega (arith, ints))
part-between rise (pos e) (negsuc s) begun within = absurd (omega (arith, ints))
part-between rise (pos e) (pos s) begun within =
    (part-at_least rise e s (omega (arith, ints)), part-at_most rise e s (omega (arith, ints)))

-- quotients of equal numbers are equal
pub rdiv-same : {a a' b b' d d' : ℤ} → a ≡ a' → b ≡ b' → d ≡ d' → rdiv (a *ℤ b) d ≡ rdiv (a' *ℤ b') d'
rdiv-same {a} {a'} {b} {b'} {d} {d'} same_a same_b same_d =
    ap (λ (x : ℤ). rdiv (x *ℤ b) d) same_a ∙ ap (λ (x : ℤ). rdiv (a' *ℤ x) d) same_b ∙ ap (λ (x : ℤ). rdiv (a' *ℤ b') x) same_d

use Rattle.std.proofs.Common.{◌≡◌, ℤ, pos, negsuc, neg_ℤ, ◌*ℤ◌, ◌+ℤ◌, ◌-ℤ◌, ◌≤ℤ◌, w64, to_z, of_z, true, sym, ◌∙◌, ap, subst, arith}
use Rattle.std.specs.Int.Signed.{le_z}
use Rattle.std.proofs.lemmas.Int.{to_z-of_z, ints, clamps}
use Rattle.rig_fixed.specs.Fixed.{clamp, lowest, highest, IsWithinLimits}
use Rattle.rig_points.specs.Near.{IsNear}
use Rattle.rig_points.specs.Reach.{reach}
use Rattle.rig_points.specs.Shift.{value_on}
use Rattle.rig_points.proofs.Bits.{flipped}
use Rattle.rig_points.proofs.shift.line_over.Goals as goal

-- twice a number within the limits, and one more, in 64 bits
same : (t : ℤ) → (pos 2 *ℤ lowest) ≤ℤ t → t ≤ℤ (pos 2 *ℤ highest) → to_z w64 (of_z w64 t) ≡ t
same t low high = to_z-of_z w64 t (grind (arith, ints))

one_more : (t : ℤ) → (pos 2 *ℤ lowest) ≤ℤ t → t ≤ℤ (pos 2 *ℤ highest) → to_z w64 (of_z w64 (t +ℤ pos 1)) ≡ t +ℤ pos 1
one_more t low high = to_z-of_z w64 (t +ℤ pos 1) (grind (arith, ints))

ordered : (a b : ℤ) → le_z a b ≡ true → a ≤ℤ b
ordered a b is = grind (arith, ints)

from_all : (t c : ℤ) → (negsuc 0 -ℤ c) +ℤ (t +ℤ pos 1) ≡ t -ℤ c
from_all t c = omega (arith, ints)

inside : (t c : ℤ) → IsNear c → neg_ℤ reach ≤ℤ t → t ≤ℤ reach → IsWithinLimits (t -ℤ c)
inside t c near low high = (omega (arith, ints), omega (arith, ints))

clamped : (z : ℤ) → IsWithinLimits z → z ≡ clamp z
clamped z within = omega (arith, ints, clamps)

pub returns-then-twice-le-REACH-clause-gives : goal.returns-then-twice-le-REACH-clause-gives
returns-then-twice-le-REACH-clause-gives c = λ x near.
    let t = c.double_of-twice.result in
    let within = c.double_of-twice.ensures.within in
    let settled : to_z w64 (of_z w64 t) ≡ t = same t within.0 within.1 in
    let low : neg_ℤ reach ≤ℤ t = ordered _ _ (subst (λ t. le_z (neg_ℤ reach) t ≡ true) settled c.if-twice.true) in
    let high : t ≤ℤ reach = ordered _ _ (subst (λ t. le_z t reach ≡ true) settled c.if-twice-le-REACH.true) in
    let by = to_z w64 (of_z w64 (to_z w64 (of_z w64 t) +ℤ pos 1)) in
    let is : value_on record { mask = negsuc 0; by = by } x ≡ t -ℤ x =
    ap (λ y. y +ℤ by) (flipped x near)
    ∙ ap (λ t. (negsuc 0 -ℤ x) +ℤ to_z w64 (of_z w64 (t +ℤ pos 1))) settled
    ∙ ap (λ by. (negsuc 0 -ℤ x) +ℤ by) (one_more t within.0 within.1)
    ∙ from_all t x in
    let fits : IsWithinLimits (t -ℤ x) = inside t x near low high in (
      is ∙ clamped _ fits ∙ ap (λ t. clamp (t -ℤ x)) c.double_of-twice.ensures.value ∙ rw c.if-not-on.false,
      subst IsWithinLimits (sym is) fits,
    )

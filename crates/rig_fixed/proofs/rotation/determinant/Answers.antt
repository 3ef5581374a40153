use Rattle.std.proofs.Common.{arith, ◌≡◌, ◌≤◌, ◌*◌, ℤ, ◌-ℤ◌, ◌*ℤ◌, unsigned_abs, w64, FitsSigned, to_z, of_z}
use Rattle.std.proofs.lemmas.Int.{to_z-of_z}
use Rattle.rig_fixed.specs.Fixed.{IsWithinLimits}
use Rattle.rig_fixed.specs.Rotation.{IsWithinUnit}
use Rattle.rig_fixed.proofs.Bounds.{mul_within, unit_within, limits_within}
use Rattle.rig_fixed.proofs.Values.{settle, fits64, difference_is, difference_within}
use Rattle.rig_fixed.proofs.rotation.determinant.Goals as goal

product_fits : (a b : ℤ) → IsWithinUnit a → IsWithinLimits b → FitsSigned w64 (a *ℤ b)
product_fits a b h k = fits64 (a *ℤ b) (1000001 * 1000000000000) (mul_within a b 1000001 1000000000000 (unit_within a h) (limits_within b k)) (omega arith)

within : (a b c d : ℤ) → IsWithinUnit a → IsWithinLimits b → IsWithinUnit c → IsWithinLimits d
    → unsigned_abs (a *ℤ b -ℤ c *ℤ d) ≤ 2000002000000000000
within a b c d ha hb hc hd =
    difference_within a b c d 1000001 1000000000000 (unit_within a ha) (limits_within b hb) (unit_within c hc) (limits_within d hd)

product_is : (a b : ℤ) → FitsSigned w64 a → FitsSigned w64 b → IsWithinUnit a → IsWithinLimits b
    → to_z w64 (of_z w64 (to_z w64 (of_z w64 a) *ℤ to_z w64 (of_z w64 b))) ≡ a *ℤ b
product_is a b fa fb h k =
    let ea = to_z-of_z w64 a fa in
    let eb = to_z-of_z w64 b fb in
    settle w64 (to_z w64 (of_z w64 a) *ℤ to_z w64 (of_z w64 b)) (a *ℤ b) (product_fits a b h k) cc

pub overflow_sub-result : goal.overflow_sub-result
overflow_sub-result c =
    let first = product_is c.args.a c.args.b c.ranges.a c.ranges.b c.requires.a_within c.requires.b_within in
    let second = product_is c.args.c c.args.d c.ranges.c c.ranges.d c.requires.c_within c.requires.d_within in
    let fits : FitsSigned w64 (c.args.a *ℤ c.args.b -ℤ c.args.c *ℤ c.args.d) = fits64 (c.args.a *ℤ c.args.b -ℤ c.args.c *ℤ c.args.d) 2000002000000000000
    (within c.args.a c.args.b c.args.c c.args.d c.requires.a_within c.requires.b_within c.requires.c_within c.requires.d_within)
    (omega arith) in
    rw (first, second) fits

value : goal.returns-clause-value
value c = difference_is w64 (to_z w64 (of_z w64 c.args.a)) (to_z w64 (of_z w64 c.args.b)) (to_z w64 (of_z w64 c.args.c)) (to_z w64 (of_z w64 c.args.d)) c.args.a c.args.b c.args.c c.args.d
    (to_z-of_z w64 c.args.a c.ranges.a) (to_z-of_z w64 c.args.b c.ranges.b)
    (to_z-of_z w64 c.args.c c.ranges.c) (to_z-of_z w64 c.args.d c.ranges.d)
    (product_fits c.args.a c.args.b c.requires.a_within c.requires.b_within)
    (product_fits c.args.c c.args.d c.requires.c_within c.requires.d_within)
    (fits64 (c.args.a *ℤ c.args.b -ℤ c.args.c *ℤ c.args.d) 2000002000000000000 (within c.args.a c.args.b c.args.c c.args.d c.requires.a_within c.requires.b_within c.requires.c_within c.requires.d_within) (omega arith))

pub returns-clause-value : goal.returns-clause-value
returns-clause-value c = value c

pub returns-clause-within : goal.returns-clause-within
returns-clause-within c = rw (value c)
    (within c.args.a c.args.b c.args.c c.args.d c.requires.a_within c.requires.b_within c.requires.c_within c.requires.d_within)

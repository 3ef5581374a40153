use Rattle.std.proofs.Common.{arith, ◌≡◌, ◌≤◌, ◌*◌, ℤ, ◌-ℤ◌, ◌*ℤ◌, unsigned_abs, w64, FitsSigned, to_z, of_z}
use Rattle.std.specs.Int.{w128}
use Rattle.rig_fixed.specs.Rotation.{IsWithinUnit}
use Rattle.rig_fixed.proofs.Bounds.{mul_within, unit_within}
use Rattle.rig_fixed.proofs.Values.{settle, widened, fits128, difference_within}
use Rattle.rig_fixed.proofs.rotation.wide_determinant.Goals as goal

product_fits : (a b : ℤ) → IsWithinUnit a → unsigned_abs b ≤ 2000002000000000000 → FitsSigned w128 (a *ℤ b)
product_fits a b h k = fits128 (a *ℤ b) (1000001 * 2000002000000000000) (mul_within a b 1000001 2000002000000000000 (unit_within a h) k) (omega arith)

within : (a b c d : ℤ) → IsWithinUnit a → unsigned_abs b ≤ 2000002000000000000 → IsWithinUnit c → unsigned_abs d ≤ 2000002000000000000
    → unsigned_abs (a *ℤ b -ℤ c *ℤ d) ≤ 4000008000004000000000000
within a b c d ha hb hc hd =
    difference_within a b c d 1000001 2000002000000000000 (unit_within a ha) hb (unit_within c hc) hd

fits : (a b c d : ℤ) → IsWithinUnit a → unsigned_abs b ≤ 2000002000000000000 → IsWithinUnit c → unsigned_abs d ≤ 2000002000000000000
    → FitsSigned w128 (a *ℤ b -ℤ c *ℤ d)
fits a b c d ha hb hc hd = fits128 (a *ℤ b -ℤ c *ℤ d) 4000008000004000000000000 (within a b c d ha hb hc hd) (omega arith)

product_is : (a b : ℤ) → FitsSigned w64 a → FitsSigned w64 b → IsWithinUnit a → unsigned_abs b ≤ 2000002000000000000
    → to_z w128 (of_z w128 (to_z w128 (of_z w128 (to_z w64 (of_z w64 a))) *ℤ to_z w128 (of_z w128 (to_z w64 (of_z w64 b))))) ≡ a *ℤ b
product_is a b fa fb h k =
    let ea = widened a fa in
    let eb = widened b fb in
    settle w128 (to_z w128 (of_z w128 (to_z w64 (of_z w64 a))) *ℤ to_z w128 (of_z w128 (to_z w64 (of_z w64 b)))) (a *ℤ b) (product_fits a b h k) cc

pub overflow_sub-result : goal.overflow_sub-result
overflow_sub-result c =
    let first = product_is c.args.a c.args.b c.ranges.a c.ranges.b c.requires.a_within c.requires.b_within in
    let second = product_is c.args.c c.args.d c.ranges.c c.ranges.d c.requires.c_within c.requires.d_within in
    rw (first, second)
    (fits c.args.a c.args.b c.args.c c.args.d c.requires.a_within c.requires.b_within c.requires.c_within c.requires.d_within)

value : goal.returns-clause-value
value c =
    let first = product_is c.args.a c.args.b c.ranges.a c.ranges.b c.requires.a_within c.requires.b_within in
    let second = product_is c.args.c c.args.d c.ranges.c c.ranges.d c.requires.c_within c.requires.d_within in
    settle w128
    (to_z w128 (of_z w128 (to_z w128 (of_z w128 (to_z w64 (of_z w64 c.args.a))) *ℤ to_z w128 (of_z w128 (to_z w64 (of_z w64 c.args.b)))))
    -ℤ to_z w128 (of_z w128 (to_z w128 (of_z w128 (to_z w64 (of_z w64 c.args.c))) *ℤ to_z w128 (of_z w128 (to_z w64 (of_z w64 c.args.d))))))
    (c.args.a *ℤ c.args.b -ℤ c.args.c *ℤ c.args.d)
    (fits c.args.a c.args.b c.args.c c.args.d c.requires.a_within c.requires.b_within c.requires.c_within c.requires.d_within)
    cc

pub returns-clause-value : goal.returns-clause-value
returns-clause-value c = value c

pub returns-clause-within : goal.returns-clause-within
returns-clause-within c = rw (value c)
    (within c.args.a c.args.b c.args.c c.args.d c.requires.a_within c.requires.b_within c.requires.c_within c.requires.d_within)

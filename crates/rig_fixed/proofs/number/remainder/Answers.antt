use Rattle.std.proofs.Common.{arith, ◌≡◌, ◌≤◌, ◌+◌, ◌*◌, ℤ, pos, ◌+ℤ◌, ◌-ℤ◌, ◌*ℤ◌, ◌<ℤ◌, ◌≤ℤ◌, unsigned_abs, w64, FitsSigned, to_z, of_z}
use Rattle.std.specs.Int.{w128}
use Rattle.std.proofs.lemmas.Int.{ints}
use Rattle.rig_fixed.proofs.Bounds.{mul_within, sub_within}
use Rattle.rig_fixed.proofs.Values.{settle, widened, fits128}
use Rattle.rig_fixed.proofs.number.remainder.Goals as goal

any_within : (z : ℤ) → FitsSigned w64 z → unsigned_abs z ≤ 9223372036854775808
any_within z f = let h = f.sfits in omega (arith, ints)

taken_within : (b times : ℤ) → pos 0 <ℤ b → b ≤ℤ pos 9000000000000000000 → unsigned_abs times ≤ 9223372036854775808
    → unsigned_abs (pos 2 *ℤ b *ℤ times) ≤ 18000000000000000000 * 9223372036854775808
taken_within b times positive divisor h = mul_within (pos 2 *ℤ b) times 18000000000000000000 9223372036854775808 (omega (arith, ints)) h

left_within : (a b times : ℤ) → pos 0 <ℤ b → b ≤ℤ pos 9000000000000000000 → unsigned_abs a ≤ 10000000000000000000000000 → unsigned_abs times ≤ 9223372036854775808
    → unsigned_abs (pos 2 *ℤ a +ℤ b -ℤ pos 2 *ℤ b *ℤ times) ≤ 30000000000000000000000000 + 18000000000000000000 * 9223372036854775808
left_within a b times positive divisor ha ht =
    sub_within (pos 2 *ℤ a +ℤ b) (pos 2 *ℤ b *ℤ times) 30000000000000000000000000 (18000000000000000000 * 9223372036854775808) (omega (arith, ints)) (taken_within b times positive divisor ht)

start_is : (a b : ℤ) → FitsSigned w128 a → FitsSigned w128 b → pos 0 <ℤ b → b ≤ℤ pos 9000000000000000000 → unsigned_abs a ≤ 10000000000000000000000000
    → to_z w128 (of_z w128 (to_z w128 (of_z w128 (pos 2 *ℤ to_z w128 (of_z w128 a))) +ℤ to_z w128 (of_z w128 b))) ≡ pos 2 *ℤ a +ℤ b
start_is a b fa fb positive divisor ha = omega (arith, ints)

twice_is : (b : ℤ) → FitsSigned w128 b → pos 0 <ℤ b → b ≤ℤ pos 9000000000000000000
    → to_z w128 (of_z w128 (pos 2 *ℤ to_z w128 (of_z w128 b))) ≡ pos 2 *ℤ b
twice_is b fb positive divisor = omega (arith, ints)

taken_is : (b times : ℤ) → FitsSigned w128 b → FitsSigned w64 times → pos 0 <ℤ b → b ≤ℤ pos 9000000000000000000 → unsigned_abs times ≤ 9223372036854775808
    → to_z w128 (of_z w128 (to_z w128 (of_z w128 (pos 2 *ℤ to_z w128 (of_z w128 b))) *ℤ to_z w128 (of_z w128 (to_z w64 (of_z w64 times))))) ≡ pos 2 *ℤ b *ℤ times
taken_is b times fb ft positive divisor h =
    let eb = twice_is b fb positive divisor in
    let et = widened times ft in
    settle w128 (to_z w128 (of_z w128 (pos 2 *ℤ to_z w128 (of_z w128 b))) *ℤ to_z w128 (of_z w128 (to_z w64 (of_z w64 times)))) (pos 2 *ℤ b *ℤ times)
    (fits128 (pos 2 *ℤ b *ℤ times) (18000000000000000000 * 9223372036854775808) (taken_within b times positive divisor h) (omega arith)) cc

left_fits : (a b times : ℤ) → pos 0 <ℤ b → b ≤ℤ pos 9000000000000000000 → unsigned_abs a ≤ 10000000000000000000000000 → unsigned_abs times ≤ 9223372036854775808
    → FitsSigned w128 (pos 2 *ℤ a +ℤ b -ℤ pos 2 *ℤ b *ℤ times)
left_fits a b times positive divisor ha ht =
    fits128 (pos 2 *ℤ a +ℤ b -ℤ pos 2 *ℤ b *ℤ times) (30000000000000000000000000 + 18000000000000000000 * 9223372036854775808) (left_within a b times positive divisor ha ht) (omega arith)

pub overflow_sub-result : goal.overflow_sub-result
overflow_sub-result c =
    let first = start_is c.args.a c.args.b c.ranges.a c.ranges.b c.requires.positive c.requires.divisor c.requires.dividend in
    let second = taken_is c.args.b c.args.times c.ranges.b c.ranges.times c.requires.positive c.requires.divisor (any_within c.args.times c.ranges.times) in
    rw (first, second) (left_fits c.args.a c.args.b c.args.times c.requires.positive c.requires.divisor c.requires.dividend (any_within c.args.times c.ranges.times))

pub returns : goal.returns
returns c =
    let first = start_is c.args.a c.args.b c.ranges.a c.ranges.b c.requires.positive c.requires.divisor c.requires.dividend in
    let second = taken_is c.args.b c.args.times c.ranges.b c.ranges.times c.requires.positive c.requires.divisor (any_within c.args.times c.ranges.times) in
    settle w128 (to_z w128 (of_z w128 (to_z w128 (of_z w128 (pos 2 *ℤ to_z w128 (of_z w128 c.args.a))) +ℤ to_z w128 (of_z w128 c.args.b))) -ℤ to_z w128 (of_z w128 (to_z w128 (of_z w128 (pos 2 *ℤ to_z w128 (of_z w128 c.args.b))) *ℤ to_z w128 (of_z w128 (to_z w64 (of_z w64 c.args.times)))))) (pos 2 *ℤ c.args.a +ℤ c.args.b -ℤ pos 2 *ℤ c.args.b *ℤ c.args.times)
    (left_fits c.args.a c.args.b c.args.times c.requires.positive c.requires.divisor c.requires.dividend (any_within c.args.times c.ranges.times)) cc

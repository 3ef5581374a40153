use Rattle.std.proofs.Common.{arith, w64, rules, ◌≡◌, sym, ℤ, pos, ◌+ℤ◌, ◌-ℤ◌, ◌*ℤ◌, ◌<ℤ◌, ◌≤ℤ◌, FitsSigned, to_z, of_z}
use Rattle.std.specs.Int.{w128}
use Rattle.std.specs.Int.Signed.{le_z_yes, lt_z_yes}
use Rattle.std.proofs.lemmas.Int.{ints, to_z-of_z}
use Rattle.rig_fixed.specs.Number.{rdiv}
use Rattle.rig_fixed.proofs.Quotient.{rounded_is}
use Rattle.rig_fixed.proofs.number.is_quotient.Goals as goal

told : (a b q rest : ℤ) → FitsSigned w128 b → FitsSigned w128 rest → pos 0 <ℤ b → b ≤ℤ pos 9000000000000000000
    → rest ≡ pos 2 *ℤ a +ℤ b -ℤ pos 2 *ℤ b *ℤ q
    → pos 0 ≤ℤ to_z w128 (of_z w128 rest) → to_z w128 (of_z w128 rest) <ℤ to_z w128 (of_z w128 (pos 2 *ℤ to_z w128 (of_z w128 b)))
    → rdiv a b ≡ q
told a b q rest fb fr positive divisor e low high = rounded_is a b q positive (omega (arith, ints)) (omega (arith, ints))

remainder_is : (a b q rest A B Q : ℤ) → A ≡ a → B ≡ b → Q ≡ q → rest ≡ pos 2 *ℤ A +ℤ B -ℤ pos 2 *ℤ B *ℤ Q → rest ≡ pos 2 *ℤ a +ℤ b -ℤ pos 2 *ℤ b *ℤ q
remainder_is a b q rest A B Q ea eb eq e = cc

pub returns-then-rest-ge0 : goal.returns-then-rest-ge0
returns-then-rest-ge0 c high =
    let fits : FitsSigned w128 c.remainder-rest.result = search rules in
    let rest = remainder_is c.args.a c.args.b c.args.quotient c.remainder-rest.result _ _ _ (to_z-of_z w128 c.args.a c.ranges.a) (to_z-of_z w128 c.args.b c.ranges.b) (to_z-of_z w64 c.args.quotient c.ranges.quotient) c.remainder-rest.ensures in
    sym (told c.args.a c.args.b c.args.quotient c.remainder-rest.result c.ranges.b fits c.requires.positive c.requires.divisor rest (le_z_yes (search rules)) (lt_z_yes (search rules)))

use Rattle.std.proofs.Common.{arith, rules, ◌≡◌, ◌∙◌, ap, ◌≤◌, ◌*◌, ◌<ℤ◌, ℤ, pos, ◌*ℤ◌, unsigned_abs, FitsSigned, w64, to_z, of_z}
use Rattle.std.specs.Int.{w128}
use Rattle.std.proofs.lemmas.Int.{ints, to_z-of_z}
use Rattle.rig_fixed.specs.Number.{rdiv}
use Rattle.rig_fixed.specs.Rotation.{IsWithinUnit}
use Rattle.rig_fixed.proofs.Bounds.{rdiv_within_part}
use Rattle.rig_fixed.proofs.Values.{settle, fits64}
use Rattle.rig_fixed.proofs.quaternion.over_length.Goals as goal

unit_of : (z : ℤ) → unsigned_abs z ≤ 1000000 → IsWithinUnit z
unit_of z h = (omega (arith, ints), omega (arith, ints))

part_within : (a d : ℤ) → pos 0 <ℤ d → unsigned_abs a * 1000000 ≤ unsigned_abs d → unsigned_abs (rdiv (a *ℤ pos 1000000000000) d) ≤ 1000000
part_within a d p h = rdiv_within_part (a *ℤ pos 1000000000000) d 1000000 p (omega (arith, ints))

quotient_is : (c : goal.After-quotient_over_length) → c.quotient_over_length.result ≡ rdiv (c.args.component *ℤ pos 1000000000000) c.args.length
quotient_is c =
    c.quotient_over_length.ensures
    ∙ ap (λ (n : ℤ). rdiv (n *ℤ pos 1000000000000) (to_z w128 (of_z w128 c.args.length))) (to_z-of_z w64 c.args.component c.ranges.component)
    ∙ ap (λ (d : ℤ). rdiv (c.args.component *ℤ pos 1000000000000) d) (to_z-of_z w128 c.args.length c.ranges.length)

quotient_within : (c : goal.After-quotient_over_length) → unsigned_abs c.quotient_over_length.result ≤ 1000000
quotient_within c = rw (quotient_is c) (part_within c.args.component c.args.length c.requires.positive c.requires.part)

pub returns-clause-value : goal.returns-clause-value
returns-clause-value c =
    let fits : FitsSigned w128 c.quotient_over_length.result = search rules in
    settle w64 (to_z w128 (of_z w128 c.quotient_over_length.result)) c.quotient_over_length.result (fits64 c.quotient_over_length.result 1000000 (quotient_within c) (omega arith)) (to_z-of_z w128 c.quotient_over_length.result fits)
    ∙ quotient_is c

pub returns-clause-within : goal.returns-clause-within
returns-clause-within c =
    rw (returns-clause-value c) (unit_of (rdiv (c.args.component *ℤ pos 1000000000000) c.args.length) (part_within c.args.component c.args.length c.requires.positive c.requires.part))

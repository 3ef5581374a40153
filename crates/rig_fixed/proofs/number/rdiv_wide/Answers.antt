use Rattle.std.proofs.Common.{rules, arith, ◌≡◌, ◌∙◌, ap, pos, ℤ, ◌+ℤ◌, ◌*ℤ◌, FitsSigned, to_z, of_z}
use Rattle.std.specs.Int.{int_div_euclid, w128}
use Rattle.std.proofs.lemmas.Int.{to_z-of_z, ints}
use Rattle.rig_fixed.proofs.number.rdiv_wide.Goals as goal

pub returns : goal.returns
returns c =
    let fits : FitsSigned w128 c.div_euclid.result = search rules in
    let numerator : to_z w128 (of_z w128 (to_z w128 (of_z w128 (pos 2 *ℤ to_z w128 (of_z w128 c.args.a))) +ℤ to_z w128 (of_z w128 c.args.b)))
    ≡ pos 2 *ℤ c.args.a +ℤ c.args.b = omega (arith, ints) in
    let divisor : to_z w128 (of_z w128 (pos 2 *ℤ to_z w128 (of_z w128 c.args.b))) ≡ pos 2 *ℤ c.args.b = omega (arith, ints) in
    to_z-of_z w128 c.div_euclid.result fits ∙ c.div_euclid.ensures
    ∙ ap (λ (n : ℤ). int_div_euclid n (to_z w128 (of_z w128 (pos 2 *ℤ to_z w128 (of_z w128 c.args.b))))) numerator
    ∙ ap (int_div_euclid (pos 2 *ℤ c.args.a +ℤ c.args.b)) divisor

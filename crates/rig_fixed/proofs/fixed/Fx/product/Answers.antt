use Rattle.std.proofs.Common.{arith, rules, ◌≡◌, ◌∙◌, ap, ℤ, ◌*ℤ◌, w64, FitsSigned}
use Rattle.std.proofs.lemmas.Int.{to_z-of_z}
use Rattle.rig_fixed.specs.Fixed.{unit}
use Rattle.rig_fixed.specs.Number.{rdiv}
use Rattle.rig_fixed.proofs.Bounds.{limits_within}
use Rattle.rig_fixed.proofs.Values.{product_is}
use Rattle.rig_fixed.proofs.fixed.Fx.product.Goals as goal

pub returns : goal.returns
returns c =
    let a = c.get.result in
    let b = c.get-2.result in
    let a_is : a ≡ c.args.self = c.get.ensures.value in
    let b_is : b ≡ c.args.other = c.get-2.ensures.value in
    let product = product_is a b 1000000000000 1000000000000 (search rules) (search rules) (limits_within a c.get.ensures.within) (limits_within b c.get-2.ensures.within) (omega arith) in
    let fits : FitsSigned w64 c.over_unit.result = search rules in
    to_z-of_z w64 c.over_unit.result fits ∙ c.over_unit.ensures
    ∙ ap (λ (z : ℤ). rdiv z unit) (product ∙ ap (λ (z : ℤ). z *ℤ b) a_is ∙ ap (λ (z : ℤ). c.args.self *ℤ z) b_is)

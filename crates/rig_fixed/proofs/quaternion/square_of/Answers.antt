use Rattle.std.proofs.Common.{◌≡◌, ◌∙◌, ap, arith, ℤ, ◌*ℤ◌, w64, FitsSigned, to_z, of_z, rules}
use Rattle.std.specs.Int.{w128}
use Rattle.std.proofs.lemmas.Int.{to_z-of_z}
use Rattle.rig_fixed.specs.Bounds.{square_bound}
use Rattle.rig_fixed.specs.Rotation.{square_of}
use Rattle.rig_fixed.proofs.Values.{SumOfFour, sum_of_four, sums_same}
use Rattle.rig_fixed.proofs.quaternion.square_of.Goals as goal

square_is : (w a : ℤ) → FitsSigned w64 w → a ≡ to_z w64 (of_z w64 w) *ℤ to_z w64 (of_z w64 w) → a ≡ w *ℤ w
square_is w a f e = e ∙ ap (λ (z : ℤ). z *ℤ z) (to_z-of_z w64 w f)

sum_in : (c : goal.After-square-4) → SumOfFour w128 square_bound c.square.result c.square-2.result c.square-3.result c.square-4.result
sum_in c =
    sum_of_four w128 square_bound (omega arith) _ _ _ _ c.square.ensures.within c.square-2.ensures.within c.square-3.ensures.within c.square-4.ensures.within

pub overflow_add-result-2 : goal.overflow_add-result-2
overflow_add-result-2 c =
    let sum = sum_of_four w128 square_bound (omega arith) c.square.result c.square-2.result c.square-3.result c.square-3.result
    c.square.ensures.within c.square-2.ensures.within c.square-3.ensures.within c.square-3.ensures.within in
    sum.fits3

pub overflow_add-result-3 : goal.overflow_add-result-3
overflow_add-result-3 c = (sum_in c).fits4

pub returns-clause-value : goal.returns-clause-value
returns-clause-value c =
    let q = c.q.inside in
    (sum_in c).value
    ∙ sums_same (q.w *ℤ q.w) (q.x *ℤ q.x) (q.y *ℤ q.y) (q.z *ℤ q.z) _ _ _ _
    (square_is q.w c.square.result (search rules) c.square.ensures.value) (square_is q.x c.square-2.result (search rules) c.square-2.ensures.value)
    (square_is q.y c.square-3.result (search rules) c.square-3.ensures.value) (square_is q.z c.square-4.result (search rules) c.square-4.ensures.value)
    ∙ ap square_of c.q.view_is

pub returns-clause-within : goal.returns-clause-within
returns-clause-within c = rw (sum_in c).value (sum_in c).within

use Rattle.std.proofs.Common.{◌≡◌, arith, ℤ, ◌+ℤ◌, ◌*ℤ◌, w64, FitsSigned, to_z, of_z, rules, ◌∙◌, ap}
use Rattle.std.proofs.lemmas.Int.{to_z-of_z}
use Rattle.rig_fixed.specs.Bounds.{product_bound}
use Rattle.rig_fixed.specs.Rotation.{Rotation}
use Rattle.rig_fixed.proofs.Length.{four}
use Rattle.rig_fixed.proofs.Values.{SumOfFour, sum_of_four, sums_same}
use Rattle.rig_fixed.proofs.rotation.dot.Goals as goal

product_is : (p q r : ℤ) → FitsSigned w64 p → FitsSigned w64 q → r ≡ to_z w64 (of_z w64 p) *ℤ to_z w64 (of_z w64 q) → r ≡ p *ℤ q
product_is p q r fp fq e = let ep = to_z-of_z w64 p fp in let eq = to_z-of_z w64 q fq in cc

abbrev dot_of : Rotation → Rotation → ℤ
dot_of p q = p.w *ℤ q.w +ℤ p.x *ℤ q.x +ℤ p.y *ℤ q.y +ℤ p.z *ℤ q.z

sum_in : (c : goal.After-component_product-4) → SumOfFour w64 product_bound c.component_product.result c.component_product-2.result c.component_product-3.result c.component_product-4.result
sum_in c = sum_of_four w64 product_bound (omega arith) _ _ _ _ c.component_product.ensures.within c.component_product-2.ensures.within c.component_product-3.ensures.within c.component_product-4.ensures.within

pub overflow_add-result : goal.overflow_add-result
overflow_add-result c =
    let a = c.component_product.ensures.within in
    let b = c.component_product-2.ensures.within in
    (sum_of_four w64 product_bound (omega arith) c.component_product.result c.component_product-2.result c.component_product.result c.component_product.result a b a a).fits2

pub overflow_add-result-2 : goal.overflow_add-result-2
overflow_add-result-2 c =
    let a = c.component_product.ensures.within in
    (sum_of_four w64 product_bound (omega arith) c.component_product.result c.component_product-2.result c.component_product-3.result c.component_product.result a c.component_product-2.ensures.within c.component_product-3.ensures.within a).fits3

pub overflow_add-result-3 : goal.overflow_add-result-3
overflow_add-result-3 c = (sum_in c).fits4

pub returns-clause-value : goal.returns-clause-value
returns-clause-value c =
    let p = c.p.inside in
    let q = c.q.inside in
    let products = sums_same (p.w *ℤ q.w) (p.x *ℤ q.x) (p.y *ℤ q.y) (p.z *ℤ q.z) _ _ _ _
    (product_is p.w q.w _ (search rules) (search rules) c.component_product.ensures.value) (product_is p.x q.x _ (search rules) (search rules) c.component_product-2.ensures.value)
    (product_is p.y q.y _ (search rules) (search rules) c.component_product-3.ensures.value) (product_is p.z q.z _ (search rules) (search rules) c.component_product-4.ensures.value) in
    (sum_in c).value ∙ products ∙ ap (λ (r : Rotation). dot_of r (four q.w q.x q.y q.z)) c.p.view_is ∙ ap (λ (r : Rotation). dot_of c.args.p r) c.q.view_is

pub returns-clause-within : goal.returns-clause-within
returns-clause-within c = rw (sum_in c).value (sum_in c).within

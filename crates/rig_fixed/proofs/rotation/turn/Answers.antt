use Rattle.std.proofs.Common.{arith, rules, suc, subst, ◌≡◌, ◌∙◌, sym, ◌≤◌, ◌*◌, ap, ℤ, pos, negsuc, ◌+ℤ◌, ◌*ℤ◌, unsigned_abs, w64, FitsSigned, to_z, of_z}
use Rattle.std.specs.Int.{w128}
use Rattle.std.proofs.lemmas.Int.{ints, to_z-of_z}
use Rattle.rig_fixed.specs.Number.{rdiv}
use Rattle.rig_fixed.specs.Rotation.{IsWithinUnit}
use Rattle.rig_fixed.proofs.Bounds.{mul_within, unit_within, add_within}
use Rattle.rig_fixed.proofs.Values.{settle, fits128, product_is}
use Rattle.rig_fixed.proofs.rotation.turn.Goals as goal

first_is : (w once : ℤ) → FitsSigned w64 w → FitsSigned w64 once → IsWithinUnit w → unsigned_abs once ≤ 2000002000000000000
    → to_z w128 (of_z w128 (to_z w128 (of_z w128 (to_z w64 (of_z w64 w))) *ℤ to_z w128 (of_z w128 (to_z w64 (of_z w64 once))))) ≡ w *ℤ once
first_is w once fw fo h k = product_is w once 1000001 2000002000000000000 fw fo (unit_within w h) k (omega arith)

half_within : (w once twice : ℤ) → IsWithinUnit w → unsigned_abs once ≤ 2000002000000000000 → unsigned_abs twice ≤ 4000008000004000000000000
    → unsigned_abs (w *ℤ once +ℤ twice) ≤ 6000012000006000000000000
half_within w once twice h k l =
    let p = mul_within w once 1000001 2000002000000000000 (unit_within w h) k in
    add_within (w *ℤ once) twice 2000004000002000000000000 4000008000004000000000000 (omega arith) l

half_fits : (w once twice : ℤ) → IsWithinUnit w → unsigned_abs once ≤ 2000002000000000000 → unsigned_abs twice ≤ 4000008000004000000000000
    → FitsSigned w128 (w *ℤ once +ℤ twice)
half_fits w once twice h k l = fits128 (w *ℤ once +ℤ twice) 6000012000006000000000000 (half_within w once twice h k l) (omega arith)

half_is : (w once twice : ℤ) → FitsSigned w64 w → FitsSigned w64 once → FitsSigned w128 twice
    → IsWithinUnit w → unsigned_abs once ≤ 2000002000000000000 → unsigned_abs twice ≤ 4000008000004000000000000
    → to_z w128 (of_z w128 (to_z w128 (of_z w128 (to_z w128 (of_z w128 (to_z w64 (of_z w64 w))) *ℤ to_z w128 (of_z w128 (to_z w64 (of_z w64 once))))) +ℤ to_z w128 (of_z w128 twice)))
    ≡ w *ℤ once +ℤ twice
half_is w once twice fw fo ft h k l =
    let first = first_is w once fw fo h k in
    let second = to_z-of_z w128 twice ft in
    settle w128
    (to_z w128 (of_z w128 (to_z w128 (of_z w128 (to_z w64 (of_z w64 w))) *ℤ to_z w128 (of_z w128 (to_z w64 (of_z w64 once))))) +ℤ to_z w128 (of_z w128 twice))
    (w *ℤ once +ℤ twice) (half_fits w once twice h k l) cc

pub overflow_add-w : goal.overflow_add-w
overflow_add-w c =
    let first = first_is c.args.w c.args.once c.ranges.w c.ranges.once c.requires.w_within c.requires.once_within in
    let second = to_z-of_z w128 c.args.twice c.ranges.twice in
    rw (first, second) (half_fits c.args.w c.args.once c.args.twice c.requires.w_within c.requires.once_within c.requires.twice_within)

pub twice_over_unit_square-requires : goal.twice_over_unit_square-requires
twice_over_unit_square-requires c =
    let e = half_is c.args.w c.args.once c.args.twice c.ranges.w c.ranges.once c.ranges.twice c.requires.w_within c.requires.once_within c.requires.twice_within in
    let h = half_within c.args.w c.args.once c.args.twice c.requires.w_within c.requires.once_within c.requires.twice_within in
    rw e (omega arith)

twice_product : (w once : ℤ) → pos 2 *ℤ (w *ℤ once) ≡ pos 2 *ℤ w *ℤ once
twice_product (pos a) (pos b) = omega (arith, ints)
twice_product (pos a) (negsuc b) = omega (arith, ints)
twice_product (negsuc a) (pos b) =
    let double : pos 2 *ℤ negsuc a ≡ negsuc (suc (2 * a)) = omega (arith, ints) in
    subst (λ (z : ℤ). pos 2 *ℤ (negsuc a *ℤ pos b) ≡ z *ℤ pos b) (sym double) (omega (arith, ints))
twice_product (negsuc a) (negsuc b) =
    let double : pos 2 *ℤ negsuc a ≡ negsuc (suc (2 * a)) = omega (arith, ints) in
    subst (λ (z : ℤ). pos 2 *ℤ (negsuc a *ℤ negsuc b) ≡ z *ℤ negsuc b) (sym double) (omega (arith, ints))

doubled : (w once twice : ℤ) → pos 2 *ℤ (w *ℤ once +ℤ twice) ≡ pos 2 *ℤ w *ℤ once +ℤ pos 2 *ℤ twice
doubled w once twice =
    let split : pos 2 *ℤ (w *ℤ once +ℤ twice) ≡ pos 2 *ℤ (w *ℤ once) +ℤ pos 2 *ℤ twice = omega (arith, ints) in
    split ∙ ap (λ (z : ℤ). z +ℤ pos 2 *ℤ twice) (twice_product w once)

pub returns-clause-value : goal.returns-clause-value
returns-clause-value c =
    let e = half_is c.args.w c.args.once c.args.twice c.ranges.w c.ranges.once c.ranges.twice c.requires.w_within c.requires.once_within c.requires.twice_within in
    let fits : FitsSigned w64 c.twice_over_unit_square.result = search rules in
    to_z-of_z w64 c.twice_over_unit_square.result fits ∙ c.twice_over_unit_square.ensures.value
    ∙ ap (λ (z : ℤ). rdiv (pos 2 *ℤ z) (pos 1000000000000)) e ∙ ap (λ (z : ℤ). rdiv z (pos 1000000000000)) (doubled c.args.w c.args.once c.args.twice)

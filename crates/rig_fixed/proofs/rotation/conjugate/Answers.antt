use Rattle.std.proofs.Common.{arith, rules, ◌≡◌, ◌∙◌, ap, ℤ, pos, ◌-ℤ◌, neg_ℤ, w64, FitsSigned, to_z, of_z}
use Rattle.std.proofs.lemmas.Int.{ints, to_z-of_z}
use Rattle.rig_fixed.specs.Rotation.{IsWithinUnit, conjugate}
use Rattle.rig_fixed.proofs.Length.{four_same}
use Rattle.rig_fixed.proofs.rotation.conjugate.Goals as goal

negated : (z : ℤ) → IsWithinUnit z → to_z w64 (of_z w64 (pos 0 -ℤ to_z w64 (of_z w64 z))) ≡ neg_ℤ z
negated z h = omega (arith, ints)

pub returns : goal.returns
returns c =
    let q = c.q.inside in
    let fits : FitsSigned w64 q.w = search rules in
    four_same q.w (neg_ℤ q.x) (neg_ℤ q.y) (neg_ℤ q.z) _ _ _ _ (to_z-of_z w64 q.w fits) (negated q.x c.q.invariant.1) (negated q.y c.q.invariant.2) (negated q.z c.q.invariant.3)
    ∙ ap conjugate c.q.view_is

use Rattle.std.proofs.Common.{rules, refl, sym, arith, ◌≡◌, ◌∙◌, ap, zero, suc, ℤ, pos, negsuc, ◌<ℤ◌, w64, FitsSigned}
use Rattle.std.proofs.lemmas.Int.{ints}
use Rattle.rig_fixed.specs.Rotation.{no_rotation, unit_rotation}
use Rattle.rig_fixed.proofs.Length.{four, four_same, told_by}
use Rattle.rig_fixed.proofs.Shortcuts.{unit_rotation_scalar}
use Rattle.rig_fixed.proofs.rotation.unit_rotation.Goals as goal

scalar_alone : (w : ℤ) → pos 0 <ℤ w → no_rotation ≡ unit_rotation (four w (pos 0) (pos 0) (pos 0))
scalar_alone (pos (suc n)) h = sym (unit_rotation_scalar n)
scalar_alone (pos zero) h = absurd (omega (arith, ints))
scalar_alone (negsuc n) h = absurd (omega (arith, ints))

pub returns-then-q-eq0-3 : goal.returns-then-q-eq0-3
returns-then-q-eq0-3 c =
    let q = c.q.inside in
    let fx : FitsSigned w64 q.x = search rules in
    let fy : FitsSigned w64 q.y = search rules in
    let fz : FitsSigned w64 q.z = search rules in
    scalar_alone q.w (search rules)
    ∙ ap unit_rotation (four_same q.w q.x q.y q.z q.w (pos 0) (pos 0) (pos 0) refl
    (sym (told_by w64 q.x 0 fx c.if-q-eq0.true)) (sym (told_by w64 q.y 0 fy c.if-q-eq0-2.true)) (sym (told_by w64 q.z 0 fz c.if-q-eq0-3.true))
    ∙ c.q.view_is)

use Rattle.std.proofs.Common.{rules, refl, sym, ◌≡◌, ◌∙◌, ap, subst, pos, w64, FitsSigned}
use Rattle.rig_fixed.specs.Fixed.{IsWithinLimits}
use Rattle.rig_fixed.specs.Rotation.{Rotation, rotate}
use Rattle.rig_fixed.proofs.Length.{four_same, told_by}
use Rattle.rig_fixed.proofs.Shortcuts.{unturned_point}
use Rattle.rig_fixed.proofs.rotation.rotate.Goals as goal

pub returns-then-q-eq0-3 : goal.returns-then-q-eq0-3
returns-then-q-eq0-3 c =
    let q = c.q.inside in
    let v = c.args.v in
    let hx : IsWithinLimits v.x = search rules in
    let hy : IsWithinLimits v.y = search rules in
    let hz : IsWithinLimits v.z = search rules in
    let fx : FitsSigned w64 q.x = search rules in
    let fy : FitsSigned w64 q.y = search rules in
    let fz : FitsSigned w64 q.z = search rules in
    subst (λ (r : Rotation). v ≡ rotate r v) c.q.view_is
    (unturned_point q.w v hx hy hz
    ∙ ap (λ (r : Rotation). rotate r v) (four_same q.w q.x q.y q.z q.w (pos 0) (pos 0) (pos 0) refl
    (sym (told_by w64 q.x 0 fx c.if-q-eq0.true)) (sym (told_by w64 q.y 0 fy c.if-q-eq0-2.true)) (sym (told_by w64 q.z 0 fz c.if-q-eq0-3.true))))

use Rattle.std.proofs.Common.{rules, sym, ◌≡◌, ◌∙◌, ap, ℤ, w64, FitsSigned}
use Rattle.rig_fixed.specs.Fixed.{IsWithinLimits, unit}
use Rattle.rig_fixed.specs.Vector.{v3_multiple}
use Rattle.rig_fixed.proofs.Length.{told_by}
use Rattle.rig_fixed.proofs.Shortcuts.{unscaled_point}
use Rattle.rig_fixed.proofs.vector.V3.multiple.Goals as goal

pub returns-then-get-eq-UNIT : goal.returns-then-get-eq-UNIT
returns-then-get-eq-UNIT c =
    let v = c.args.self in
    let hx : IsWithinLimits v.x = search rules in
    let hy : IsWithinLimits v.y = search rules in
    let hz : IsWithinLimits v.z = search rules in
    let fits : FitsSigned w64 c.get.result = search rules in
    let is : unit ≡ c.args.scale = sym (told_by w64 c.get.result 1000000 fits c.if-get-eq-UNIT.true) ∙ c.get.ensures.value in
    unscaled_point v hx hy hz ∙ ap (λ (z : ℤ). v3_multiple z v) is

use Rattle.std.proofs.Common.{◌≡◌, length, map, take, vec_len, vec_capacity}
use Rattle.rig_scene.specs.declared.action.Curve.{Curve}
use Rattle.rig_scene.specs.Curve.{curve_value}
use Rattle.rig_kernel.proofs.animation.numbers.Given as goal

abbrev pub invariant-loop-curve : goal.invariant-loop-curve
invariant-loop-curve l = record {
  items : l.numbers.items ≡ map (λ (c : Curve). curve_value c l.frame) (take l.curve-index l.curves);
  len : vec_len l.numbers ≡ l.curve-index;
  room : vec_capacity l.numbers ≡ length l.curves;
}

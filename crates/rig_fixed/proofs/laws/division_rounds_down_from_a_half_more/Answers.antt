use Rattle.std.proofs.Common.{◌*◌, arith}
use Rattle.std.proofs.Math.IntN.{pos, ◌+ℤ◌, ◌*ℤ◌}
use Rattle.rig_fixed.proofs.Rounding.{floor-of_div_euclid}
use Rattle.rig_fixed.proofs.laws.division_rounds_down_from_a_half_more.Goals as goal

pub returns : goal.returns
returns c = λ a b h. floor-of_div_euclid (pos 2 *ℤ a +ℤ pos b) (2 * b) (omega arith)

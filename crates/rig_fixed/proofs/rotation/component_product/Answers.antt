use Rattle.std.proofs.Common.{arith, ◌*◌, w64, to_z, of_z, ◌*ℤ◌}
use Rattle.std.proofs.lemmas.Int.{to_z-of_z}
use Rattle.rig_fixed.proofs.Bounds.{mul_within, unit_within}
use Rattle.rig_fixed.proofs.Values.{settle, fits64}
use Rattle.rig_fixed.proofs.rotation.component_product.Goals as goal

value : goal.returns-clause-value
value c =
    let a = c.args.a in
    let b = c.args.b in
    let ea = to_z-of_z w64 a c.ranges.a in
    let eb = to_z-of_z w64 b c.ranges.b in
    settle w64 (to_z w64 (of_z w64 a) *ℤ to_z w64 (of_z w64 b)) (a *ℤ b)
    (fits64 (a *ℤ b) (1000001 * 1000001) (mul_within a b 1000001 1000001 (unit_within a c.requires.a_within) (unit_within b c.requires.b_within)) (omega arith)) cc

pub returns-clause-value : goal.returns-clause-value
returns-clause-value c = value c

pub returns-clause-within : goal.returns-clause-within
returns-clause-within c =
    rw (value c) (mul_within c.args.a c.args.b 1000001 1000001 (unit_within c.args.a c.requires.a_within) (unit_within c.args.b c.requires.b_within))

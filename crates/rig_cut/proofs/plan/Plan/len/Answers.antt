use Rattle.std.proofs.Common.{arith}
use Rattle.rig_cut.proofs.Planned.{length_is}
use Rattle.rig_cut.proofs.plan.Plan.len.Goals as goal

pub returns : goal.returns
returns c =
    let p = c.self.inside in
    let len = length_is p.ops.items p.ins c.self.invariant c.args.self.now c.self.view_is in
    omega arith

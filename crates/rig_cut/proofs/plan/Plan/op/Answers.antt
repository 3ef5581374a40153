use Rattle.std.proofs.Common.{◌≡◌, length, ◌∙◌, arith}
use Rattle.std.proofs.lemmas.Option.{slice_get_read}
use Rattle.rig_cut.proofs.Planned.{length_is, op_at}
use Rattle.rig_cut.proofs.plan.Plan.op.Goals as goal

pub index-requires : goal.index-requires
index-requires c =
    let p = c.self.inside in
    let len = length_is p.ops.items p.ins c.self.invariant c.args.self.now c.self.view_is in
    omega arith

pub returns : goal.returns
returns c =
    let p = c.self.inside in
    let len = length_is p.ops.items p.ins c.self.invariant c.args.self.now c.self.view_is in
    op_at p.ops.items p.ins c.self.invariant c.args.self.now c.self.view_is c.args.i
    ∙ slice_get_read p.ops.items (length p.ops.items) c.args.i c.index.result.now (let e : length p.ops.items ≡ length p.ops.items = omega arith in e) (omega arith) c.index.ensures

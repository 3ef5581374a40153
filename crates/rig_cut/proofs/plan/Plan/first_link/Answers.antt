use Rattle.std.proofs.Common.{sym, ◌∙◌, arith}
use Rattle.rig_cut.proofs.Planned.{length_is, links_before}
use Rattle.rig_cut.proofs.plan.Plan.first_link.Goals as goal

pub start-requires : goal.start-requires
start-requires c =
    let p = c.self.inside in
    let same = c.self.invariant.same_length in
    let len = length_is p.ops.items p.ins c.self.invariant c.args.self.now c.self.view_is in
    omega arith

pub returns : goal.returns
returns c =
    let p = c.self.inside in
    c.start.ensures ∙ sym (links_before p.ops.items p.ins c.self.invariant c.args.self.now c.self.view_is c.args.i)

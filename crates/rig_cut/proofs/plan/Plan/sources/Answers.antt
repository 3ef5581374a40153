use Rattle.std.proofs.Common.{sym, ◌∙◌}
use Rattle.rig_cut.proofs.Planned.{sources_are}
use Rattle.rig_cut.proofs.plan.Plan.sources.Goals as goal

pub returns : goal.returns
returns c =
    let p = c.self.inside in
    c.items.ensures ∙ sym (sources_are p.ops.items p.ins c.self.invariant c.args.self.now c.self.view_is)

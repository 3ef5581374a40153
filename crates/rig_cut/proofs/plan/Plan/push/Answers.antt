use Rattle.std.proofs.Common.{◌++◌, ◌∷◌, [], ap, sym, subst, ◌∙◌, arith}
use Rattle.rig_cut.specs.PlanRows.{nodes_of, ArePlanned}
use Rattle.rig_cut.proofs.Planned.{links_are, planned_more, nodes_push}
use Rattle.rig_cut.proofs.plan.Plan.push.Goals as goal

pub push-requires : goal.push-requires
push-requires c =
    let p = c.self.inside in
    omega (arith, links_are p.ops.items p.ins c.self.invariant c.args.self.now c.self.view_is, c.requires.few)

pub invariant_of-self-2 : goal.invariant_of-self-2
invariant_of-self-2 c =
    let p = c.self.inside in
    let ops = c.push_reserved.ensures.items ∙ ap (λ l. l ++ c.args.op ∷ []) c.in_ok-reserve.ensures.items in
    subst (λ l. ArePlanned l c.push.new.self) (sym ops)
    (subst (λ r. ArePlanned (p.ops.items ++ c.args.op ∷ []) r) (sym c.in_ok-push.ensures.ok)
    (planned_more p.ops.items p.ins c.self.invariant c.args.self.now c.self.view_is c.args.op c.args.ins.now c.requires.room c.requires.earlier c.requires.few))

pub returns-clause-ok : goal.returns-clause-ok
returns-clause-ok c =
    let p = c.self.inside in
    ap (λ l. nodes_of l c.push.new.self) (c.push_reserved.ensures.items ∙ ap (λ l. l ++ c.args.op ∷ []) c.in_ok-reserve.ensures.items)
    ∙ ap (nodes_of (p.ops.items ++ c.args.op ∷ [])) c.in_ok-push.ensures.ok
    ∙ nodes_push p.ops.items p.ins c.args.op c.args.ins.now c.self.invariant.same_length
    ∙ ap (λ l. l ++ record { op = c.args.op; ins = c.args.ins.now } ∷ []) c.self.view_is

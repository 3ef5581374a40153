use Rattle.std.proofs.Common.{◌++◌, ap, ◌∙◌, arith}
use Rattle.rig_flush.specs.Tables.{places_in}
use Rattle.rig_flush.proofs.Planned.{next_earlier, next_few}
use Rattle.rig_flush.proofs.reached.planned.Goals as goal

pub push-requires-clause-earlier : goal.push-requires-clause-earlier
push-requires-clause-earlier c =
    next_earlier c.args.links.now.ins c.args.order.now c.requires.plannable c.ins.ensures.few c.loop-node.node-index (omega arith) c.ins.result.now c.ins.ensures.row c.loop-node.plan c.loop-node.invariant c.deref.result.now
    (c.deref.ensures.value ∙ c.in_ok-push_places.ensures ∙ ap (λ l. l ++ places_in c.args.positions.now.members c.ins.result.now) c.clear.ensures.items ∙ ap (λ m. places_in m c.ins.result.now) c.requires.order)

pub push-requires-clause-few : goal.push-requires-clause-few
push-requires-clause-few c =
    next_few c.args.links.now.ins c.args.order.now c.requires.plannable c.ins.ensures.few c.loop-node.node-index (omega arith) c.ins.result.now c.ins.ensures.row c.loop-node.plan c.loop-node.invariant c.deref.result.now
    (c.deref.ensures.value ∙ c.in_ok-push_places.ensures ∙ ap (λ l. l ++ places_in c.args.positions.now.members c.ins.result.now) c.clear.ensures.items ∙ ap (λ m. places_in m c.ins.result.now) c.requires.order)

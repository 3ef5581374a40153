use Rattle.std.proofs.Common.{take, sym, ap, ◌∙◌, subst}
use Rattle.rig_flush.specs.Graph.{taken}
use Rattle.rig_graph.specs.State.{state_of}
use Rattle.rig_graph.specs.Taken.{CanTakeOne, taken_all}
use Rattle.rig_graph.specs.TakenInOrder.{can_take_next, taken_next}
use Rattle.rig_originals.specs.declared.entry.Entry.{Entry}
use Rattle.rig_graph.proofs.graph.Graph.take.Goals as goal

pub take_one-requires : goal.take_one-requires
take_one-requires c =
    let start = state_of c.args.self.now in
    subst (λ g. CanTakeOne g c.entry-item.result) (sym c.loop-entry.invariant)
    (subst (λ entry. CanTakeOne (taken_all start (take c.loop-entry.entry-index c.args.entries.now)) entry) (sym c.entry-item.is)
    (can_take_next start c.args.entries.now c.loop-entry.entry-index c.entry-item.result c.requires c.loop-entry-test.true))

pub loop-entry-preserved : goal.loop-entry-preserved
loop-entry-preserved c =
    let start = state_of c.args.self.now in
    c.in_ok-take_one.ensures.ok
    ∙ ap (λ g. taken g c.entry-item.result.edit c.entry-item.result.turn) c.loop-entry.invariant
    ∙ ap (λ (entry : Entry). taken (taken_all start (take c.loop-entry.entry-index c.args.entries.now)) entry.edit entry.turn) c.entry-item.is
    ∙ sym (taken_next start c.args.entries.now c.loop-entry.entry-index c.entry-item.result c.loop-entry-test.true)

use Rattle.std.proofs.Common.{sym, ◌∙◌}
use Rattle.std.proofs.lemmas.Bool.{both_ways, eq-eqb}
use Rattle.rig_cut.proofs.Found.{not_led, unread}
use Rattle.rig_cut.proofs.walk.is_led.Goals as goal
use Rattle.rig_cut.proofs.walk.is_led.Goals.{then-start-end, else-start-end}

pub returns-else-is_any_kept-clause-leads : goal.returns-else-is_any_kept-clause-leads
returns-else-is_any_kept-clause-leads c reads listing =
    let g = c.args.graph.now in
    elim c.if-start-end.branch [
      | then-start-end w ↦ absurd (both_ways _ c.if-is_any_kept.false (w.value-is ∙ eq-eqb c.args.start c.args.end w.if-start-end.true))
      | else-start-end w ↦
          let cut = sym w.is_any_kept.ensures ∙ sym w.value-is ∙ c.if-is_any_kept.false in
          sym (not_led g c.args.cuts.now c.args.start c.args.end w.if-start-end.false
          (unread g c.args.cuts.now c.args.end w.out_links.result.now w.out_links.ensures.links cut) reads listing)
    ]

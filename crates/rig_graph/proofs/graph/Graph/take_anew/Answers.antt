use Rattle.std.proofs.Common.{◌≡◌, None, ap, ◌∙◌}
use Rattle.rig_edits.specs.Conditions.{first_cause}
use Rattle.rig_flush.specs.Graph.{taken}
use Rattle.rig_graph.specs.declared.last_plan.LastPlan.{LastPlan}
use Rattle.rig_graph.specs.LastPlan.{no_plan}
use Rattle.rig_graph.specs.State.{GraphRecord, state_of}
use Rattle.rig_graph.specs.TakenAnew.{anew_parts_with, anew_state_with, anew_fresh_with}
use Rattle.rig_graph.proofs.graph.Graph.take_anew.Goals as goal

pub invariant_of-self-2 : goal.invariant_of-self-2
invariant_of-self-2 c =
    let inside = c.self.inside in
    let accepted : first_cause inside.copy.scene c.args.entry.now.edit ≡ None = ap (λ (r : GraphRecord). first_cause r.copy c.args.entry.now.edit) c.self.view_is ∙ c.requires.accepted in (
      anew_parts_with inside.mode inside.version inside.copy inside.tags inside.copies.kept inside.last.reached.count inside.published inside.fits c.self.invariant.0 c.args.entry.now.edit c.in_ok-copy.field-0.copy c.in_ok-copy.ensures.copy c.in_ok-copy.ensures.scene
          c.put_copy.new.place c.put_copy.ensures c.put_tags.new.place (c.put_tags.ensures ∙ c.in_ok-copy.ensures.tags) c.rebuild.new.copies.kept c.in_ok-copy.ensures.kept c.put_last.new.place.reached.count (ap (λ (last : LastPlan). last.reached.count) c.put_last.ensures ∙ c.in_ok-copy.ensures.count),
      anew_fresh_with inside.mode inside.version inside.copy inside.tags inside.copies.kept inside.last.reached.count inside.published inside.fits c.self.invariant.0 c.args.entry.now.edit c.in_ok-copy.field-0.copy c.in_ok-copy.ensures.copy c.in_ok-copy.ensures.scene
          c.put_copy.new.place c.put_copy.ensures c.put_tags.new.place (c.put_tags.ensures ∙ c.in_ok-copy.ensures.tags) c.rebuild.new.copies.kept c.in_ok-copy.ensures.kept c.put_last.new.place.reached.count (ap (λ (last : LastPlan). last.reached.count) c.put_last.ensures ∙ c.in_ok-copy.ensures.count) c.self.invariant.1 accepted c.args.entry.now.turn,
      no_plan c.put_copy.new.place.links c.put_last.new.place (ap (λ (last : LastPlan). last.is_made) c.put_last.ensures ∙ c.in_ok-copy.ensures.unmade),
    )

pub returns-clause-ok : goal.returns-clause-ok
returns-clause-ok c =
    let inside = c.self.inside in
    anew_state_with inside.mode inside.version inside.copy inside.tags inside.copies.kept inside.last.reached.count inside.published inside.fits c.self.invariant.0 c.args.entry.now.edit c.in_ok-copy.field-0.copy c.in_ok-copy.ensures.copy c.in_ok-copy.ensures.scene
    c.put_copy.new.place c.put_copy.ensures c.put_tags.new.place (c.put_tags.ensures ∙ c.in_ok-copy.ensures.tags) c.rebuild.new.copies.kept c.in_ok-copy.ensures.kept c.put_last.new.place.reached.count (ap (λ (last : LastPlan). last.reached.count) c.put_last.ensures ∙ c.in_ok-copy.ensures.count) c.args.entry.now.turn
    ∙ ap (λ r. taken (state_of r) c.args.entry.now.edit c.args.entry.now.turn) c.self.view_is

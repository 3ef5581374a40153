use Rattle.std.specs.Prelude.{option_map, option_copied, sum_by}
use Rattle.std.proofs.Common.{◌≡◌, ◌⊎◌, inl, inr, ℕ, ◌<◌, [], Some, length, get_or, w32, to_z, of_z, sym, ap, ◌∙◌, subst, ⊎_elim, arith}
use Rattle.std.proofs.lemmas.Int.{to_z-of_z}
use Rattle.rig_copies.specs.Copies.{put_each}
use Rattle.rig_cut.specs.Plan.{PlanNode}
use Rattle.rig_flush.specs.Evaluation.{IsEvaluation}
use Rattle.rig_flush.specs.Graph.{GraphState, frame_of}
use Rattle.rig_flush.specs.Tables.{numbers_of}
use Rattle.rig_graph.specs.declared.ready.Ready.{Ready}
use Rattle.rig_graph.specs.Finish.{planned_within, can_publish, report_is, few_ran, parts_after, state_after, course_after, fresh_now}
use Rattle.rig_graph.specs.LastPlan.{IsPlanOf}
use Rattle.rig_graph.specs.Left.{left_parts_with, left_fresh_with, is_left_with, on_err}
use Rattle.rig_graph.specs.Parts.{record_of}
use Rattle.rig_graph.specs.Ready.{tagged_for, CanRun, IsReady}
use Rattle.rig_graph.specs.Report.{IsReport, IsLeft}
use Rattle.rig_graph.specs.RunsFromFresh.{can_run}
use Rattle.rig_graph.specs.State.{GraphRecord, state_of}
use Rattle.rig_graph.specs.Tallied.{sum_after}
use Rattle.rig_graph.proofs.graph.Graph.evaluate.Goals as goal

pub run_tagged-requires-clause-can_run : goal.run_tagged-requires-clause-can_run
run_tagged-requires-clause-can_run g c =
    let inside = c.self.inside in
    let frame = to_z w32 (of_z w32 c.args.frame) in
    let published_is : option_copied c.as_ref.result ≡ inside.published = c.as_ref.ensures.value in
    subst (λ p. CanRun inside.copy inside.mode frame (tagged_for p frame inside.tags) inside.copies.kept) (sym published_is)
    (can_run inside.mode inside.version inside.copy inside.tags inside.copies.kept inside.last.reached.count inside.published inside.fits c.self.invariant.0 frame c.self.invariant.1)

pub invariant_of-self : goal.invariant_of-self
invariant_of-self g c =
    let inside = c.self.inside in
    let frame = to_z w32 (of_z w32 c.args.frame) in
    let published_is : option_copied c.as_ref.result ≡ inside.published = c.as_ref.ensures.value in
    let are : (c.run_tagged.new.tags ≡ inside.tags) ⊎ (c.run_tagged.new.tags ≡ tagged_for inside.published frame inside.tags) =
    ⊎_elim (λ same. inl same) (λ more. inr (more ∙ ap (λ p. tagged_for p frame inside.tags) published_is)) c.in_err-results.ensures.err in
    (left_parts_with inside.mode inside.version inside.copy inside.tags inside.copies.kept inside.last.reached.count inside.published inside.fits c.self.invariant.0 frame c.self.invariant.1 c.run_tagged.new.tags are c.run_tagged.new.copies.kept c.in_err-results.ensures.kept c.run_tagged.new.last.reached.count c.in_err-results.ensures.count, left_fresh_with inside.mode inside.version inside.copy inside.tags inside.copies.kept inside.last.reached.count inside.published inside.fits c.self.invariant.0 frame c.self.invariant.1 c.run_tagged.new.tags are c.run_tagged.new.copies.kept c.in_err-results.ensures.kept c.run_tagged.new.last.reached.count c.in_err-results.ensures.count, c.in_err-results.ensures.last)

pub returns-in_err-results-clause-err : goal.returns-in_err-results-clause-err
returns-in_err-results-clause-err g c =
    let inside = c.self.inside in
    let frame = to_z w32 (of_z w32 c.args.frame) in
    let published_is : option_copied c.as_ref.result ≡ inside.published = c.as_ref.ensures.value in
    let are : (c.run_tagged.new.tags ≡ inside.tags) ⊎ (c.run_tagged.new.tags ≡ tagged_for inside.published frame inside.tags) =
    ⊎_elim (λ same. inl same) (λ more. inr (more ∙ ap (λ p. tagged_for p frame inside.tags) published_is)) c.in_err-results.ensures.err in
    let new = record_of inside.mode inside.version inside.copy c.run_tagged.new.tags c.run_tagged.new.copies.kept inside.published in
    on_err (IsLeft c.args.self.now new c.args.frame) c.from_residual.result
    (subst (λ r. IsLeft r new c.args.frame) c.self.view_is
    (subst (λ f. IsLeft (record_of inside.mode inside.version inside.copy inside.tags inside.copies.kept inside.published) new f) (to_z-of_z w32 c.args.frame c.ranges.frame)
    (is_left_with inside.mode inside.version inside.copy inside.tags inside.copies.kept inside.last.reached.count inside.published inside.fits c.self.invariant.0 frame c.self.invariant.1 c.run_tagged.new.tags are c.run_tagged.new.copies.kept c.in_err-results.ensures.kept c.run_tagged.new.last.reached.count c.in_err-results.ensures.count)))

pub put_all-requires-clause-within : goal.put_all-requires-clause-within
put_all-requires-clause-within g c =
    let inside = c.self.inside in
    let frame = to_z w32 (of_z w32 c.args.frame) in
    let published_is : option_copied c.as_ref.result ≡ inside.published = c.as_ref.ensures.value in
    let ready : IsReady inside.copy inside.mode frame (tagged_for inside.published frame inside.tags) inside.copies.kept inside.fits c.in_ok-results.field-0 =
    subst (λ p. IsReady inside.copy inside.mode frame (tagged_for p frame inside.tags) inside.copies.kept inside.fits c.in_ok-results.field-0) published_is c.in_ok-results.ensures.ready in
    let planned : IsPlanOf inside.copy.links (numbers_of inside.copy.nodes (tagged_for inside.published frame inside.tags)) c.run_tagged.new.last =
    subst (λ p. IsPlanOf inside.copy.links (numbers_of inside.copy.nodes (tagged_for p frame inside.tags)) c.run_tagged.new.last) published_is c.in_ok-results.ensures.plan in
    subst (λ kept. (k : ℕ) → (d : PlanNode) → k < length c.run_tagged.new.last.plan → (get_or c.run_tagged.new.last.plan k d).op < length kept) (sym c.in_ok-results.ensures.kept)
    (subst (λ plan. (k : ℕ) → (d : PlanNode) → k < length plan → (get_or plan k d).op < length inside.copies.kept) (sym planned.plan)
    (planned_within inside.mode inside.version inside.copy inside.tags inside.copies.kept inside.last.reached.count inside.published inside.fits c.self.invariant.0 frame))

pub publish-requires : goal.publish-requires
publish-requires g c =
    let inside = c.self.inside in
    let frame = to_z w32 (of_z w32 c.args.frame) in
    let published_is : option_copied c.as_ref.result ≡ inside.published = c.as_ref.ensures.value in
    let ready : IsReady inside.copy inside.mode frame (tagged_for inside.published frame inside.tags) inside.copies.kept inside.fits c.in_ok-results.field-0 =
    subst (λ p. IsReady inside.copy inside.mode frame (tagged_for p frame inside.tags) inside.copies.kept inside.fits c.in_ok-results.field-0) published_is c.in_ok-results.ensures.ready in
    let planned : IsPlanOf inside.copy.links (numbers_of inside.copy.nodes (tagged_for inside.published frame inside.tags)) c.run_tagged.new.last =
    subst (λ p. IsPlanOf inside.copy.links (numbers_of inside.copy.nodes (tagged_for p frame inside.tags)) c.run_tagged.new.last) published_is c.in_ok-results.ensures.plan in
    can_publish inside.mode inside.version inside.copy inside.tags inside.copies.kept inside.last.reached.count inside.published inside.fits c.self.invariant.0 frame c.self.invariant.1 c.in_ok-results.field-0 ready

pub invariant_of-self-2 : goal.invariant_of-self-2
invariant_of-self-2 g c =
    let inside = c.self.inside in
    let frame = to_z w32 (of_z w32 c.args.frame) in
    let published_is : option_copied c.as_ref.result ≡ inside.published = c.as_ref.ensures.value in
    let ready : IsReady inside.copy inside.mode frame (tagged_for inside.published frame inside.tags) inside.copies.kept inside.fits c.in_ok-results.field-0 =
    subst (λ p. IsReady inside.copy inside.mode frame (tagged_for p frame inside.tags) inside.copies.kept inside.fits c.in_ok-results.field-0) published_is c.in_ok-results.ensures.ready in
    let planned : IsPlanOf inside.copy.links (numbers_of inside.copy.nodes (tagged_for inside.published frame inside.tags)) c.run_tagged.new.last =
    subst (λ p. IsPlanOf inside.copy.links (numbers_of inside.copy.nodes (tagged_for p frame inside.tags)) c.run_tagged.new.last) published_is c.in_ok-results.ensures.plan in
    let kept_is : c.put_all.new.self.kept ≡ put_each inside.copies.kept c.run_tagged.new.last.plan c.in_ok-results.field-0.results.items =
    c.put_all.ensures.kept ∙ ap (λ outs. put_each c.run_tagged.new.copies.kept c.run_tagged.new.last.plan outs) c.from.ensures ∙ ap (λ kept. put_each kept c.run_tagged.new.last.plan c.in_ok-results.field-0.results.items) c.in_ok-results.ensures.kept in (
      parts_after inside.mode inside.version inside.copy inside.tags inside.copies.kept inside.last.reached.count inside.published inside.fits c.self.invariant.0 frame c.self.invariant.1 c.in_ok-results.field-0 ready c.clear_tags.new.tags c.put_all.new.self.kept c.run_tagged.new.last.reached.count c.publish.new.published c.clear_tags.ensures c.run_tagged.new.last.plan planned.plan kept_is c.in_ok-results.ensures.count c.publish.ensures,
      fresh_now inside.mode inside.version inside.copy inside.tags inside.copies.kept inside.last.reached.count inside.published inside.fits c.self.invariant.0 frame c.self.invariant.1 c.in_ok-results.field-0 ready c.clear_tags.new.tags c.put_all.new.self.kept c.run_tagged.new.last.reached.count c.publish.new.published c.clear_tags.ensures c.run_tagged.new.last.plan planned.plan kept_is c.in_ok-results.ensures.count c.publish.ensures,
      c.in_ok-results.ensures.last,
    )

pub returns-clause-course : goal.returns-clause-course
returns-clause-course g c =
    let inside = c.self.inside in
    let frame = to_z w32 (of_z w32 c.args.frame) in
    let published_is : option_copied c.as_ref.result ≡ inside.published = c.as_ref.ensures.value in
    let ready : IsReady inside.copy inside.mode frame (tagged_for inside.published frame inside.tags) inside.copies.kept inside.fits c.in_ok-results.field-0 =
    subst (λ p. IsReady inside.copy inside.mode frame (tagged_for p frame inside.tags) inside.copies.kept inside.fits c.in_ok-results.field-0) published_is c.in_ok-results.ensures.ready in
    let planned : IsPlanOf inside.copy.links (numbers_of inside.copy.nodes (tagged_for inside.published frame inside.tags)) c.run_tagged.new.last =
    subst (λ p. IsPlanOf inside.copy.links (numbers_of inside.copy.nodes (tagged_for p frame inside.tags)) c.run_tagged.new.last) published_is c.in_ok-results.ensures.plan in
    let kept_is : c.put_all.new.self.kept ≡ put_each inside.copies.kept c.run_tagged.new.last.plan c.in_ok-results.field-0.results.items =
    c.put_all.ensures.kept ∙ ap (λ outs. put_each c.run_tagged.new.copies.kept c.run_tagged.new.last.plan outs) c.from.ensures ∙ ap (λ kept. put_each kept c.run_tagged.new.last.plan c.in_ok-results.field-0.results.items) c.in_ok-results.ensures.kept in
    subst (λ r. IsEvaluation (state_of r) c.args.frame c.in_ok-results.field-0.report.trace (state_of (record_of inside.mode inside.version inside.copy c.clear_tags.new.tags c.put_all.new.self.kept c.publish.new.published))) c.self.view_is
    (subst (λ f. IsEvaluation (state_of (record_of inside.mode inside.version inside.copy inside.tags inside.copies.kept inside.published)) f c.in_ok-results.field-0.report.trace (state_of (record_of inside.mode inside.version inside.copy c.clear_tags.new.tags c.put_all.new.self.kept c.publish.new.published))) (to_z-of_z w32 c.args.frame c.ranges.frame)
    (course_after inside.mode inside.version inside.copy inside.tags inside.copies.kept inside.last.reached.count inside.published inside.fits c.self.invariant.0 frame c.self.invariant.1 c.in_ok-results.field-0 ready c.clear_tags.new.tags c.put_all.new.self.kept c.run_tagged.new.last.reached.count c.publish.new.published c.clear_tags.ensures c.run_tagged.new.last.plan planned.plan kept_is c.in_ok-results.ensures.count c.publish.ensures))

pub returns-clause-published : goal.returns-clause-published
returns-clause-published g c =
    let inside = c.self.inside in
    let frame = to_z w32 (of_z w32 c.args.frame) in
    let published_is : option_copied c.as_ref.result ≡ inside.published = c.as_ref.ensures.value in
    let ready : IsReady inside.copy inside.mode frame (tagged_for inside.published frame inside.tags) inside.copies.kept inside.fits c.in_ok-results.field-0 =
    subst (λ p. IsReady inside.copy inside.mode frame (tagged_for p frame inside.tags) inside.copies.kept inside.fits c.in_ok-results.field-0) published_is c.in_ok-results.ensures.ready in
    let planned : IsPlanOf inside.copy.links (numbers_of inside.copy.nodes (tagged_for inside.published frame inside.tags)) c.run_tagged.new.last =
    subst (λ p. IsPlanOf inside.copy.links (numbers_of inside.copy.nodes (tagged_for p frame inside.tags)) c.run_tagged.new.last) published_is c.in_ok-results.ensures.plan in
    let kept_is : c.put_all.new.self.kept ≡ put_each inside.copies.kept c.run_tagged.new.last.plan c.in_ok-results.field-0.results.items =
    c.put_all.ensures.kept ∙ ap (λ outs. put_each c.run_tagged.new.copies.kept c.run_tagged.new.last.plan outs) c.from.ensures ∙ ap (λ kept. put_each kept c.run_tagged.new.last.plan c.in_ok-results.field-0.results.items) c.in_ok-results.ensures.kept in
    ap (λ (s : GraphState). s.published) (state_after inside.mode inside.version inside.copy inside.tags inside.copies.kept inside.last.reached.count inside.published inside.fits c.self.invariant.0 frame c.self.invariant.1 c.in_ok-results.field-0 ready c.clear_tags.new.tags c.put_all.new.self.kept c.run_tagged.new.last.reached.count c.publish.new.published c.clear_tags.ensures c.run_tagged.new.last.plan planned.plan kept_is c.in_ok-results.ensures.count c.publish.ensures)
    ∙ ap (λ f. Some (frame_of inside.copy.scene inside.mode f)) (to_z-of_z w32 c.args.frame c.ranges.frame)
    ∙ ap (λ (r : GraphRecord). Some (frame_of r.copy r.mode c.args.frame)) c.self.view_is

pub returns-clause-tags : goal.returns-clause-tags
returns-clause-tags g c =
    let inside = c.self.inside in
    let frame = to_z w32 (of_z w32 c.args.frame) in
    let published_is : option_copied c.as_ref.result ≡ inside.published = c.as_ref.ensures.value in
    let ready : IsReady inside.copy inside.mode frame (tagged_for inside.published frame inside.tags) inside.copies.kept inside.fits c.in_ok-results.field-0 =
    subst (λ p. IsReady inside.copy inside.mode frame (tagged_for p frame inside.tags) inside.copies.kept inside.fits c.in_ok-results.field-0) published_is c.in_ok-results.ensures.ready in
    let planned : IsPlanOf inside.copy.links (numbers_of inside.copy.nodes (tagged_for inside.published frame inside.tags)) c.run_tagged.new.last =
    subst (λ p. IsPlanOf inside.copy.links (numbers_of inside.copy.nodes (tagged_for p frame inside.tags)) c.run_tagged.new.last) published_is c.in_ok-results.ensures.plan in
    let kept_is : c.put_all.new.self.kept ≡ put_each inside.copies.kept c.run_tagged.new.last.plan c.in_ok-results.field-0.results.items =
    c.put_all.ensures.kept ∙ ap (λ outs. put_each c.run_tagged.new.copies.kept c.run_tagged.new.last.plan outs) c.from.ensures ∙ ap (λ kept. put_each kept c.run_tagged.new.last.plan c.in_ok-results.field-0.results.items) c.in_ok-results.ensures.kept in
    ap (λ (s : GraphState). s.tags) (state_after inside.mode inside.version inside.copy inside.tags inside.copies.kept inside.last.reached.count inside.published inside.fits c.self.invariant.0 frame c.self.invariant.1 c.in_ok-results.field-0 ready c.clear_tags.new.tags c.put_all.new.self.kept c.run_tagged.new.last.reached.count c.publish.new.published c.clear_tags.ensures c.run_tagged.new.last.plan planned.plan kept_is c.in_ok-results.ensures.count c.publish.ensures)

pub returns-clause-report : goal.returns-clause-report
returns-clause-report g c =
    let inside = c.self.inside in
    let frame = to_z w32 (of_z w32 c.args.frame) in
    let published_is : option_copied c.as_ref.result ≡ inside.published = c.as_ref.ensures.value in
    let ready : IsReady inside.copy inside.mode frame (tagged_for inside.published frame inside.tags) inside.copies.kept inside.fits c.in_ok-results.field-0 =
    subst (λ p. IsReady inside.copy inside.mode frame (tagged_for p frame inside.tags) inside.copies.kept inside.fits c.in_ok-results.field-0) published_is c.in_ok-results.ensures.ready in
    let planned : IsPlanOf inside.copy.links (numbers_of inside.copy.nodes (tagged_for inside.published frame inside.tags)) c.run_tagged.new.last =
    subst (λ p. IsPlanOf inside.copy.links (numbers_of inside.copy.nodes (tagged_for p frame inside.tags)) c.run_tagged.new.last) published_is c.in_ok-results.ensures.plan in
    subst (λ r. IsReport (state_of r) c.args.frame c.in_ok-results.field-0.report) c.self.view_is
    (subst (λ f. IsReport (state_of (record_of inside.mode inside.version inside.copy inside.tags inside.copies.kept inside.published)) f c.in_ok-results.field-0.report) (to_z-of_z w32 c.args.frame c.ranges.frame)
    (report_is inside.mode inside.version inside.copy inside.tags inside.copies.kept inside.last.reached.count inside.published inside.fits c.self.invariant.0 frame c.self.invariant.1 c.in_ok-results.field-0 ready))

pub returns-clause-tallies : goal.returns-clause-tallies
returns-clause-tallies g c =
    let inside = c.self.inside in
    let frame = to_z w32 (of_z w32 c.args.frame) in
    let published_is : option_copied c.as_ref.result ≡ inside.published = c.as_ref.ensures.value in
    let ready : IsReady inside.copy inside.mode frame (tagged_for inside.published frame inside.tags) inside.copies.kept inside.fits c.in_ok-results.field-0 =
    subst (λ p. IsReady inside.copy inside.mode frame (tagged_for p frame inside.tags) inside.copies.kept inside.fits c.in_ok-results.field-0) published_is c.in_ok-results.ensures.ready in
    let planned : IsPlanOf inside.copy.links (numbers_of inside.copy.nodes (tagged_for inside.published frame inside.tags)) c.run_tagged.new.last =
    subst (λ p. IsPlanOf inside.copy.links (numbers_of inside.copy.nodes (tagged_for p frame inside.tags)) c.run_tagged.new.last) published_is c.in_ok-results.ensures.plan in
    sum_after g.Y.Tally.count c.args.tallies.now c.in_ok-results.field-0.report.ran c.run_tagged.new.tally c.index-tallies-0.result (omega (arith, c.requires.workers.0))
    (c.requires.counts 0 c.index-tallies-0.result (omega (arith, c.requires.workers.0)))
    (few_ran inside.mode inside.version inside.copy inside.tags inside.copies.kept inside.last.reached.count inside.published inside.fits c.self.invariant.0 frame c.self.invariant.1 c.in_ok-results.field-0 ready) c.in_ok-results.ensures.tally

-- A graph after an evaluation whose parts are told by what was ready.
use Rattle.std.specs.Prelude.{◌^◌, slice_get, ℤ}
use Rattle.std.specs.List.{All}
use Rattle.std.specs.Option.{option_map_or}
use Rattle.std.proofs.Common.{◌≡◌, ℕ, ◌<◌, ◌≤◌, Bool, true, List, [], length, Option, sym, ap, ◌∙◌, subst, arith}
use Rattle.std.proofs.lemmas.List.Elements.{All-map}
use Rattle.std.proofs.lemmas.List.Sums.{length-filter, count_by-le-length}
use Rattle.rig_copies.specs.Copies.{put_each}
use Rattle.rig_cut.specs.Plan.{PlanNode}
use Rattle.rig_flush.specs.Evaluation.{IsEvaluation, evaluated}
use Rattle.rig_flush.specs.Graph.{GraphState, Fresh, tagged_at}
use Rattle.rig_flush.specs.Reach.{is_reached, reach}
use Rattle.rig_flush.specs.ReachedInOrder.{numbers_within, as_many_reached}
use Rattle.rig_flush.specs.Tables.{places_in, plan_of, reached_numbers}
use Rattle.rig_graph.specs.declared.ready.Ready.{Ready}
use Rattle.rig_graph.specs.declared.scene_copy.SceneCopy.{SceneCopy}
use Rattle.rig_graph.specs.Evaluated as after_it
use Rattle.rig_graph.specs.Finished as told
use Rattle.rig_graph.specs.NextFrame.{frame_after, CanFollow}
use Rattle.rig_graph.specs.Parts.{AreParts, record_of}
use Rattle.rig_graph.specs.Ready.{tagged_for, IsReady}
use Rattle.rig_graph.specs.Report.{IsReport}
use Rattle.rig_graph.specs.RunsFromFresh.{distinct}
use Rattle.rig_graph.specs.ShownOnce.{shown_once}
use Rattle.rig_graph.specs.State.{state_of}
use Rattle.rig_kernel.specs.declared.done.Done.{Done}
use Rattle.rig_laws.specs.Kept.{kept_links}
use Rattle.rig_laws.specs.Output.{Output}
use Rattle.rig_links.specs.Numbers.{same_operation}
use Rattle.rig_scene.specs.declared.modifier.Mode.{Mode}
use Rattle.rig_scene.specs.declared.operation.OpId.{OpId}
use Rattle.rig_scene.specs.Operations.{operations}
use Rattle.rig_scene.specs.Scene.{SceneRecord}

as_few_reached : (s : SceneRecord) (tags : List OpId) → length (reach s tags) ≤ length (operations s)
unfolding reach
as_few_reached s tags =
    omega (arith, length-filter (is_reached same_operation (kept_links s) tags) (operations s), count_by-le-length (is_reached same_operation (kept_links s) tags) (operations s))

module _ (mode : Mode) (version : ℕ) (c : SceneCopy) (tags : List OpId) (kept : List (Option Output)) (count : ℕ)
    (published : Option Done) (fits : Bool) (parts : AreParts mode c tags kept count published fits) (frame : ℤ) where
  abbrev g : GraphState
  g = state_of (record_of mode version c tags kept published)

  abbrev numbers : List ℕ
  numbers = reached_numbers c.nodes c.links (tagged_for published frame tags)

  -- what runs has a place among what is kept
  pub planned_within : All (λ (node : PlanNode). node.op < length kept) (plan_of c.links.ins numbers)
  planned_within =
      All-map (λ (node : PlanNode). node.op < length kept) (λ n. record { op = n; ins = option_map_or (places_in numbers) (slice_get c.links.ins n) [] }) numbers
      (subst (λ k. All (λ n. n < k) numbers) (sym parts.one_each)
      (numbers_within c.scene c.nodes c.links parts.copy.tables (distinct mode version c tags kept count published fits parts frame) (tagged_for published frame tags)))

  module _ (fresh : Fresh g) (ready : Ready) (is : IsReady c mode frame (tagged_for published frame tags) kept fits ready) where
    pub can_publish : CanFollow published ready.next
    can_publish =
        after_it.can_follow mode version c tags kept count published fits parts frame fresh ready.results.items is.run.results_are ready.next is.run.next_is
        (shown_once c.scene parts.copy.met)

    pub report_is : IsReport g frame ready.report
    report_is = told.is_report mode version c tags kept count published fits parts frame ready.report is.told

    pub few_ran : ready.report.ran < 2 ^ 32
    few_ran =
        omega (
          arith,
          is.told.ran,
          as_many_reached c.scene c.nodes c.links parts.copy.tables (distinct mode version c tags kept count published fits parts frame) (tagged_for published frame tags),
          as_few_reached c.scene (tagged_for published frame tags),
          ap length parts.copy.tables.same,
          parts.copy.tables.fit.few,
        )

    module _ (tags_after : List OpId) (kept_after : List (Option Output)) (count_after : ℕ) (published_after : Option Done)
        (untagged : tags_after ≡ []) (plan : List PlanNode) (plan_is : plan ≡ plan_of c.links.ins numbers)
        (kept_is : kept_after ≡ put_each kept plan ready.results.items) (count_is : count_after ≡ count)
        (published_is : published_after ≡ frame_after published ready.next frame) where
      kept_by_plan : kept_after ≡ put_each kept (plan_of c.links.ins numbers) ready.results.items
      kept_by_plan = kept_is ∙ ap (λ plan. put_each kept plan ready.results.items) plan_is

      pub parts_after : AreParts mode c tags_after kept_after count_after published_after true
      parts_after =
          subst (λ t. AreParts mode c t kept_after count_after published_after true) (sym untagged)
          (subst (λ k. AreParts mode c [] k count_after published_after true) (sym kept_by_plan)
          (subst (λ n. AreParts mode c [] (put_each kept (plan_of c.links.ins numbers) ready.results.items) n published_after true) (sym count_is)
          (subst (λ p. AreParts mode c [] (put_each kept (plan_of c.links.ins numbers) ready.results.items) count p true) (sym published_is)
          (after_it.parts_now mode version c tags kept count published fits parts frame fresh ready.results.items is.run.results_are ready.next is.run.next_is
          (shown_once c.scene parts.copy.met)))))

      pub state_after : state_of (record_of mode version c tags_after kept_after published_after) ≡ evaluated g frame
      state_after =
          (λ i. state_of (record_of mode version c (untagged i) (kept_by_plan i) (published_is i)))
          ∙ after_it.state_now mode version c tags kept count published fits parts frame fresh ready.results.items is.run.results_are ready.next is.run.next_is
          (shown_once c.scene parts.copy.met)

      pub course_after : IsEvaluation g frame ready.report.trace (state_of (record_of mode version c tags_after kept_after published_after))
      course_after =
          told.is_evaluation mode version c tags kept count published fits parts frame ready.report is.told fresh
          (state_of (record_of mode version c tags_after kept_after published_after)) state_after

      pub fresh_now : Fresh (state_of (record_of mode version c tags_after kept_after published_after))
      fresh_now =
          told.fresh_after mode version c tags kept count published fits parts frame ready.report is.told fresh
          (state_of (record_of mode version c tags_after kept_after published_after)) state_after

-- What is told of an evaluation, and its course.
use Rattle.std.specs.Prelude.{map, ℤ}
use Rattle.std.specs.List.{flat_map}
use Rattle.std.proofs.Common.{◌≡◌, ℕ, ◌+◌, Bool, List, [], ◌∷◌, ◌++◌, length, Option, Some, None, refl, sym, ap, ◌∙◌, subst}
use Rattle.std.proofs.lemmas.List.{length-append, length-map}
use Rattle.rig_flush.specs.Begun.{unrun_is_kept}
use Rattle.rig_flush.specs.Evaluation.{IsEvaluation, Needs, marks_of, evaluated}
use Rattle.rig_flush.specs.Graph.{GraphState, Fresh, tagged_at, flushed_at}
use Rattle.rig_flush.specs.InOrder.{in_order_is_evaluation}
use Rattle.rig_flush.specs.MarksInOrder.{marks_in_order}
use Rattle.rig_flush.specs.PublishedRight.{evaluation_is_fresh}
use Rattle.rig_flush.specs.ReachedInOrder.{numbers_once, needs_earlier, as_many_reached}
use Rattle.rig_flush.specs.Tables.{reached_numbers}
use Rattle.rig_graph.specs.declared.report.Report.{Report}
use Rattle.rig_graph.specs.declared.scene_copy.SceneCopy.{SceneCopy}
use Rattle.rig_graph.specs.Parts.{AreParts, record_of}
use Rattle.rig_graph.specs.Ready.{tagged_for, IsTold}
use Rattle.rig_graph.specs.Report.{IsReport}
use Rattle.rig_graph.specs.RunsFromFresh.{distinct, numbers_are}
use Rattle.rig_graph.specs.State.{state_of}
use Rattle.rig_kernel.specs.declared.done.Done.{Done}
use Rattle.rig_laws.specs.Output.{Output}
use Rattle.rig_links.specs.declared.table.In.{In}
use Rattle.rig_links.specs.Links.{link_named}
use Rattle.rig_pending.specs.declared.mark.Mark.{Mark}
use Rattle.rig_pending.specs.Ordered.{IsOrdered}
use Rattle.rig_rows.specs.Rows.{joined}
use Rattle.rig_scene.specs.declared.modifier.Mode.{Mode}
use Rattle.rig_scene.specs.declared.operation.OpId.{OpId}
use Rattle.rig_scene.specs.Operations.{InLink, operations, ins}

-- rows that have each as much as another row are as long in all
joined_as_long : (named : In → Option InLink) (given : OpId → List InLink) (rows : List (List In)) (ops : List OpId)
    → map (map named) rows ≡ map (λ op. map Some (given op)) ops → length (joined rows) ≡ length (flat_map given ops)
joined_as_long named given [] [] are = refl
joined_as_long named given [] (op ∷ ops) are = absurd (cc)
joined_as_long named given (row ∷ rows) [] are = absurd (cc)
joined_as_long named given (row ∷ rows) (op ∷ ops) are =
    length-append row (joined rows)
    ∙ ap (λ n. n + length (joined rows)) (sym (length-map row named) ∙ ap length first ∙ length-map (given op) Some)
    ∙ ap (λ n. length (given op) + n) (joined_as_long named given rows ops later)
    ∙ sym (length-append (given op) (flat_map given ops))
  where
    first : map named row ≡ map Some (given op)
    first = cc

    later : map (map named) rows ≡ map (λ op. map Some (given op)) ops
    later = cc

module _ (mode : Mode) (version : ℕ) (c : SceneCopy) (tags : List OpId) (kept : List (Option Output)) (count : ℕ)
    (published : Option Done) (fits : Bool) (parts : AreParts mode c tags kept count published fits) (frame : ℤ) where
  abbrev g : GraphState
  g = state_of (record_of mode version c tags kept published)

  abbrev numbers : List ℕ
  numbers = reached_numbers c.nodes c.links (tagged_at g frame)

  same_numbers : reached_numbers c.nodes c.links (tagged_for published frame tags) ≡ numbers
  same_numbers = numbers_are mode version c tags kept count published fits parts frame

  module _ (report : Report) (told : IsTold c (reached_numbers c.nodes c.links (tagged_for published frame tags)) report) where
    trace_is : report.trace ≡ marks_of numbers
    trace_is = told.trace ∙ ap marks_of same_numbers

    as_many_ran : length numbers ≡ report.ran
    as_many_ran = sym (told.ran ∙ ap length same_numbers)

    pub is_report : IsReport g frame report
    is_report = record {
      ran =
          sym as_many_ran
          ∙ as_many_reached c.scene c.nodes c.links parts.copy.tables (distinct mode version c tags kept count published fits parts frame) (tagged_at g frame);
      operation_count = told.operation_count ∙ ap length parts.copy.tables.same;
      link_count = told.link_count ∙ joined_as_long (link_named (operations c.scene)) (ins c.scene) c.links.ins (operations c.scene) parts.copy.tables.ins;
      numbers = numbers;
      as_many = as_many_ran;
      ordered = subst (λ marks. IsOrdered (Needs c.scene) numbers marks) (sym trace_is)
          (marks_in_order (Needs c.scene) numbers
          (numbers_once c.scene c.nodes c.links parts.copy.tables (distinct mode version c tags kept count published fits parts frame) (tagged_at g frame))
          (needs_earlier c.scene c.nodes c.links parts.copy.tables (distinct mode version c tags kept count published fits parts frame) (tagged_at g frame)));
    }

    module _ (fresh : Fresh g) (after : GraphState) (is : after ≡ evaluated g frame) where
      pub is_evaluation : IsEvaluation g frame report.trace after
      is_evaluation =
          subst (λ state. IsEvaluation g frame report.trace state) (sym is)
          (subst (λ marks. IsEvaluation g frame marks (evaluated g frame)) (sym trace_is)
          (in_order_is_evaluation g parts.copy.met frame c.nodes c.links parts.copy.tables (unrun_is_kept g parts.copy.met fresh frame) refl))

      pub fresh_after : Fresh after
      fresh_after = evaluation_is_fresh g after parts.copy.met fresh frame report.trace is_evaluation

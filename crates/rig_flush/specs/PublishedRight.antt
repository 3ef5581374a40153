-- A frame that is published is the scene from scratch.
use Rattle.std.specs.Prelude.{List, [], false, Some, None, unwrap_or, IsTrue, Contains, All, ℤ}
use Rattle.std.specs.Option.{option_map_or}
use Rattle.std.proofs.Common.{◌≡◌, sym, ap, ◌∙◌, subst}
use Rattle.std.proofs.lemmas.List.Elements.{All-contains, All-weaker}
use Rattle.std.proofs.lemmas.Option.{same_Some, none-some}
use Rattle.rig_laws.specs.Lists.{map_same}
use Rattle.rig_laws.specs.OperationValue.{operation_value}
use Rattle.rig_laws.specs.Output.{Output, rest_value}
use Rattle.rig_pending.specs.declared.mark.Mark.{Mark}
use Rattle.rig_scene.specs.declared.operation.OpId.{OpId}
use Rattle.rig_scene.specs.Cut.{cuts}
use Rattle.rig_scene.specs.Operations.{operations}
use Rattle.rig_scene.specs.Value.{Value}
use Rattle.rig_scene.specs.WellFormed.{is_scene}
use Rattle.rig_flush.specs.Begun.{begun_is_right}
use Rattle.rig_flush.specs.Evaluation.{IsEvaluation}
use Rattle.rig_flush.specs.Graph.{GraphState, Published, Running, Fresh, IsRight, begun, CanPublish, published_now, value_kept, shown_of, frame_of}
use Rattle.rig_flush.specs.RunRight.{Leaves, frame_of_run, one_run, run_leaves, run_is_right}
use Rattle.rig_flush.specs.Shown.{shown_operations, output_of, shown}
use Rattle.rig_flush.specs.ShownThere.{all_shown}

-- a state after the frame of its run is published
abbrev pub published_from : GraphState → Running → GraphState
published_from g run = record g {
  tags = [];
  published = Some (record { frame = run.frame; outputs = shown_of g; cut = cuts g.copy });
  running = None;
}

pub published_is : (g : GraphState) (run : Running) → g.running ≡ Some run → published_now g ≡ published_from g run
published_is g run runs = ap (λ o. option_map_or (published_from g) o g) runs

-- an operation with what it gave
abbrev shown_with : OpId → Value → Output
shown_with op value = record { op = op; value = value; is_rest = false }

module _ (g : GraphState) (right : IsRight g) (can : CanPublish g) where
  all_finished : All (Contains right.run.finished) right.run.flushed
  all_finished = subst (λ run. All (Contains run.finished) run.flushed) (one_run g can.run right.run can.runs right.runs) can.all

  -- each operation has its value from scratch
  pub all_kept : (op : OpId) → Contains (operations g.copy) op → g.kept op ≡ Some (operation_value g.copy g.mode right.run.frame op)
  all_kept op within =
      right.kept op within (λ flushed. All-contains (Contains right.run.finished) right.run.flushed op all_finished flushed)

  shown_are : shown_of g ≡ shown g.copy g.mode right.run.frame
  unfolding shown
  shown_are =
      map_same (λ op. shown_with op (value_kept g op)) (output_of g.copy g.mode right.run.frame) (shown_operations g.copy)
      (All-weaker (Contains (operations g.copy)) (λ op. shown_with op (value_kept g op) ≡ output_of g.copy g.mode right.run.frame op)
      (λ op within. ap (λ o. shown_with op (unwrap_or o (rest_value op))) (all_kept op within))
      (shown_operations g.copy) (all_shown g.copy))

  pub published_frame : (published_now g).published ≡ Some (frame_of g.copy g.mode right.run.frame)
  published_frame =
      ap (λ (g : GraphState). g.published) (published_is g right.run right.runs)
      ∙ ap (λ outputs. let p : Published = record { frame = right.run.frame; outputs = outputs; cut = cuts g.copy } in Some p) shown_are

  pub published_is_fresh : Fresh (published_now g)
  published_is_fresh = subst (λ g. Fresh g) (sym (published_is g right.run right.runs)) (record {
    all_tagged = λ is. absurd (none-some _ (sym is));
    is_kept = λ p is op within free.
        all_kept op within
        ∙ ap (λ (p : Published). Some (operation_value g.copy g.mode p.frame op)) (same_Some _ p is);
  })

-- ---- a whole evaluation

module _ (g after : GraphState) (met : IsTrue (is_scene g.copy)) (fresh : Fresh g) (frame : ℤ) (trace : List Mark)
    (evaluation : IsEvaluation g frame trace after) where
  leaves : Leaves (begun g frame) evaluation.ran
  leaves = run_leaves trace (begun g frame) evaluation.ran evaluation.run

  right_then : IsRight evaluation.ran
  right_then = run_is_right trace (begun g frame) evaluation.ran met (begun_is_right g met fresh frame) evaluation.run

  frame_is : right_then.run.frame ≡ frame
  frame_is = same_Some right_then.run.frame frame (sym (ap frame_of_run right_then.runs) ∙ leaves.frame)

  pub evaluation_publishes : after.published ≡ Some (frame_of g.copy g.mode frame)
  evaluation_publishes =
      ap (λ (g : GraphState). g.published) evaluation.published
      ∙ published_frame evaluation.ran right_then evaluation.complete
      ∙ (λ i. Some (frame_of (leaves.copy i) (leaves.mode i) (frame_is i)))

  pub evaluation_is_fresh : Fresh after
  evaluation_is_fresh = subst (λ g. Fresh g) (sym evaluation.published) (published_is_fresh evaluation.ran right_then evaluation.complete)

-- an evaluation changes neither the copy nor the version
pub evaluation_leaves : (g after : GraphState) (frame : ℤ) (trace : List Mark) → IsEvaluation g frame trace after
    → (after.copy ≡ g.copy) × (after.version ≡ g.version) × (after.mode ≡ g.mode)
evaluation_leaves g after frame trace evaluation =
    let ran = evaluation.ran in
    let left = run_leaves trace (begun g frame) ran evaluation.run in
    let run = evaluation.complete.run in
    let is : after ≡ published_from ran run = evaluation.published ∙ published_is ran run evaluation.complete.runs in (
      ap (λ (g : GraphState). g.copy) is ∙ left.copy,
      ap (λ (g : GraphState). g.version) is ∙ left.version,
      ap (λ (g : GraphState). g.mode) is ∙ left.mode,
    )

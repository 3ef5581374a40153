-- A whole evaluation of one graph: it begins, its operations start and finish as the marks of a trace say, and the frame is published.
use Rattle.std.specs.Prelude.{◌≡◌, ℕ, List, [], ◌∷◌, slice_get, false, if◌then◌else◌, Option, Some, None, Contains, ℤ}
use Rattle.std.specs.List.{flat_map}
use Rattle.rig_laws.specs.OperationValue.{operation_value}
use Rattle.rig_pending.specs.declared.mark.Mark.{Mark}
use Rattle.rig_pending.specs.declared.mark.Mark.TheVariants.{Start, Finish}
use Rattle.rig_scene.specs.declared.operation.OpId.{OpId}
use Rattle.rig_scene.specs.Operations.{InLink, operations, ins}
use Rattle.rig_scene.specs.Scene.{SceneRecord}
use Rattle.rig_scene.specs.Value.{Value}
use Rattle.rig_flush.specs.Graph.{GraphState, begun, CanStart, started, CanFinish, finished, CanPublish, published_now, flushed_at, frame_of}
use Rattle.rig_flush.specs.Retag.{is_one_of}

-- ---- any order

-- the operation of a number may start
pub record StartsAt (g : GraphState) (n : ℕ) : Type 0 where
  pub op : OpId
  pub numbered : slice_get (operations g.copy) n ≡ Some op
  pub can : CanStart g op

-- the operation of a number may finish
pub record FinishesAt (g : GraphState) (n : ℕ) : Type 0 where
  pub op : OpId
  pub numbered : slice_get (operations g.copy) n ≡ Some op
  pub can : CanFinish g op

-- the events of marks lead from one state to another, and each may be where it stands
abbrev pub IsRun : GraphState → List Mark → GraphState → Type 0
IsRun g [] after = g ≡ after
IsRun g (Start n ∷ more) after = (event : StartsAt g n) × IsRun (started g event.op) more after
IsRun g (Finish n ∷ more) after = (event : FinishesAt g n) × IsRun (finished g event.op) more after

-- A graph at which nothing runs begins an evaluation, whose operations run as the trace says, and publishes the frame.
pub record IsEvaluation (before : GraphState) (frame : ℤ) (trace : List Mark) (after : GraphState) : Type 0 where
  pub idle : before.running ≡ None
  pub ran : GraphState
  pub run : IsRun (begun before frame) trace ran
  pub complete : CanPublish ran
  pub published : after ≡ published_now ran

-- ---- in one order

-- each of some operations starts and finishes before the next one
abbrev pub marks_of : List ℕ → List Mark
marks_of numbers = flat_map (λ n. Start n ∷ Finish n ∷ []) numbers

-- the operation of one number needs that of another, by an in-link that isn't cut
pub record Needs (s : SceneRecord) (n source : ℕ) : Type 0 where
  pub op : OpId
  pub link : InLink
  pub numbered : slice_get (operations s) n ≡ Some op
  pub is_link : Contains (ins s op) link
  pub kept : link.cut ≡ false
  pub source_is : slice_get (operations s) source ≡ Some link.op

-- the value from scratch of each operation that had to run, in the place of what was kept
abbrev pub kept_at_frame : GraphState → ℤ → OpId → Option Value
kept_at_frame g frame op = if is_one_of (flushed_at g frame) op then Some (operation_value g.copy g.mode frame op) else g.kept op

-- a graph after an evaluation
abbrev pub evaluated : GraphState → ℤ → GraphState
evaluated g frame = record g {
  tags = [];
  kept = kept_at_frame g frame;
  published = Some (frame_of g.copy g.mode frame);
  running = None;
}

-- One dependency graph: what it keeps, its events one after the other, and what holds of the values that it keeps.
use Rattle.std.specs.Prelude.{◌≡◌, ℕ, ◌+◌, List, [], ◌∷◌, ◌++◌, map, filter, Bool, false, if◌then◌else◌, Option, Some, None, option_map, unwrap_or, Contains, ℤ}
use Rattle.std.specs.Option.{option_map_or}
use Rattle.std.specs.List.{All}
use Rattle.std.specs.Ordering.{int_eq}
use Rattle.rig_edits.specs.declared.edit.Edit.{Edit}
use Rattle.rig_edits.specs.Edited.{edited}
use Rattle.rig_laws.specs.Kernel.{kernel}
use Rattle.rig_laws.specs.OperationValue.{operation_value}
use Rattle.rig_laws.specs.Output.{Output, output_at, rest_value}
use Rattle.rig_links.specs.Numbers.{same_operation}
use Rattle.rig_scene.specs.Cut.{cuts}
use Rattle.rig_scene.specs.declared.modifier.Mode.{Mode}
use Rattle.rig_scene.specs.declared.operation.OpId.{OpId}
use Rattle.rig_scene.specs.declared.operation.OpId.TheVariants.{Time}
use Rattle.rig_scene.specs.declared.quantity.CutRead.{CutRead}
use Rattle.rig_scene.specs.Operations.{InLink, operations, ins}
use Rattle.rig_scene.specs.Scene.{SceneRecord}
use Rattle.rig_scene.specs.Value.{Value}
use Rattle.rig_touch.specs.Touch.{touch}
use Rattle.rig_flush.specs.Reach.{reach}
use Rattle.rig_flush.specs.Retag.{is_one_of, retagged}
use Rattle.rig_flush.specs.Shown.{shown_operations, shown}

-- ---- the state

-- a frame that was published: what it shows, and the reads that were cut
pub record Published : Type 0 where
  pub frame : ℤ
  pub outputs : List Output
  pub cut : List CutRead

-- an evaluation that runs: its frame, which operations it has to run, and which have started and finished
pub record Running : Type 0 where
  pub frame : ℤ
  pub flushed : List OpId
  pub started : List OpId
  pub finished : List OpId

-- A graph of a mode: one more than the turn of the last edit that it took, its copy of the scene, the tagged operations in the order of
-- the copy, the value that it keeps of each operation, the last published frame, and the evaluation that runs, if any.
pub record GraphState : Type 0 where
  pub mode : Mode
  pub version : ℕ
  pub copy : SceneRecord
  pub tags : List OpId
  pub kept : OpId → Option Value
  pub published : Option Published
  pub running : Option Running

-- a graph before its first frame: all operations are tagged
abbrev pub opened : SceneRecord → Mode → GraphState
opened scene mode = record {
  mode = mode;
  version = 0;
  copy = scene;
  tags = operations scene;
  kept = λ op. None;
  published = None;
  running = None;
}

-- ---- an edit is taken

-- what is kept of some operations, and nothing of any other
abbrev pub kept_of : List OpId → (OpId → Option Value) → OpId → Option Value
kept_of ops kept op = if is_one_of ops op then kept op else None

-- the version after an edit of a turn
abbrev pub version_after : ℕ → ℕ
version_after turn = turn + 1

-- an accepted edit is taken: the copy, the tags and what is kept follow it
abbrev pub taken : GraphState → Edit → ℕ → GraphState
taken g edit turn = record g {
  version = version_after turn;
  copy = edited g.copy edit;
  tags = retagged g.copy (edited g.copy edit) g.tags (touch g.copy edit);
  kept = kept_of (operations (edited g.copy edit)) g.kept;
}

-- ---- an evaluation begins

-- whether a frame is that of the last published one
abbrev pub is_published : GraphState → ℤ → Bool
is_published g frame = option_map_or (λ p. int_eq p.frame frame) g.published false

-- the tags of an evaluation: the time is one of them where the frame is another than the last published one
abbrev pub tagged_at : GraphState → ℤ → List OpId
tagged_at g frame = if is_published g frame then g.tags else filter (is_one_of (Time ∷ g.tags)) (operations g.copy)

-- the operations that an evaluation runs: the tagged ones, and all that needs them
abbrev pub flushed_at : GraphState → ℤ → List OpId
flushed_at g frame = reach g.copy (tagged_at g frame)

abbrev pub begun : GraphState → ℤ → GraphState
begun g frame = record g {
  tags = tagged_at g frame;
  running = Some (record { frame = frame; flushed = flushed_at g frame; started = []; finished = [] });
}

-- ---- operations run

-- an operation may start: it has to run, it hasn't started, and what it needs of those that have to run has finished
pub record CanStart (g : GraphState) (op : OpId) : Type 0 where
  pub run : Running
  pub runs : g.running ≡ Some run
  pub flushed : Contains run.flushed op
  pub waiting : Contains run.started op → ⊥
  pub sources : (link : InLink) → Contains (ins g.copy op) link → link.cut ≡ false → Contains run.flushed link.op → Contains run.finished link.op

abbrev pub started : GraphState → OpId → GraphState
started g op = record g { running = option_map {T = Running} (λ run. record run { started = run.started ++ op ∷ [] }) g.running }

-- an operation may finish: it has to run, it has started, and it hasn't finished
pub record CanFinish (g : GraphState) (op : OpId) : Type 0 where
  pub run : Running
  pub runs : g.running ≡ Some run
  pub flushed : Contains run.flushed op
  pub started : Contains run.started op
  pub unfinished : Contains run.finished op → ⊥

-- what is kept of an operation, and nothing of a kind where nothing is kept
abbrev pub value_kept : GraphState → OpId → Value
value_kept g op = unwrap_or (g.kept op) (rest_value op)

-- the value of an operation over what is kept of its in-links
abbrev pub value_now : GraphState → ℤ → OpId → Value
value_now g frame op = unwrap_or (kernel g.copy g.mode frame op (map (output_at (value_kept g)) (ins g.copy op))) (rest_value op)

-- the value of an operation in the place of what was kept of it
abbrev pub with_value : (OpId → Option Value) → OpId → Value → OpId → Option Value
with_value kept op value other = if same_operation op other then Some value else kept other

-- an operation finishes: its value follows from what is kept now
abbrev pub finished : GraphState → OpId → GraphState
finished g op = option_map_or (λ run. record g {
  kept = with_value g.kept op (value_now g run.frame op);
  running = Some (record run { finished = run.finished ++ op ∷ [] });
}) g.running g

-- ---- a frame is published

-- a frame may be published: all that had to run has finished
pub record CanPublish (g : GraphState) : Type 0 where
  pub run : Running
  pub runs : g.running ≡ Some run
  pub all : All (Contains run.finished) run.flushed

-- what is kept of the operations that a frame shows
abbrev pub shown_of : GraphState → List Output
shown_of g = map (λ op. record { op = op; value = value_kept g op; is_rest = false }) (shown_operations g.copy)

-- the frame is published: nothing is tagged and nothing runs
abbrev pub published_now : GraphState → GraphState
published_now g = option_map_or (λ run. record g {
  tags = [];
  published = Some (record { frame = run.frame; outputs = shown_of g; cut = cuts g.copy });
  running = None;
}) g.running g

-- ---- what holds

-- a published frame of a scene, evaluated from scratch
abbrev pub frame_of : SceneRecord → Mode → ℤ → Published
frame_of scene mode frame = record { frame = frame; outputs = shown scene mode frame; cut = cuts scene }

-- What a graph keeps between two evaluations is right, as far as nothing is tagged that leads to it. Before its first frame all operations
-- are tagged; afterwards what isn't reached from the tags has its value from scratch at the last published frame.
pub record Fresh (g : GraphState) : Type 0 where
  pub all_tagged : g.published ≡ None → All (Contains g.tags) (operations g.copy)
  pub is_kept : (p : Published) → g.published ≡ Some p → (op : OpId) → Contains (operations g.copy) op → (Contains (reach g.copy g.tags) op → ⊥) →
      g.kept op ≡ Some (operation_value g.copy g.mode p.frame op)

-- What a graph keeps while it runs is right: each operation that has finished, and each that has not to run, has its value from
-- scratch at the frame that runs. What an operation needs had finished when it started.
pub record IsRight (g : GraphState) : Type 0 where
  pub run : Running
  pub runs : g.running ≡ Some run
  pub flushed : run.flushed ≡ reach g.copy g.tags
  pub kept : (op : OpId) → Contains (operations g.copy) op → (Contains run.flushed op → Contains run.finished op) →
      g.kept op ≡ Some (operation_value g.copy g.mode run.frame op)
  pub sources : (op : OpId) → Contains run.started op → (link : InLink) → Contains (ins g.copy op) link → link.cut ≡ false →
      Contains run.flushed link.op → Contains run.finished link.op

-- What contracts see of a dependency graph, and the state of a graph that it stands for.
use Rattle.std.specs.Prelude.{ℕ, List, filter, Option, None, option_map}
use Rattle.rig_copies.specs.Copies.{kept_for}
use Rattle.rig_flush.specs.Graph.{GraphState, Published}
use Rattle.rig_flush.specs.Retag.{is_one_of}
use Rattle.rig_kernel.specs.declared.done.Done.{Done}
use Rattle.rig_laws.specs.Output.{Output}
use Rattle.rig_scene.specs.declared.modifier.Mode.{Mode}
use Rattle.rig_scene.specs.declared.operation.OpId.{OpId}
use Rattle.rig_scene.specs.Operations.{operations}
use Rattle.rig_scene.specs.Scene.{SceneRecord}
use Rattle.rig_scene.specs.Value.{Value}

-- A graph at which nothing runs: what it is for, one more than the turn of the last edit that it took, its copy of the scene, the tagged
-- operations in the order of the copy, the output that is kept at the number of each operation, and the last published frame.
pub record GraphRecord : Type 0 where
  pub mode : Mode
  pub version : ℕ
  pub copy : SceneRecord
  pub tags : List OpId
  pub kept : List (Option Output)
  pub published : Option Published

-- the value that is kept of an operation, by the number that it has among some
abbrev pub value_for : List OpId → List (Option Output) → OpId → Option Value
value_for ops kept op = option_map (λ out. out.value) (kept_for ops kept op)

-- the state that a graph is in
abbrev pub state_of : GraphRecord → GraphState
state_of r = record {
  mode = r.mode;
  version = r.version;
  copy = r.copy;
  tags = r.tags;
  kept = value_for (operations r.copy) r.kept;
  published = r.published;
  running = None;
}

-- those of some tags that are operations of a scene, in the order of the scene
abbrev pub tags_of : SceneRecord → List OpId → List OpId
tags_of s tags = filter (is_one_of tags) (operations s)

-- a finished frame, as it was published
abbrev pub published_of : Done → Published
published_of done = record { frame = done.frame; outputs = done.outs; cut = done.cuts }

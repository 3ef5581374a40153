-- What is told of an evaluation.
use Rattle.std.specs.Prelude.{◌≡◌, ◌⊎◌, ℕ, List, length, ℤ}
use Rattle.std.specs.List.{flat_map}
use Rattle.rig_flush.specs.Evaluation.{Needs}
use Rattle.rig_flush.specs.Graph.{GraphState, tagged_at, flushed_at}
use Rattle.rig_graph.specs.declared.report.Report.{Report}
use Rattle.rig_graph.specs.State.{GraphRecord, state_of}
use Rattle.rig_pending.specs.Ordered.{IsOrdered}
use Rattle.rig_scene.specs.Operations.{operations, ins}

-- The report of an evaluation of a graph at a frame: how many operations ran, which are those that are reached from what is tagged, how
-- many operations and in-links the copy has, and a trace in which each of those that ran did so once, after all that it needs.
pub record IsReport (before : GraphState) (frame : ℤ) (report : Report) : Type 0 where
  pub ran : report.ran ≡ length (flushed_at before frame)
  pub operation_count : report.operations ≡ length (operations before.copy)
  pub link_count : report.links ≡ length (flat_map (ins before.copy) (operations before.copy))
  pub numbers : List ℕ
  pub as_many : length numbers ≡ report.ran
  pub ordered : IsOrdered (Needs before.copy) numbers report.trace

-- A graph that found no memory is as it was, but for its tags: they may be those of the evaluation already.
pub record IsLeft (before after : GraphRecord) (frame : ℤ) : Type 0 where
  pub same : after ≡ record before { tags = after.tags }
  pub tags : (after.tags ≡ before.tags) ⊎ (after.tags ≡ tagged_at (state_of before) frame)

-- An evaluation that is ready to be published.
use Rattle.std.specs.Prelude.{◌≡◌, ℕ, ◌++◌, List, [], ◌∷◌, length, map, false, Bool, if◌then◌else◌, Option, Some, ℤ}
use Rattle.std.specs.Option.{option_map_or}
use Rattle.std.specs.Ordering.{int_eq}
use Rattle.rig_flush.specs.Evaluation.{marks_of}
use Rattle.rig_flush.specs.Retag.{is_one_of}
use Rattle.rig_flush.specs.Tables.{reached_numbers}
use Rattle.rig_graph.specs.declared.frame.NextFrame.{NextFrame}
use Rattle.rig_graph.specs.declared.ready.Ready.{Ready}
use Rattle.rig_graph.specs.declared.report.Report.{Report}
use Rattle.rig_graph.specs.declared.scene_copy.SceneCopy.{SceneCopy}
use Rattle.rig_graph.specs.NextFrame.{IsNextFrame}
use Rattle.rig_graph.specs.Parts.{IsPlanned, output_at_number}
use Rattle.rig_kernel.specs.declared.done.Done.{Done}
use Rattle.rig_laws.specs.Output.{Output}
use Rattle.rig_rows.specs.Rows.{joined}
use Rattle.rig_scene.specs.declared.modifier.Mode.{Mode}
use Rattle.rig_scene.specs.declared.operation.OpId.{OpId}
use Rattle.rig_scene.specs.declared.operation.OpId.TheVariants.{Time}

-- some tags and the time
abbrev pub with_time : List OpId → List OpId
with_time tags = if is_one_of tags Time then tags else tags ++ Time ∷ []

-- whether a frame is that of a finished one
abbrev pub is_frame_of : Option Done → ℤ → Bool
is_frame_of published frame = option_map_or (λ d. int_eq d.frame frame) published false

-- the tags of an evaluation at a frame
abbrev pub tagged_for : Option Done → ℤ → List OpId → List OpId
tagged_for published frame tags = if is_frame_of published frame then tags else with_time tags

-- what is tagged, and all that needs it, can run over what is kept
abbrev pub CanRun : SceneCopy → Mode → ℤ → List OpId → List (Option Output) → Type 0
CanRun c mode frame tags kept = IsPlanned c.scene mode frame c.links.order (reached_numbers c.nodes c.links tags) kept

-- the operations of some numbers have run, and their results make a frame
pub record HasRun (c : SceneCopy) (mode : Mode) (frame : ℤ) (numbers : List ℕ) (kept : List (Option Output)) (fits : Bool) (results : List Output) (next : NextFrame) : Type 0 where
  pub results_are : map Some results ≡ map (output_at_number c.scene mode frame) numbers
  pub next_is : IsNextFrame c mode frame numbers results kept fits next

-- what is told of a run of some numbers
pub record IsTold (c : SceneCopy) (numbers : List ℕ) (report : Report) : Type 0 where
  pub ran : report.ran ≡ length numbers
  pub operation_count : report.operations ≡ length c.nodes
  pub link_count : report.links ≡ length (joined c.links.ins)
  pub trace : report.trace ≡ marks_of numbers

-- all that is tagged has run
pub record IsReady (c : SceneCopy) (mode : Mode) (frame : ℤ) (tags : List OpId) (kept : List (Option Output)) (fits : Bool) (ready : Ready) : Type 0 where
  pub run : HasRun c mode frame (reached_numbers c.nodes c.links tags) kept fits ready.results.items ready.next
  pub told : IsTold c (reached_numbers c.nodes c.links tags) ready.report

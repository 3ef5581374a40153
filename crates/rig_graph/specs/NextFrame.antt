-- The frame that is published next.
use Rattle.std.specs.Prelude.{◌≡◌, ⊤, ℕ, ◌<◌, List, length, map, Bool, true, false, Option, Some, option_map, IfSome, ℤ}
use Rattle.std.specs.List.{All}
use Rattle.rig_graph.specs.declared.frame.Change.{Change}
use Rattle.rig_graph.specs.declared.frame.NextFrame.{NextFrame}
use Rattle.rig_graph.specs.declared.frame.NextFrame.TheVariants.{Anew, Changed}
use Rattle.rig_graph.specs.declared.scene_copy.SceneCopy.{SceneCopy}
use Rattle.rig_graph.specs.Parts.{given_at, changes_of, changed}
use Rattle.rig_kernel.specs.declared.done.Done.{Done}
use Rattle.rig_laws.specs.Output.{Output}
use Rattle.rig_scene.specs.Cut.{cuts}
use Rattle.rig_scene.specs.declared.modifier.Mode.{Mode}

-- a frame that shows all that there is of what a scene shows
pub record IsNewFrame (c : SceneCopy) (mode : Mode) (frame : ℤ) (numbers : List ℕ) (results : List Output) (kept : List (Option Output)) (done : Done) : Type 0 where
  pub frame_is : done.frame ≡ frame
  pub mode_is : done.mode ≡ mode
  pub cuts : done.cuts ≡ cuts c.scene
  pub outs : map Some done.outs ≡ map (given_at numbers results kept) c.shown.members

-- The last frame is changed where it fits, and else there is another.
abbrev pub IsNextFrame : SceneCopy → Mode → ℤ → List ℕ → List Output → List (Option Output) → Bool → NextFrame → Type 0
IsNextFrame c mode frame numbers results kept fits (Anew done) = (fits ≡ false) × IsNewFrame c mode frame numbers results kept done
IsNextFrame c mode frame numbers results kept fits (Changed changes) = (fits ≡ true) × (changes.items ≡ changes_of c.shown.members numbers results)

-- a frame with changes
abbrev pub with_changes : Done → ℤ → List Change → Done
with_changes done frame changes = record done { frame = frame; outs = changed done.outs changes }

-- what is published next
abbrev pub frame_after : Option Done → NextFrame → ℤ → Option Done
frame_after published (Anew done) frame = Some done
frame_after published (Changed changes) frame = option_map (λ d. with_changes d frame changes.items) published

-- each change is of an output that the last frame has
abbrev pub AreWithin : Option Done → List Change → Type 0
AreWithin published changes = IfSome published (λ d. All (λ c. c.place < length d.outs) changes)

abbrev pub CanFollow : Option Done → NextFrame → Type 0
CanFollow published (Anew done) = ⊤
CanFollow published (Changed changes) = AreWithin published changes.items

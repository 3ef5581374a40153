-- The reply to a frame step, and the output of a whole track, from their parts.
use Rattle.std.proofs.Common.{◌≡◌, ℕ, suc, ℤ, Bool, refl, List, [], ◌∷◌, ◌++◌, length, ap, sym, ◌∙◌, append_assoc}
use Rattle.rig_scene.specs.declared.modifier.Mode.{Mode}
use Rattle.rig_scene.specs.Operations.{operations}
use Rattle.rig_scene.specs.Scene.{SceneRecord}
use Rattle.rig_scriptjson.specs.declared.script.Step.{Step}
use Rattle.rig_scriptjson.specs.declared.script.Track.{Track}
use Rattle.rig_scriptjson.specs.declared.script.Step.TheVariants.{Frame}
use Rattle.rig_text.specs.declared.history.Reply.TheVariants.{Looked}
use Rattle.rig_text.specs.History.{history_lines}
use Rattle.rig_text.specs.Track.{frame_step_line, track_line}
use Rattle.rig_play.specs.declared.play.Output.{Output}
use Rattle.rig_play.specs.Flush.{flushed}
use Rattle.rig_play.specs.Made.{IsOpening, Took, TookAll, whole_text}
use Rattle.rig_play.specs.Output.{after_step, frame_of, lines_from, mode_of, track_lines, turns_from}
use Rattle.rig_play.specs.State.{PlayState, opening}

pub took-frame : (mode : Mode) (k : ℕ) (e : PlayState) (f : ℤ) (full : Bool) (old new : Output) (ran all : ℕ) (line text : List ℕ)
    → new.turns.items ≡ old.turns.items ++ record { track = 0; step = k; reply = Looked } ∷ []
    → whole_text new.texts.items ≡ (whole_text old.texts.items ++ line) ++ text
    → line ≡ frame_step_line k f k ran all → ran ≡ length (flushed e f) → all ≡ length (operations e.scene) → text ≡ frame_of e.scene mode f
    → Took mode k e (Frame f full) old new
took-frame mode k e f full old new ran all line text turn added is-line is-ran is-all is-text = record {
  turn = turn;
  lines = added ∙ append_assoc (whole_text old.texts.items) line text
      ∙ ap (λ l. whole_text old.texts.items ++ (l ++ text)) is-line
      ∙ ap (λ t. whole_text old.texts.items ++ (frame_step_line k f k ran all ++ t)) is-text
      ∙ ap (λ r. whole_text old.texts.items ++ (frame_step_line k f k r all ++ frame_of e.scene mode f)) is-ran
      ∙ ap (λ a. whole_text old.texts.items ++ (frame_step_line k f k (length (flushed e f)) a ++ frame_of e.scene mode f)) is-all;
}

-- each step takes one turn
pub turns-few : (k : ℕ) (state : PlayState) (steps : List Step) → length (turns_from k state steps) ≡ length steps
turns-few k state [] = refl
turns-few k state (step ∷ steps) = ap suc (turns-few (suc k) (after_step state step) steps)

-- the turns of a whole track
pub track-turns : (scene : SceneRecord) (track : Track) (mode : Mode) (e : PlayState) (steps : List Step) (opened new : Output)
    → IsOpening track.mode opened → TookAll mode 0 e steps opened new → e ≡ opening scene → steps ≡ track.steps
    → new.turns.items ≡ turns_from 0 (opening scene) track.steps
track-turns scene track mode e steps opened new o t is all =
    t.turns ∙ ap (λ xs. xs ++ turns_from 0 e steps) o.turns ∙ ap (λ s. turns_from 0 s steps) is ∙ ap (turns_from 0 (opening scene)) all

-- the history and the texts of a whole track
pub track-text : (scene : SceneRecord) (track : Track) (mode : Mode) (e : PlayState) (steps : List Step) (opened new : Output)
    → IsOpening track.mode opened → TookAll mode 0 e steps opened new → mode ≡ mode_of track → e ≡ opening scene → steps ≡ track.steps
    → history_lines new.turns.items ++ whole_text new.texts.items ≡ track_lines scene track
track-text scene track mode e steps opened new o t owned is all =
    let lines : whole_text new.texts.items ≡ track_line 0 track.mode ++ lines_from (mode_of track) 0 (opening scene) track.steps =
    t.lines ∙ ap (λ xs. xs ++ lines_from mode 0 e steps) o.text ∙ ap (λ m. track_line 0 track.mode ++ lines_from m 0 e steps) owned
    ∙ ap (λ s. track_line 0 track.mode ++ lines_from (mode_of track) 0 s steps) is
    ∙ ap (λ xs. track_line 0 track.mode ++ lines_from (mode_of track) 0 (opening scene) xs) all in
    ap (λ xs. history_lines xs ++ whole_text new.texts.items) (track-turns scene track mode e steps opened new o t is all)
    ∙ ap (λ xs. history_lines (turns_from 0 (opening scene) track.steps) ++ xs) lines
    ∙ sym (append_assoc (history_lines (turns_from 0 (opening scene) track.steps)) (track_line 0 track.mode) (lines_from (mode_of track) 0 (opening scene) track.steps))

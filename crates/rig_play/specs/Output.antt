-- The output of a play: the history, then the track with the reply to each of its steps. Frames are evaluated from scratch.
use Rattle.std.specs.Prelude.{ℕ, suc, ◌+◌, ℤ, List, [], ◌∷◌, ◌++◌, length, map, Option, None, Some, unwrap_or}
use Rattle.rig_fixed.specs.Transform.{Transform}
use Rattle.rig_scene.specs.declared.modifier.Mode.{Mode}
use Rattle.rig_scene.specs.declared.modifier.Mode.TheVariants.{Viewport}
use Rattle.rig_scene.specs.declared.quantity.Quantity.TheVariants.{World}
use Rattle.rig_scene.specs.Cut.{cuts}
use Rattle.rig_scene.specs.Operations.{operations}
use Rattle.rig_scene.specs.Scene.{SceneRecord}
use Rattle.rig_scene.specs.Value.{val, transform_in}
use Rattle.rig_edits.specs.declared.cause.EditCause.{EditCause}
use Rattle.rig_edits.specs.Conditions.{first_cause}
use Rattle.rig_scriptjson.specs.declared.script.Step.{Step}
use Rattle.rig_scriptjson.specs.declared.script.Step.TheVariants.{Edit, Frame}
use Rattle.rig_scriptjson.specs.declared.script.Track.{Track}
use Rattle.rig_text.specs.declared.history.Reply.{Reply}
use Rattle.rig_text.specs.declared.history.Reply.TheVariants.{Looked, Accepted, Refused}
use Rattle.rig_text.specs.declared.history.Turn.{Turn}
use Rattle.rig_text.specs.Frame.{frame_lines}
use Rattle.rig_text.specs.History.{history_lines}
use Rattle.rig_text.specs.Track.{track_line, edit_line, frame_step_line}
use Rattle.rig_play.specs.Flush.{flushed}
use Rattle.rig_play.specs.State.{PlayState, opening, after_edit, after_frame}

-- ---- steps

abbrev pub after_step : PlayState → Step → PlayState
after_step state (Edit edit) = after_edit state edit
after_step state (Frame frame full) = after_frame state frame

-- a refusal has the first cause against the edit
abbrev pub edit_reply : Option EditCause → Reply
edit_reply None = Accepted
edit_reply (Some cause) = Refused cause

abbrev pub reply_of : PlayState → Step → Reply
reply_of state (Edit edit) = edit_reply (first_cause state.scene edit)
reply_of state (Frame frame full) = Looked

-- the turn that a step of the one track takes: that of its number
abbrev pub turn_of : ℕ → PlayState → Step → Turn
turn_of k state step = record { track = 0; step = k; reply = reply_of state step }

-- the turns of the steps to come, which are numbered from k on
abbrev pub turns_from : ℕ → PlayState → List Step → List Turn
turns_from k state [] = []
turns_from k state (step ∷ steps) = turn_of k state step ∷ turns_from (suc k) (after_step state step) steps

-- ---- what is printed

-- each object's transform in the world at a frame, from scratch
abbrev pub worlds_at : SceneRecord → Mode → ℤ → List Transform
worlds_at scene mode frame = map (λ o. transform_in (val scene mode frame (World o.id))) scene.objects

-- the text of a frame of a scene
abbrev pub frame_of : SceneRecord → Mode → ℤ → List ℕ
frame_of scene mode frame = frame_lines mode frame (length (cuts scene)) scene.objects (worlds_at scene mode frame)

-- the reply to a step, in a track that evaluates a mode
abbrev pub step_lines : Mode → ℕ → PlayState → Step → List ℕ
step_lines mode k state (Edit edit) = edit_line k k (first_cause state.scene edit)
step_lines mode k state (Frame frame full) =
    frame_step_line k frame k (length (flushed state frame)) (length (operations state.scene)) ++ frame_of state.scene mode frame

-- the replies to the steps to come, which are numbered from k on
abbrev pub lines_from : Mode → ℕ → PlayState → List Step → List ℕ
lines_from mode k state [] = []
lines_from mode k state (step ∷ steps) = step_lines mode k state step ++ lines_from mode (suc k) (after_step state step) steps

-- the mode of a track's frames. One that owns no mode has no frames.
abbrev pub mode_of : Track → Mode
mode_of track = unwrap_or track.mode Viewport

-- the output of one track over an opening scene
abbrev pub track_lines : SceneRecord → Track → List ℕ
track_lines scene track =
    history_lines (turns_from 0 (opening scene) track.steps)
    ++ track_line 0 track.mode ++ lines_from (mode_of track) 0 (opening scene) track.steps

-- the output of a script of at most one track, which is empty without one
abbrev pub output_text : SceneRecord → List Track → List ℕ
output_text scene [] = []
output_text scene (track ∷ tracks) = track_lines scene track

-- ---- what is counted

-- how many operations run at a step
abbrev pub ran_at : PlayState → Step → ℕ
ran_at state (Edit edit) = 0
ran_at state (Frame frame full) = length (flushed state frame)

-- how many run at the steps to come
abbrev pub ran_from : PlayState → List Step → ℕ
ran_from state [] = 0
ran_from state (step ∷ steps) = ran_at state step + ran_from (after_step state step) steps

-- how many run in a script of at most one track
abbrev pub ran_in : SceneRecord → List Track → ℕ
ran_in scene [] = 0
ran_in scene (track ∷ tracks) = ran_from (opening scene) track.steps

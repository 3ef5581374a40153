-- What the parts of a run make.
use Rattle.std.specs.Prelude.{◌≡◌, ℕ, List, [], ◌∷◌, ◌++◌, Option, Result, Ok, Err, Vec}
use Rattle.std.specs.List.{flat_map}
use Rattle.std.specs.declared.alloc.Global.{Global}
use Rattle.rig_scene.specs.declared.modifier.Mode.{Mode}
use Rattle.rig_scene.specs.Scene.{SceneRecord}
use Rattle.rig_scriptjson.specs.declared.script.Step.{Step}
use Rattle.rig_text.specs.Track.{track_line}
use Rattle.rig_play.specs.declared.input.InputStop.{InputStop}
use Rattle.rig_play.specs.declared.input.InputStop.TheVariants as stops
use Rattle.rig_play.specs.declared.play.Output.{Output}
use Rattle.rig_play.specs.declared.program.Answer.{Answer}
use Rattle.rig_play.specs.Input.{InputRecord, Contents, NotJson, BadScene, BadScript, Unbuilt, Checked, Playable}
use Rattle.rig_play.specs.Output.{turn_of, turns_from, step_lines, lines_from}
use Rattle.rig_play.specs.Run.{status_for, text_for}
use Rattle.rig_play.specs.State.{PlayState}

-- why there is no input that is played. Want of memory says nothing.
abbrev pub Stops : InputStop → Contents → Type 0
Stops stops.NoMemory contents = Unit {0}
Stops stops.NotJson contents = contents ≡ NotJson
Stops (stops.BadScene fault) contents = contents ≡ BadScene fault
Stops (stops.BadScript fault) contents = contents ≡ BadScript fault
Stops stops.Unbuilt contents = contents ≡ Unbuilt

-- what reading an input gave
abbrev pub Gives : Result InputRecord InputStop → Contents → Type 0
Gives (Ok input) contents = contents ≡ Playable input
Gives (Err stop) contents = Stops stop contents

-- what reading a scene alone gave
abbrev pub GivesScene : Result SceneRecord InputStop → Contents → Type 0
GivesScene (Ok scene) contents = contents ≡ Checked scene
GivesScene (Err stop) contents = Stops stop contents

-- texts, one after another
abbrev pub whole_text : List (Vec ℕ Global) → List ℕ
whole_text texts = flat_map (λ t. t.items) texts

-- an answer has the status and the text that contents call for
pub record Answers (contents : Contents) (answer : Answer) : Type 0 where
  pub status : answer.status ≡ status_for contents
  pub text : whole_text answer.texts.items ≡ text_for contents

-- the output of a track before its first step
pub record IsOpening (mode : Option Mode) (output : Output) : Type 0 where
  pub turns : output.turns.items ≡ []
  pub text : whole_text output.texts.items ≡ track_line 0 mode

-- a step took the turn of its number, and its reply was added
pub record Took (mode : Mode) (k : ℕ) (state : PlayState) (step : Step) (old new : Output) : Type 0 where
  pub turn : new.turns.items ≡ old.turns.items ++ turn_of k state step ∷ []
  pub lines : whole_text new.texts.items ≡ whole_text old.texts.items ++ step_lines mode k state step

-- steps took turns that are numbered from k on, and their replies were added
pub record TookAll (mode : Mode) (k : ℕ) (state : PlayState) (steps : List Step) (old new : Output) : Type 0 where
  pub turns : new.turns.items ≡ old.turns.items ++ turns_from k state steps
  pub lines : whole_text new.texts.items ≡ whole_text old.texts.items ++ lines_from mode k state steps

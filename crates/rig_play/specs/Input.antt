-- What the bytes of an input stand for, for a command: the scene that is checked, the scene and the script that are played, or
-- what is wrong with them.
use Rattle.std.specs.Prelude.{ℕ, ◌&&◌, List, Bool, Option, Some, None, if◌then◌else◌}
use Rattle.std.specs.Str.{is_utf8}
use Rattle.serde_json.specs.Data.{Data}
use Rattle.serde_json.specs.Read.{read}
use Rattle.rig_scene.specs.Scene.{SceneRecord}
use Rattle.rig_scenejson.specs.declared.fault.Fault.{Fault}
use Rattle.rig_scenejson.specs.Reading.{scene_of_input, input_faults as scene_faults}
use Rattle.rig_scenejson.specs.Tests.{first}
use Rattle.rig_scriptjson.specs.declared.script.Script.{Script}
use Rattle.rig_scriptjson.specs.Script.{script_of_input, input_faults as script_faults}
use Rattle.rig_play.specs.declared.command.Command.{Command}
use Rattle.rig_play.specs.declared.command.Command.TheVariants.{Check}
use Rattle.rig_play.specs.declared.input.TheConstants.{MAX_EVAL_TRACKS}
use Rattle.rig_play.specs.Plain.{is_plain_scene}
use Rattle.rig_play.specs.PlainScript.{is_plain_script}

-- the scene and the script of an input without a fault
pub record InputRecord : Type 0 where
  pub scene : SceneRecord
  pub script : Script

-- what bytes stand for, in the order in which it is told
pub data Contents : Type 0 where
  NotJson : Contents
  BadScene : Fault → Contents
  BadScript : Fault → Contents
  Unbuilt : Contents
  Checked : SceneRecord → Contents
  Playable : InputRecord → Contents

-- whether the plain engine plays an input
abbrev pub is_plain : InputRecord → Bool
is_plain input = is_plain_scene input.scene && is_plain_script input.script

abbrev pub if_plain : InputRecord → Contents
if_plain input = if is_plain input then Playable input else Unbuilt

-- an input, by the first fault of its script
abbrev pub by_script : Option Fault → InputRecord → Contents
by_script (Some fault) input = BadScript fault
by_script None input = if_plain input

-- an input, by the first fault of its scene and that of its script
abbrev pub by_scene : Option Fault → Option Fault → InputRecord → Contents
by_scene (Some fault) script_fault input = BadScene fault
by_scene None script_fault input = by_script script_fault input

-- a scene that is checked, by its first fault
abbrev pub by_check : Option Fault → SceneRecord → Contents
by_check (Some fault) scene = BadScene fault
by_check None scene = Checked scene

-- a JSON value of which the scene is checked
abbrev pub checked_in : Data → Contents
checked_in d = by_check (first (scene_faults d)) (scene_of_input d)

-- a JSON value that is played. Its script has at most one track
abbrev pub played_in : Data → Contents
played_in d =
    by_scene (first (scene_faults d)) (first (script_faults MAX_EVAL_TRACKS d))
    (record { scene = scene_of_input d; script = script_of_input d })

-- what a JSON reading stands for, by what its value does
abbrev pub by_reading : (Data → Contents) → Option Data → Contents
by_reading value_contents (Some d) = value_contents d
by_reading value_contents None = NotJson

-- the JSON reading of UTF-8 text
abbrev pub reading_of : List ℕ → Option Data
reading_of bytes = if is_utf8 bytes then read bytes else None

-- what bytes stand for of which the scene is checked
unfoldable pub contents_to_check : List ℕ → Contents
contents_to_check bytes = by_reading checked_in (reading_of bytes)

-- what bytes stand for that are played
unfoldable pub contents_to_play : List ℕ → Contents
contents_to_play bytes = by_reading played_in (reading_of bytes)

-- what bytes stand for, for a command: `check` looks at the scene alone
abbrev pub contents_for : Command → List ℕ → Contents
contents_for Check bytes = contents_to_check bytes
contents_for command bytes = contents_to_play bytes

-- What reading the parts of an input gives.
use Rattle.std.specs.Prelude.{◌≡◌, ◌<◌, length, IsTrue, nat_le, Option, None, Some, Result, Ok, Err}
use Rattle.std.specs.List.{list_all}
use Rattle.serde_json.specs.Data.{Data}
use Rattle.serde_json.specs.View.{view}
use Rattle.serde_json.specs.declared.value.Value.{Value}
use Rattle.rig_scene.specs.declared.limits.TheConstants.{MAX_STEPS}
use Rattle.rig_scene.specs.Scene.{SceneRecord}
use Rattle.rig_edits.specs.declared.change.TheConstants.{MAX_NEXT}
use Rattle.rig_scenejson.specs.declared.fault.Fault.{Fault}
use Rattle.rig_scriptjson.specs.declared.script.Script.{Script}
use Rattle.rig_play.specs.declared.input.InputStop.{InputStop}
use Rattle.rig_play.specs.declared.input.InputStop.TheVariants as stops
use Rattle.rig_play.specs.Plain.{is_plain_scene}
use Rattle.rig_play.specs.PlainScript.{is_plain_script}

-- the JSON reading of text, or that it has none
abbrev pub ReadsValue : Result Value InputStop → Option Data → Type 0
ReadsValue (Ok value) reading = reading ≡ Some (view value)
ReadsValue (Err stops.NotJson) reading = reading ≡ None
ReadsValue (Err stops.NoMemory) reading = Unit {0}
ReadsValue (Err stop) reading = ⊥

-- the scene where it has no fault, or its first fault
abbrev pub ReadsScene : Result SceneRecord InputStop → SceneRecord → Option Fault → Type 0
ReadsScene (Ok scene) value found = (scene ≡ value) × (found ≡ None)
ReadsScene (Err (stops.BadScene fault)) value found = found ≡ Some fault
ReadsScene (Err stops.NoMemory) value found = Unit {0}
ReadsScene (Err stop) value found = ⊥

-- the script where it has no fault, or its first fault
abbrev pub ReadsScript : Result Script InputStop → Script → Option Fault → Type 0
ReadsScript (Ok script) value found = (script ≡ value) × (found ≡ None)
ReadsScript (Err (stops.BadScript fault)) value found = found ≡ Some fault
ReadsScript (Err stops.NoMemory) value found = Unit {0}
ReadsScript (Err stop) value found = ⊥

-- a scene and a script that the plain engine plays: they are plain, the scene can still be edited, and the steps are few
pub record IsPlayable (scene : SceneRecord) (script : Script) : Type 0 where
  pub scene_is_plain : IsTrue (is_plain_scene scene)
  pub script_is_plain : IsTrue (is_plain_script script)
  pub next : scene.next < MAX_NEXT
  pub steps : IsTrue (list_all (λ t. nat_le (length t.steps) MAX_STEPS) script.tracks)

-- What bytes stand for, by what is read of them.
use Rattle.std.proofs.Common.{◌≡◌, ℕ, List, Bool, true, false, Option, Some, None, IsTrue, Result, Ok, Err, refl, sym, ap, ◌∙◌}
use Rattle.std.specs.Prelude.{if◌then◌else◌}
use Rattle.std.specs.Str.{IsUtf8, is_utf8}
use Rattle.std.proofs.lemmas.Str.{is_utf8-from_IsUtf8, IsUtf8-from_is_utf8}
use Rattle.serde_json.specs.Data.{Data}
use Rattle.serde_json.specs.Read.{read}
use Rattle.rig_scene.specs.Scene.{SceneRecord}
use Rattle.rig_scenejson.specs.declared.fault.Fault.{Fault}
use Rattle.rig_play.specs.declared.input.InputStop.{InputStop}
use Rattle.rig_play.specs.declared.input.InputStop.TheVariants as stops
use Rattle.rig_play.specs.Input.{Checked, Contents, by_check, by_reading, reading_of}
use Rattle.rig_play.specs.Made.{GivesScene, Stops}
use Rattle.rig_play.specs.Readings.{ReadsScene, ReadsValue}

-- UTF-8 text with a reading has it
pub reading-read : (bytes : List ℕ) (d : Data) → IsUtf8 bytes → read bytes ≡ Some d → reading_of bytes ≡ Some d
reading-read bytes d utf8 e = ap (λ b. if b then read bytes else None) (is_utf8-from_IsUtf8 bytes utf8) ∙ e

-- other bytes have none
pub reading-refused : (bytes : List ℕ) → (IsUtf8 bytes → read bytes ≡ None) → reading_of bytes ≡ None
reading-refused bytes h = by (is_utf8 bytes) refl
  where
    by : (b : Bool) → is_utf8 bytes ≡ b → (if is_utf8 bytes then read bytes else None) ≡ None
    by true e = ap (λ b. if b then read bytes else None) e ∙ h (IsUtf8-from_is_utf8 bytes e)
    by false e = ap (λ b. if b then read bytes else None) e

-- text without a reading stops each command
pub reading-stops : (value_contents : Data → Contents) (stop : InputStop) (reading : Option Data) → ReadsValue (Err stop) reading →
    Stops stop (by_reading value_contents reading)
reading-stops value_contents stops.NoMemory reading is = tt
reading-stops value_contents stops.NotJson reading is = ap (by_reading value_contents) is
reading-stops value_contents (stops.BadScene fault) reading is = absurd is
reading-stops value_contents (stops.BadScript fault) reading is = absurd is
reading-stops value_contents stops.Unbuilt reading is = absurd is

-- what is read of a scene is what its value stands for
pub scene-gives : (read : Result SceneRecord InputStop) (value : SceneRecord) (found : Option Fault) → ReadsScene read value found →
    GivesScene read (by_check found value)
scene-gives (Ok scene) value found is = ap (λ f. by_check f value) is.1 ∙ ap Checked (sym is.0)
scene-gives (Err stops.NoMemory) value found is = tt
scene-gives (Err stops.NotJson) value found is = absurd is
scene-gives (Err (stops.BadScene fault)) value found is = ap (λ f. by_check f value) is
scene-gives (Err (stops.BadScript fault)) value found is = absurd is
scene-gives (Err stops.Unbuilt) value found is = absurd is

pub not_true : (b : Bool) → b ≡ false → IsTrue b → ⊥
not_true true e h = absurd cc
not_true false e h = absurd cc

-- How the play of a track stands between two steps: the scene, what was set, and the last frame.
use Rattle.std.specs.Prelude.{ℕ, ℤ, List, map, position, slice_set, Bool, true, false, Option, None, Some}
use Rattle.std.specs.Option.{option_map_or}
use Rattle.rig_scene.specs.Scene.{SceneRecord}
use Rattle.rig_scene.specs.Text.{same_text}
use Rattle.rig_edits.specs.declared.cause.EditCause.{EditCause}
use Rattle.rig_edits.specs.declared.edit.Edit.{Edit}
use Rattle.rig_edits.specs.declared.edit.Edit.TheVariants.{SetValue}
use Rattle.rig_edits.specs.declared.edit.IdName.{IdName}
use Rattle.rig_edits.specs.declared.edit.IdName.TheVariants.{Object, Pencil}
use Rattle.rig_edits.specs.Conditions.{first_cause}
use Rattle.rig_edits.specs.Edited.{edited}

-- the scene after the accepted edits, whether each of its objects was set since the last frame step, and the frame of that step
pub record PlayState : Type 0 where
  pub scene : SceneRecord
  pub set : List Bool
  pub last : Option ℤ

-- before the first step
abbrev pub opening : SceneRecord → PlayState
opening scene = record { scene = scene; set = map (λ _. false) scene.objects; last = None }

-- the index of the object that an id names
abbrev pub object_index : SceneRecord → IdName → Option ℕ
object_index scene (Object name) = position (λ o. same_text o.name name) scene.objects
object_index scene (Pencil name) = None

-- the index of the object of which an edit sets a number
abbrev pub index_set : SceneRecord → Edit → Option ℕ
index_set scene (SetValue id path value) = object_index scene id
index_set scene edit = None

-- marks, with the one at an index put on
abbrev pub with_mark : Option ℕ → List Bool → List Bool
with_mark index marks = option_map_or (λ i. slice_set marks i true) index marks

-- a refused edit changes nothing; an accepted one changes the scene, and marks the object that it sets
abbrev pub after_reply : PlayState → Edit → Option EditCause → PlayState
after_reply state edit (Some cause) = state
after_reply state edit None =
    record state { scene = edited state.scene edit; set = with_mark (index_set state.scene edit) state.set }

-- after an edit, which the first cause against it refuses
abbrev pub after_edit : PlayState → Edit → PlayState
after_edit state edit = after_reply state edit (first_cause state.scene edit)

-- after a frame step: no object was set since
abbrev pub after_frame : PlayState → ℤ → PlayState
after_frame state frame = record state { set = map (λ _. false) state.set; last = Some frame }

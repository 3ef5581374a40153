-- Setting the number at the slot of a channel is the edit, and leaves a scene.
use Rattle.std.proofs.Common.{◌≡◌, ℤ, Bool, true, false, not, None, refl, sym, ap, ◌∙◌, subst}
use Rattle.std.specs.Prelude.{IsTrue}
use Rattle.std.specs.Option.{option_or}
use Rattle.rig_scene.specs.declared.path.Path.{Path}
use Rattle.rig_scene.specs.Scene.{SceneRecord}
use Rattle.rig_scene.specs.WellFormed.{is_scene}
use Rattle.rig_edits.specs.declared.cause.EditCause.TheVariants.{UnknownId, WrongKind, UnknownPath, OutOfRange}
use Rattle.rig_edits.specs.declared.edit.Edit.TheVariants.{SetValue}
use Rattle.rig_edits.specs.declared.edit.IdName.{IdName}
use Rattle.rig_edits.specs.declared.edit.IdName.TheVariants as named
use Rattle.rig_edits.specs.declared.slot.Slot.{Slot}
use Rattle.rig_edits.specs.Conditions.{is_value, when, lacks_id, can_have, lacks_path, first_cause}
use Rattle.rig_edits.specs.Edited.{edited}
use Rattle.rig_edits.specs.KeepsObjects.{keeps_set_value_of_object}
use Rattle.rig_edits.specs.KeepsPencils.{keeps_set_pencil_value}
use Rattle.rig_edits.specs.Slots.{channel_cause, slot_set, IsSlotOf}

-- four causes in a row, of which the first three are a step of their own
grouped : (a b c r : Bool) → option_or (when UnknownId a) (option_or (when WrongKind b) (option_or (when UnknownPath c) (option_or (when OutOfRange r) None)))
    ≡ option_or (option_or (when UnknownId a) (option_or (when WrongKind b) (when UnknownPath c))) (when OutOfRange r)
grouped true b c r = refl
grouped false true c r = refl
grouped false false true r = refl
grouped false false false true = refl
grouped false false false false = refl

-- the causes of the edit are those against the channel, and that of the number
pub value_cause : (s : SceneRecord) (id : IdName) (path : Path) (value : ℤ)
    → first_cause s (SetValue id path value) ≡ option_or (channel_cause s id path) (when OutOfRange (not (is_value value)))
value_cause s id path value = grouped (lacks_id s id) (not (can_have s id path)) (lacks_path s id path) (not (is_value value))

-- an accepted one leaves a scene
pub keeps_set_value : (s : SceneRecord) (id : IdName) (path : Path) (value : ℤ) → IsTrue (is_scene s)
    → first_cause s (SetValue id path value) ≡ None → IsTrue (is_scene (edited s (SetValue id path value)))
keeps_set_value s (named.Object name) path value is none = keeps_set_value_of_object s name path value is none
keeps_set_value s (named.Pencil name) path value is none = keeps_set_pencil_value s name path value is none

-- the number is set at the slot that is found, in what the scene holds
pub value_kept : (held s : SceneRecord) → held ≡ s → IsTrue (is_scene held) → (id : IdName) (path : Path) (found at : Slot) → found ≡ at
    → (channel_cause s id path ≡ None) × IsSlotOf s id path found
    → (value number : ℤ) → (when OutOfRange (not (is_value value)) ≡ None) × (number ≡ value)
    → IsTrue (is_scene (slot_set held at number))
value_kept held s view is id path found at same slot_of value number in_range =
    subst (λ t. IsTrue (is_scene t))
    (slot_of.1.1 value ∙ ap (λ x. slot_set s x value) same ∙ ap (slot_set s at) (sym in_range.1) ∙ ap (λ t. slot_set t at number) (sym view))
    (keeps_set_value s id path value (subst (λ t. IsTrue (is_scene t)) view is)
    (value_cause s id path value ∙ ap (λ r. option_or r (when OutOfRange (not (is_value value)))) slot_of.0 ∙ in_range.0))

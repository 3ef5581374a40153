-- What an edit doesn't touch, and what has the same in-links as before, has the same value over the same inputs.
use Rattle.std.specs.Prelude.{◌≡◌, List, None, IsTrue, Contains, ℤ}
use Rattle.rig_edits.specs.declared.edit.Edit.{Edit}
use Rattle.rig_edits.specs.declared.edit.Edit.TheVariants.{SetValue, SetKey, DeleteKey, SetFlag, MovePoint, SetLayerKey, DeleteLayerKey, SetParent, SetDriver, ClearDriver, AddObject, RemoveObject, AddModifier, RemoveModifier}
use Rattle.rig_edits.specs.declared.edit.Flag.TheVariants.{Switch, Hidden}
use Rattle.rig_edits.specs.declared.edit.IdName.TheVariants as named
use Rattle.rig_edits.specs.Conditions.{first_cause}
use Rattle.rig_edits.specs.Edited.{edited}
use Rattle.rig_laws.specs.Kernel.{kernel}
use Rattle.rig_laws.specs.Output.{Output}
use Rattle.rig_scene.specs.declared.modifier.Mode.{Mode}
use Rattle.rig_scene.specs.declared.operation.OpId.{OpId}
use Rattle.rig_scene.specs.Operations.{operations, ins}
use Rattle.rig_scene.specs.Scene.{SceneRecord}
use Rattle.rig_scene.specs.WellFormed.{is_scene}
use Rattle.rig_touch.specs.Agree.{Agree}
use Rattle.rig_touch.specs.AgreeActions.{set_key_agrees, delete_key_agrees}
use Rattle.rig_touch.specs.AgreeAdded.{agree_add_object}
use Rattle.rig_touch.specs.AgreeDrivers.{agree_set_driver, agree_clear_driver}
use Rattle.rig_touch.specs.AgreeObjectValues.{agree_set_object_value}
use Rattle.rig_touch.specs.AgreeParent.{agree_set_parent}
use Rattle.rig_touch.specs.AgreePencils.{set_hidden_agrees, set_layer_key_agrees, delete_layer_key_agrees, set_pencil_value_agrees}
use Rattle.rig_touch.specs.AgreePoints.{move_point_agrees}
use Rattle.rig_touch.specs.AgreeRemoved.{agree_remove_object}
use Rattle.rig_touch.specs.AgreeStacks.{agree_set_switch, agree_add_modifier, agree_remove_modifier}
use Rattle.rig_touch.specs.SameKernel.{same_kernel}
use Rattle.rig_touch.specs.Touch.{touch}

-- an operation of the scenes before and after an accepted edit that the edit doesn't touch, with the same in-links
pub record IsLeft (s : SceneRecord) (edit : Edit) (op : OpId) : Type 0 where
  pub accepted : first_cause s edit ≡ None
  pub before : Contains (operations s) op
  pub after : Contains (operations (edited s edit)) op
  pub untouched : Contains (touch s edit) op → ⊥
  pub links : ins s op ≡ ins (edited s edit) op

-- both scenes have in common all that its value is made of
pub left_agrees : (s : SceneRecord) → IsTrue (is_scene s) → (edit : Edit) (op : OpId) → IsLeft s edit op → Agree s (edited s edit) op
left_agrees s is (SetValue (named.Object object) path value) op left =
    agree_set_object_value s is object path value left.accepted op left.before left.after left.untouched left.links
left_agrees s is (SetValue (named.Pencil pencil) path value) op left = set_pencil_value_agrees s pencil path value op left.untouched
left_agrees s is (SetKey action path frame value interp) op left = set_key_agrees s action path frame value interp op left.untouched
left_agrees s is (DeleteKey action path frame) op left = delete_key_agrees s action path frame op left.untouched
left_agrees s is (SetFlag (Switch object modifier mode) on) op left =
    agree_set_switch s is object modifier mode on left.accepted op left.before left.after left.untouched left.links
left_agrees s is (SetFlag (Hidden pencil layer) on) op left = set_hidden_agrees s pencil layer on op left.untouched
left_agrees s is (MovePoint pencil drawing stroke point to) op left = move_point_agrees s pencil drawing stroke point to op left.untouched
left_agrees s is (SetLayerKey pencil layer frame drawing) op left = set_layer_key_agrees s pencil layer frame drawing op left.untouched
left_agrees s is (DeleteLayerKey pencil layer frame) op left = delete_layer_key_agrees s pencil layer frame op left.untouched
left_agrees s is (SetParent object parent) op left =
    agree_set_parent s is object parent left.accepted op left.before left.after left.untouched left.links
left_agrees s is (SetDriver id path driver) op left =
    agree_set_driver s is id path driver left.accepted op left.before left.after left.untouched left.links
left_agrees s is (ClearDriver id path) op left =
    agree_clear_driver s is id path left.accepted op left.before left.after left.untouched left.links
left_agrees s is (AddObject name kind) op left = agree_add_object s is name kind left.accepted op left.before left.after left.untouched left.links
left_agrees s is (RemoveObject object) op left = agree_remove_object s is object left.accepted op left.before left.after left.untouched left.links
left_agrees s is (AddModifier object name viewport render effect) op left =
    agree_add_modifier s is object name viewport render effect left.accepted op left.before left.after left.untouched left.links
left_agrees s is (RemoveModifier object modifier) op left =
    agree_remove_modifier s is object modifier left.accepted op left.before left.after left.untouched left.links

-- it has the same value over the same inputs
pub left_kernel : (s : SceneRecord) → IsTrue (is_scene s) → (edit : Edit) (op : OpId) → IsLeft s edit op →
    (mode : Mode) (frame : ℤ) (inputs : List Output) → kernel s mode frame op inputs ≡ kernel (edited s edit) mode frame op inputs
left_kernel s is edit op left = same_kernel s (edited s edit) op (left_agrees s is edit op left)

-- An accepted edit leaves a scene.
use Rattle.std.specs.Prelude.{◌≡◌, None, IsTrue}
use Rattle.rig_scene.specs.Scene.{SceneRecord}
use Rattle.rig_scene.specs.WellFormed.{is_scene}
use Rattle.rig_edits.specs.declared.edit.Edit.{Edit}
use Rattle.rig_edits.specs.declared.edit.Edit.TheVariants.{SetValue, SetKey, DeleteKey, SetFlag, MovePoint, SetLayerKey, DeleteLayerKey, SetParent, SetDriver, ClearDriver, AddObject, RemoveObject, AddModifier, RemoveModifier}
use Rattle.rig_edits.specs.declared.edit.Flag.TheVariants.{Switch, Hidden}
use Rattle.rig_edits.specs.declared.edit.IdName.TheVariants as named
use Rattle.rig_edits.specs.Conditions.{first_cause, IsEdit}
use Rattle.rig_edits.specs.Edited.{edited}
use Rattle.rig_edits.specs.KeepsActions.{keeps_set_key, keeps_delete_key}
use Rattle.rig_edits.specs.KeepsAdded.{keeps_add_object}
use Rattle.rig_edits.specs.KeepsDrivers.{keeps_set_driver, keeps_clear_driver}
use Rattle.rig_edits.specs.KeepsObjects.{keeps_set_value_of_object, keeps_set_parent}
use Rattle.rig_edits.specs.KeepsPencils.{keeps_set_pencil_value, keeps_set_hidden, keeps_set_layer_key, keeps_delete_layer_key, keeps_move_point}
use Rattle.rig_edits.specs.KeepsRemoved.{keeps_remove_object}
use Rattle.rig_edits.specs.KeepsStacks.{keeps_set_switch, keeps_add_modifier, keeps_remove_modifier}

pub keeps : (s : SceneRecord) (edit : Edit) → IsEdit edit → IsTrue (is_scene s) → first_cause s edit ≡ None → IsTrue (is_scene (edited s edit))
keeps s (SetValue (named.Object name) path value) is = keeps_set_value_of_object s name path value
keeps s (SetValue (named.Pencil name) path value) is = keeps_set_pencil_value s name path value
keeps s (SetKey action path frame value interp) is = keeps_set_key s action path frame value interp
keeps s (DeleteKey action path frame) is = keeps_delete_key s action path frame
keeps s (SetFlag (Switch object modifier mode) on) is = keeps_set_switch s object modifier mode on
keeps s (SetFlag (Hidden pencil layer) on) is = keeps_set_hidden s pencil layer on
keeps s (MovePoint pencil drawing stroke point to) is = keeps_move_point s pencil drawing stroke point to
keeps s (SetLayerKey pencil layer frame drawing) is = keeps_set_layer_key s pencil layer frame drawing
keeps s (DeleteLayerKey pencil layer frame) is = keeps_delete_layer_key s pencil layer frame
keeps s (SetParent object parent) is = keeps_set_parent s object parent
keeps s (SetDriver id path driver) is = keeps_set_driver s id path driver is
keeps s (ClearDriver id path) is = keeps_clear_driver s id path
keeps s (AddObject name kind) is = keeps_add_object s name kind
keeps s (RemoveObject object) is = keeps_remove_object s object
keeps s (AddModifier object name viewport render effect) is = keeps_add_modifier s object name viewport render effect
keeps s (RemoveModifier object modifier) is = keeps_remove_modifier s object modifier

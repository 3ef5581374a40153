-- The edit that its members give, where nothing is wrong with them.
use Rattle.std.specs.Prelude.{ℕ, ◌||◌, not, List, codes, Bool, true, false, Option, option_map, if◌then◌else◌, ℤ, pos}
use Rattle.std.specs.Option.{option_map_or}
use Rattle.serde_json.specs.Data.{Data, Items}
use Rattle.rig_scene.specs.declared.action.Interp.{Interp}
use Rattle.rig_scene.specs.declared.action.Interp.TheVariants.{Constant, Linear}
use Rattle.rig_scene.specs.declared.driver.DriverKind.{DriverKind}
use Rattle.rig_scene.specs.declared.driver.DriverKind.TheVariants.{Average, Sum, Min, Max}
use Rattle.rig_scene.specs.declared.modifier.Mode.{Mode}
use Rattle.rig_scene.specs.declared.modifier.Mode.TheVariants.{Viewport, Render}
use Rattle.rig_scene.specs.Text.{same_text}
use Rattle.rig_edits.specs.declared.edit.Edit.{Edit}
use Rattle.rig_edits.specs.declared.edit.Edit.TheVariants.{SetValue, SetKey, DeleteKey, SetFlag, MovePoint, SetLayerKey, DeleteLayerKey, SetParent, SetDriver, ClearDriver, AddObject, RemoveObject, AddModifier, RemoveModifier}
use Rattle.rig_edits.specs.declared.edit.Flag.TheVariants.{Switch, Hidden}
use Rattle.rig_edits.specs.declared.edit.IdName.{IdName}
use Rattle.rig_edits.specs.declared.edit.IdName.TheVariants as named
use Rattle.rig_edits.specs.declared.edit.NewEffect.{NewEffect}
use Rattle.rig_edits.specs.declared.edit.NewEffect.TheVariants.{Offset, Mirror, Array}
use Rattle.rig_edits.specs.declared.edit.NewKind.{NewKind}
use Rattle.rig_edits.specs.declared.edit.NewKind.TheVariants as new
use Rattle.rig_edits.specs.declared.edit.NewParent.{NewParent}
use Rattle.rig_edits.specs.declared.edit.NewVariable.{NewVariable}
use Rattle.rig_edits.specs.declared.edit.NewVariable.TheVariants.{Property, Transform}
use Rattle.rig_edits.specs.declared.edit.Whole3.{Whole3}
use Rattle.rig_edits.specs.DriverByNames.{DriverByNames}
use Rattle.rig_scenejson.specs.declared.member.Member.{Member}
use Rattle.rig_scenejson.specs.declared.member.Member.TheVariants as m
use Rattle.rig_scenejson.specs.Given.{has, text_at, items_at, truth_at, values, channel_given, path_given, names_pencil, id_name, is_kind}
use Rattle.rig_scenejson.specs.Tests.{field}
use Rattle.rig_scenejson.specs.Value.{whole_of, text_of, items_of, item_at}
use Rattle.rig_scriptjson.specs.EditFaults.{is_edit, is_of_layer}

-- ---- members

abbrev pub whole_at : ℤ → Member → Data → ℤ
whole_at default member d = option_map_or whole_of (field member d) default

abbrev pub name_at : Member → Data → Option (List ℕ)
name_at member d = option_map text_of (field member d)

abbrev pub whole3_items : Items → Whole3
whole3_items ds = record { x = whole_of (item_at 0 ds); y = whole_of (item_at 1 ds); z = whole_of (item_at 2 ds) }

abbrev pub whole3_of : Data → Whole3
whole3_of d = whole3_items (items_of d)

abbrev pub no_whole3 : Whole3
no_whole3 = record { x = pos 0; y = pos 0; z = pos 0 }

abbrev pub whole3_at : Member → Data → Whole3
whole3_at member d = option_map_or whole3_of (field member d) no_whole3

abbrev pub id_given : Data → IdName
id_given d = if names_pencil d then named.Pencil (id_name d) else named.Object (id_name d)

-- ---- words

abbrev pub interp_given : Data → Interp
interp_given d = if same_text (text_at m.Interp d) (codes "constant") then Constant else Linear

abbrev pub mode_of : List ℕ → Mode
mode_of word = if same_text word (codes "viewport") then Viewport else Render

abbrev pub driver_kind_given : Data → DriverKind
driver_kind_given d =
    if is_kind (codes "average") d then Average else (if is_kind (codes "sum") d then Sum else (if is_kind (codes "min") d then Min else Max))

-- ---- parts

abbrev pub parent_given : Data → Option NewParent
parent_given d = option_map (λ p. record { object = text_of p; bone = name_at m.Bone d }) (field m.Parent d)

-- the world transform is meant where no other is named; a bone has no other
abbrev pub world_given : Data → Bool
world_given d = has m.Bone d || not (same_text (text_at m.Space d) (codes "local"))

abbrev pub transform_given : Data → NewVariable
transform_given d = Transform (text_at m.Object d) (name_at m.Bone d) (world_given d) (channel_given d)

abbrev pub variable_given : Data → NewVariable
variable_given d = if is_kind (codes "property") d then Property (id_given d) (path_given d) else transform_given d

abbrev pub driver_given : Data → DriverByNames
driver_given d = record { kind = driver_kind_given d; variables = values variable_given (items_at m.Variables d) }

abbrev pub kind_given : Data → NewKind
kind_given d =
    if is_kind (codes "armature") d then new.Armature (text_at m.Data d)
    else (if is_kind (codes "pencil") d then new.Pencil (text_at m.Data d) else new.Empty)

abbrev pub mirror_given : Data → NewEffect
mirror_given d = Mirror (truth_at false m.X d) (truth_at false m.Y d) (truth_at false m.Z d) (name_at m.Centre d)

abbrev pub effect_given : Data → NewEffect
effect_given d =
    if is_kind (codes "mirror") d then mirror_given d
    else (if is_kind (codes "array") d then Array (whole_at (pos 0) m.Count d) (whole3_at m.Offset d)
    else Offset (whole3_at m.Loc d) (whole_at (pos 1000000) m.Scale d))

-- ---- edits

abbrev pub set_given : Data → Edit
set_given d = SetValue (id_given d) (path_given d) (whole_at (pos 0) m.Value d)

abbrev pub key_given : Data → Edit
key_given d = SetKey (text_at m.Action d) (path_given d) (whole_at (pos 0) m.Frame d) (whole_at (pos 0) m.Value d) (interp_given d)

abbrev pub unkey_given : Data → Edit
unkey_given d = DeleteKey (text_at m.Action d) (path_given d) (whole_at (pos 0) m.Frame d)

abbrev pub hidden_given : Data → Edit
hidden_given d = SetFlag (Hidden (text_at m.Pencil d) (text_at m.Layer d)) (truth_at false m.On d)

abbrev pub switch_given : Data → Edit
switch_given d = SetFlag (Switch (text_at m.Object d) (text_at m.Modifier d) (mode_of (text_at m.Switch d))) (truth_at false m.On d)

abbrev pub flag_given : Data → Edit
flag_given d = if is_of_layer d then hidden_given d else switch_given d

abbrev pub point_given : Data → Edit
point_given d =
    MovePoint (text_at m.Pencil d) (whole_at (pos 0) m.Drawing d) (whole_at (pos 0) m.Stroke d) (whole_at (pos 0) m.Point d) (whole3_at m.To d)

abbrev pub hold_given : Data → Edit
hold_given d = SetLayerKey (text_at m.Pencil d) (text_at m.Layer d) (whole_at (pos 0) m.Frame d) (whole_at (pos 0) m.Drawing d)

abbrev pub unhold_given : Data → Edit
unhold_given d = DeleteLayerKey (text_at m.Pencil d) (text_at m.Layer d) (whole_at (pos 0) m.Frame d)

abbrev pub set_parent_given : Data → Edit
set_parent_given d = SetParent (text_at m.Object d) (parent_given d)

abbrev pub set_driver_given : Data → Edit
set_driver_given d = SetDriver (id_given d) (path_given d) (driver_given d)

abbrev pub undriver_given : Data → Edit
undriver_given d = ClearDriver (id_given d) (path_given d)

abbrev pub add_given : Data → Edit
add_given d = AddObject (text_at m.Object d) (kind_given d)

abbrev pub remove_given : Data → Edit
remove_given d = RemoveObject (text_at m.Object d)

abbrev pub modify_given : Data → Edit
modify_given d =
    AddModifier (text_at m.Object d) (text_at m.Name d) (truth_at true m.Viewport d) (truth_at true m.Render d) (effect_given d)

abbrev pub unmodify_given : Data → Edit
unmodify_given d = RemoveModifier (text_at m.Object d) (text_at m.Modifier d)

-- by its word
abbrev pub edit_given : Data → Edit
edit_given d =
    if is_edit (codes "set") d then set_given d
    else (if is_edit (codes "key") d then key_given d
    else (if is_edit (codes "unkey") d then unkey_given d
    else (if is_edit (codes "flag") d then flag_given d
    else (if is_edit (codes "point") d then point_given d
    else (if is_edit (codes "hold") d then hold_given d
    else (if is_edit (codes "unhold") d then unhold_given d
    else (if is_edit (codes "parent") d then set_parent_given d
    else (if is_edit (codes "driver") d then set_driver_given d
    else (if is_edit (codes "undriver") d then undriver_given d
    else (if is_edit (codes "add") d then add_given d
    else (if is_edit (codes "remove") d then remove_given d
    else (if is_edit (codes "modify") d then modify_given d
    else unmodify_given d))))))))))))

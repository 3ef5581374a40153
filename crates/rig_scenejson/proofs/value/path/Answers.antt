use Rattle.std.proofs.Common.{◌≡◌, ◌++◌, Some, None, refl, arith}
use Rattle.serde_json.specs.Data.{Data}
use Rattle.serde_json.specs.View.{view}
use Rattle.rig_scene.specs.declared.path.Path.TheVariants.{Layer}
use Rattle.rig_scenejson.specs.declared.member.Member.TheVariants as m
use Rattle.rig_scenejson.specs.Given.{axis_given, path_given}
use Rattle.rig_scenejson.specs.PassOne.{path_faults}
use Rattle.rig_scenejson.specs.Paths.{axis_faults}
use Rattle.rig_scenejson.specs.Tests.{field, in_member}
use Rattle.rig_scenejson.specs.Value.{text_of, name_faults}
use Rattle.rig_scenejson.proofs.value.path.Goals as goal

-- the path of a record with a layer and no bone
layer_given : (d layer : Data) → field m.Bone d ≡ None → field m.Layer d ≡ Some layer → path_given d ≡ Layer (text_of layer) (axis_given d)
layer_given d layer none some = rw (none, some) refl

layer_faults : (d layer : Data) → field m.Bone d ≡ None → field m.Layer d ≡ Some layer → path_faults d ≡ in_member m.Layer (name_faults layer) ++ axis_faults d
layer_faults d layer none some = rw (none, some) refl

pub returns-in-Some-field : goal.returns-in-Some-field
returns-in-Some-field c =
    let d = view c.args.value.now in
    let none : field m.Bone d ≡ None = grind arith in
    let some : field m.Layer d ≡ Some (view c.in-Some-field.layer.now) = grind arith in
    rw (layer_given d _ none some, layer_faults d _ none some) c.layer_path.ensures

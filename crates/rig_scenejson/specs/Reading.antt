-- Reading a scene: all its tests in order, and the scene that an input gives where none fails.
use Rattle.std.specs.Prelude.{List, ◌++◌, unwrap_or}
use Rattle.serde_json.specs.Data.{Data, null}
use Rattle.rig_scene.specs.Scene.{SceneRecord}
use Rattle.rig_scenejson.specs.declared.fault.Fault.{Fault}
use Rattle.rig_scenejson.specs.declared.member.Member.TheVariants as m
use Rattle.rig_scenejson.specs.Tests.{field, required}
use Rattle.rig_scenejson.specs.Value.{record_faults}
use Rattle.rig_scenejson.specs.Given.{scene_given}
use Rattle.rig_scenejson.specs.PassOne.{pass_one, catalog_of}
use Rattle.rig_scenejson.specs.PassTwo.{pass_two}

-- the faults of a scene: those of the first pass, then those of the second
abbrev pub scene_faults : Data → List Fault
scene_faults d = pass_one d ++ pass_two (catalog_of d) d

-- the faults of an input that concern its scene
abbrev pub input_faults : Data → List Fault
input_faults d = record_faults d ++ required m.Scene scene_faults d

-- the scene that an input gives
abbrev pub scene_of_input : Data → SceneRecord
scene_of_input d = scene_given (catalog_of (unwrap_or (field m.Scene d) null)) (unwrap_or (field m.Scene d) null)

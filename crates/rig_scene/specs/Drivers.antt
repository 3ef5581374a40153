-- Which channels are driven, and the paths of each id in their order.
use Rattle.std.specs.Prelude.{ℕ, ◌&&◌, List, filter, slice_get, Bool, Option, option_and_then, is_some}
use Rattle.std.specs.List.{find}
use Rattle.rig_scene.specs.declared.id.AnimId.{AnimId}
use Rattle.rig_scene.specs.declared.id.AnimId.TheVariants as anim
use Rattle.rig_scene.specs.declared.path.Path.{Path}
use Rattle.rig_scene.specs.declared.driver.Driver.{Driver}
use Rattle.rig_scene.specs.Id.{same_id}
use Rattle.rig_scene.specs.Path.{same_path}
use Rattle.rig_scene.specs.Scene.{SceneRecord, object_of}

-- the drivers of an id, in the order of the scene's list
abbrev pub drivers_of : SceneRecord → AnimId → List Driver
drivers_of scene id = filter (λ d. same_id d.id id) scene.drivers

-- the driver of a channel, where it has one
abbrev pub driver_of : SceneRecord → AnimId → Path → Option Driver
driver_of scene id path = find (λ d. same_id d.id id && same_path d.path path) scene.drivers

abbrev pub is_driven : SceneRecord → AnimId → Path → Bool
is_driven scene id path = is_some (driver_of scene id path)

-- the driven ones of an id's paths, in order
abbrev pub driven_paths : SceneRecord → AnimId → List Path → List Path
driven_paths scene id paths = filter (is_driven scene id) paths

-- the index of an id's action, where it has one
abbrev pub action_index : SceneRecord → AnimId → Option ℕ
action_index scene (anim.Object o) = option_and_then (λ object. object.action) (object_of scene o)
action_index scene (anim.Pencil p) = option_and_then (λ pencil. pencil.action) (slice_get scene.pencils p)

abbrev pub has_action : SceneRecord → AnimId → Bool
has_action scene id = is_some (action_index scene id)

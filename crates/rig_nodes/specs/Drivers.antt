-- The drivers of a scene by what they drive.
use Rattle.std.specs.Prelude.{ℕ, List, ◌++◌, length, map, filter}
use Rattle.std.specs.List.{range_with_len, enumerate_from}
use Rattle.rig_scene.specs.declared.id.AnimId.{AnimId}
use Rattle.rig_scene.specs.declared.id.AnimId.TheVariants as anim
use Rattle.rig_scene.specs.Id.{same_id}
use Rattle.rig_scene.specs.Scene.{SceneRecord}

-- the indices of the drivers of an id in the scene's list, in order
abbrev pub driver_indices : SceneRecord → AnimId → List ℕ
driver_indices scene id = map (λ e. e.0) (filter (λ e. same_id e.1.id id) (enumerate_from 0 scene.drivers))

-- a row for each pencil in order, then one for each object in order: the indices of its drivers
abbrev pub driver_rows : SceneRecord → List (List ℕ)
driver_rows scene =
    map (λ p. driver_indices scene (anim.Pencil p)) (range_with_len 0 (length scene.pencils))
    ++ map (λ o. driver_indices scene (anim.Object o.id)) scene.objects

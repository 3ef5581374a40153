-- Where a driver stands among others, or is to be put.
use Rattle.std.specs.Prelude.{◌≡◌, ℕ, ◌<◌, ◌&&◌, List, [], ◌∷◌, ◌++◌, length, slice_set, Option, None, Some, IfSome}
use Rattle.std.specs.List.{position}
use Rattle.rig_scene.specs.declared.driver.Driver.{Driver}
use Rattle.rig_scene.specs.declared.path.Path.{Path}
use Rattle.rig_scene.specs.Id.{same_id}
use Rattle.rig_scene.specs.Path.{same_path}
use Rattle.rig_scene.specs.Scene.{SceneRecord}
use Rattle.rig_edits.specs.declared.driver.DriverPlace.{DriverPlace}
use Rattle.rig_edits.specs.declared.edit.IdName.{IdName}
use Rattle.rig_edits.specs.Named.{id_of}

-- the id that is meant, and the index of the driver of its path, where there is one
pub record IsDriverPlace (s : SceneRecord) (id : IdName) (path : Path) (place : DriverPlace) : Type 0 where
  pub is_id : id_of s id ≡ Some place.id
  pub is_position : position (λ d. same_id d.id place.id && same_path d.path path) s.drivers ≡ place.index
  pub within : IfSome place.index (λ i. i < length s.drivers)

-- a driver in the place of the one at an index, or behind all others
abbrev pub put_at : Option ℕ → Driver → List Driver → List Driver
put_at None driver drivers = drivers ++ driver ∷ []
put_at (Some index) driver drivers = slice_set drivers index driver

-- The drivers of a scene by the id that they drive: a slot for each pencil, and then one for each object.
use Rattle.std.specs.Prelude.{ℕ, ◌+◌, List, [], ◌∷◌, length, map, slice_get, Bool, nat_lt}
use Rattle.std.specs.List.{flat_map}
use Rattle.std.specs.Option.{option_map_or}
use Rattle.rig_rows.specs.Rows.{grouped}
use Rattle.rig_scene.specs.declared.driver.Driver.{Driver}
use Rattle.rig_scene.specs.declared.id.AnimId.{AnimId}
use Rattle.rig_scene.specs.declared.id.AnimId.TheVariants.{Object, Pencil}
use Rattle.rig_scene.specs.declared.quantity.Quantity.{Quantity}
use Rattle.rig_scene.specs.declared.quantity.Quantity.TheVariants.{Chan}
use Rattle.rig_scene.specs.Scene.{SceneRecord}
use Rattle.rig_scene.specs.WellFormed.{has_object}
use Rattle.rig_quantities.specs.Find.{object_index}

-- whether a scene has the object or the pencil of an id
abbrev pub has_id : SceneRecord → AnimId → Bool
has_id scene (Object o) = has_object scene o
has_id scene (Pencil p) = nat_lt p (length scene.pencils)

-- the number of an id among the pencils and then the objects
abbrev pub slot : SceneRecord → AnimId → ℕ
slot scene (Object o) = length scene.pencils + object_index scene o
slot scene (Pencil p) = p

-- the indices of the drivers of each slot
abbrev pub driver_rows : SceneRecord → List (List ℕ)
driver_rows scene = grouped (length scene.pencils + length scene.objects) (map (λ d. slot scene d.id) scene.drivers)

-- the channels that the drivers of these indices drive
abbrev pub chans_at : List Driver → List ℕ → List Quantity
chans_at drivers indices = flat_map (λ i. option_map_or (λ d. Chan d.id d.path ∷ []) (slice_get drivers i) []) indices

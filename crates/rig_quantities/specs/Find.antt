-- Where the object of an id stands.
use Rattle.std.specs.Prelude.{ℕ, List, Option, Some, None, slice_get, option_and_then, nat_lt, if◌then◌else◌}
use Rattle.std.specs.List.{prefix_len}
use Rattle.rig_scene.specs.declared.id.ObjectId.{ObjectId}
use Rattle.rig_scene.specs.declared.object.Object.{Object}
use Rattle.rig_scene.specs.Id.{same_object}
use Rattle.rig_scene.specs.Scene.{SceneRecord}

-- how many objects at the front have lower ids: the index of the object of that id, where there is one, as ids rise
abbrev pub object_index : SceneRecord → ObjectId → ℕ
object_index scene id = prefix_len (λ o. nat_lt o.id.0 id.0) scene.objects

-- the object of an index, if it has the id
abbrev pub object_at : List Object → ℕ → ObjectId → Option Object
object_at objects index id = option_and_then (λ o. if same_object o.id id then Some o else None) (slice_get objects index)

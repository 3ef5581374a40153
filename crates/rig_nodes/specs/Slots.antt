-- Which row each id has.
use Rattle.std.specs.Prelude.{ℕ, ◌+◌, length, nat_lt}
use Rattle.std.specs.List.{prefix_len}
use Rattle.rig_scene.specs.declared.id.AnimId.{AnimId}
use Rattle.rig_scene.specs.declared.id.AnimId.TheVariants as anim
use Rattle.rig_scene.specs.Scene.{SceneRecord}

-- the row of an id: a pencil's index, and behind the pencils the number of objects with lower ids
abbrev pub slot_of : SceneRecord → AnimId → ℕ
slot_of scene (anim.Pencil p) = p
slot_of scene (anim.Object id) = length scene.pencils + prefix_len (λ o. nat_lt o.id.0 id.0) scene.objects

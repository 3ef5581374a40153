-- Which object has a name.
use Rattle.std.specs.Prelude.{ℕ, List, Option, option_map}
use Rattle.std.specs.List.{find}
use Rattle.rig_scene.specs.declared.id.ObjectId.{ObjectId}
use Rattle.rig_scene.specs.declared.object.Object.{Object}
use Rattle.rig_scene.specs.Text.{same_text}

-- the id of the object of a name
abbrev pub id_named : List ℕ → List Object → Option ObjectId
id_named name objects = option_map (λ o. o.id) (find (λ o. same_text o.name name) objects)

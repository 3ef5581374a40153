-- Ids, and which are the same.
use Rattle.std.specs.Prelude.{◌==◌, Bool, false}
use Rattle.rig_scene.specs.declared.id.AnimId.{AnimId}
use Rattle.rig_scene.specs.declared.id.AnimId.TheVariants.{Object, Pencil}
use Rattle.rig_scene.specs.declared.id.ObjectId.{ObjectId}

-- whether two ids are of one object
abbrev pub same_object : ObjectId → ObjectId → Bool
same_object a b = a.0 == b.0

-- whether two ids are of one object, or of one pencil
abbrev pub same_id : AnimId → AnimId → Bool
same_id (Object a) (Object b) = same_object a b
same_id (Pencil a) (Pencil b) = a == b
same_id a b = false

-- What is found by an id or a path has that id or path.
use Rattle.std.specs.Prelude.{◌≡◌, Some, Contains}
use Rattle.rig_scene.specs.declared.id.ObjectId.{ObjectId}
use Rattle.rig_scene.specs.declared.object.Object.{Object}
use Rattle.rig_scene.specs.Scene.{SceneRecord, object_of}
use Rattle.rig_scene.specs.Id.{same_object}
use Rattle.rig_scene.specs.Same.{same_object-equal}
use Rattle.rig_laws.specs.Lists.{find-Some}

-- the object of an id has it
pub found_id : (s : SceneRecord) (o : ObjectId) (object : Object) → object_of s o ≡ Some object → object.id ≡ o
found_id s o object is = same_object-equal object.id o (find-Some (λ x. same_object x.id o) s.objects object is).1

pub found_object : (s : SceneRecord) (o : ObjectId) (object : Object) → object_of s o ≡ Some object → Contains s.objects object
found_object s o object is = (find-Some (λ x. same_object x.id o) s.objects object is).0

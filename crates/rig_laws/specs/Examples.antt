-- Small records for examples.
use Rattle.std.specs.Prelude.{ℕ, ◌+◌, ◌*◌, pos, [], ◌∷◌, codes, Some, None}
use Rattle.rig_scene.specs.declared.object.Kind.TheVariants as kind
use Rattle.rig_scene.specs.declared.operation.OpId.{OpId}
use Rattle.rig_scene.specs.declared.operation.OpId.TheVariants.{Driver, Local, World}
use Rattle.rig_scene.specs.Examples.{object, channels_at, empty_object, scene_of}
use Rattle.rig_scene.specs.Scene.{SceneRecord}

-- an object alone, at x 5
abbrev pub alone : SceneRecord
alone = scene_of [] (empty_object 0 (codes "A") (channels_at (pos 5) (pos 0) (pos 0)) None None ∷ []) []

-- no scene: an armature object whose one bone is its own parent
abbrev pub own_parent : SceneRecord
own_parent = record {
  actions = [];
  armatures =
      record { name = codes "a"; bones = record { name = codes "b"; parent = Some 0; rest = channels_at (pos 0) (pos 0) (pos 0) } ∷ [] }
      ∷ [];
  pencils = [];
  objects =
      record {
        id = object 0;
        name = codes "A";
        own = channels_at (pos 0) (pos 0) (pos 0);
        action = None;
        parent = None;
        kind = kind.Armature 0 (channels_at (pos 0) (pos 0) (pos 0) ∷ []);
      } ∷ [];
  drivers = [];
  next = 1;
}

-- numbers of the operations of a scene with empty objects and one driver
abbrev pub numbered : OpId → ℕ
numbered (Driver id path) = 1
numbered (Local o) = 2 + 2 * o.0
numbered (World o) = 3 + 2 * o.0
numbered op = 0

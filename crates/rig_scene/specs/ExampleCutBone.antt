-- A bone that follows what it carries: its driver reads an object in the world whose parent is the bone.
use Rattle.std.specs.Prelude.{pos, [], ◌∷◌, codes, Some, None}
use Rattle.rig_scene.specs.declared.channel.Channel.TheVariants.{LocX}
use Rattle.rig_scene.specs.declared.driver.DriverKind.TheVariants.{Sum}
use Rattle.rig_scene.specs.declared.driver.Space.TheVariants as space
use Rattle.rig_scene.specs.declared.driver.Variable.TheVariants as variable
use Rattle.rig_scene.specs.declared.id.AnimId.TheVariants as anim
use Rattle.rig_scene.specs.declared.object.Kind.TheVariants as kind
use Rattle.rig_scene.specs.declared.path.Path.TheVariants as paths
use Rattle.rig_scene.specs.Examples.{object, channels_at, empty_object, upper_bone}
use Rattle.rig_scene.specs.Scene.{SceneRecord}

-- An armature object 0 at x 5 with one bone, whose x is the sum of x of object 1 in the world and its x channel; object 1
-- at x 7 is carried by the bone.
abbrev pub cut_bone : SceneRecord
cut_bone = record {
  actions = [];
  armatures = record { name = codes "a"; bones = upper_bone ∷ [] } ∷ [];
  pencils = [];
  objects =
      record {
        id = object 0;
        name = codes "A";
        own = channels_at (pos 5) (pos 0) (pos 0);
        action = None;
        parent = None;
        kind = kind.Armature 0 (channels_at (pos 0) (pos 0) (pos 0) ∷ []);
      }
      ∷ empty_object 1 (codes "B") (channels_at (pos 7) (pos 0) (pos 0)) None (Some (record { object = object 0; bone = Some 0 }))
      ∷ [];
  drivers = record {
    id = anim.Object (object 0);
    path = paths.Bone (codes "b") LocX;
    kind = Sum;
    variables = variable.Transform (object 1) space.World LocX ∷ variable.Property (anim.Object (object 1)) (paths.Own LocX) ∷ [];
  } ∷ [];
  next = 2;
}

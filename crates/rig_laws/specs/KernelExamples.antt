-- Short ways to write what an operation takes, and a scene whose driver takes one channel twice.
use Rattle.std.specs.Prelude.{pos, List, [], ◌∷◌, codes, replicate, false, None}
use Rattle.rig_fixed.specs.Example.{v3_of}
use Rattle.rig_scene.specs.declared.channel.Channel.TheVariants.{LocX}
use Rattle.rig_scene.specs.declared.driver.DriverKind.TheVariants.{Sum}
use Rattle.rig_scene.specs.declared.driver.Space.TheVariants as space
use Rattle.rig_scene.specs.declared.driver.Variable.TheVariants as variable
use Rattle.rig_scene.specs.declared.id.AnimId.TheVariants as anim
use Rattle.rig_scene.specs.declared.operation.OpId.{OpId}
use Rattle.rig_scene.specs.declared.path.Path.TheVariants as paths
use Rattle.rig_scene.specs.declared.pencil.Stroke.{Stroke}
use Rattle.rig_scene.specs.Examples.{object, channels_at, empty_object, scene_of, driven_x}
use Rattle.rig_scene.specs.Scene.{SceneRecord}
use Rattle.rig_scene.specs.Value.{Value}
use Rattle.rig_laws.specs.Output.{Output}

-- what an operation gave
abbrev pub gave : OpId → Value → Output
gave op value = record { op = op; value = value; is_rest = false }

-- an object whose x is twice that of another, which is driven as well
abbrev pub twice_the_other : SceneRecord
twice_the_other = scene_of []
    (empty_object 0 (codes "A") (channels_at (pos 0) (pos 0) (pos 0)) None None
    ∷ empty_object 1 (codes "B") (channels_at (pos 0) (pos 0) (pos 0)) None None
    ∷ empty_object 2 (codes "C") (channels_at (pos 8) (pos 0) (pos 0)) None None ∷ [])
    (driven_x 0 (variable.Transform (object 2) space.World LocX)
    ∷ record {
      id = anim.Object (object 1);
      path = paths.Own LocX;
      kind = Sum;
      variables =
          variable.Property (anim.Object (object 0)) (paths.Own LocX)
          ∷ variable.Property (anim.Object (object 0)) (paths.Own LocX) ∷ [];
    } ∷ [])

-- one point more than the geometry of an object has room for
abbrev pub too_many : List Stroke
too_many = record { points = replicate 16385 (v3_of (pos 0) (pos 0) (pos 0)) } ∷ []

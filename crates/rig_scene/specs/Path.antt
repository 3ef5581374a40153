-- Paths of channels, and which are the same.
use Rattle.std.specs.Prelude.{◌&&◌, Bool, false}
use Rattle.rig_scene.specs.declared.path.Path.{Path}
use Rattle.rig_scene.specs.declared.path.Path.TheVariants.{Own, Bone, Layer}
use Rattle.rig_scene.specs.Channel.{same_channel, same_axis}
use Rattle.rig_scene.specs.Text.{same_text}

abbrev pub same_path : Path → Path → Bool
same_path (Own a) (Own b) = same_channel a b
same_path (Bone m a) (Bone n b) = same_text m n && same_channel a b
same_path (Layer m a) (Layer n b) = same_text m n && same_axis a b
same_path p q = false

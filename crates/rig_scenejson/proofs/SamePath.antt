-- Paths that compare as equal are the same.
use Rattle.std.proofs.Common.{◌≡◌, ◌&&◌, refl, ap}
use Rattle.std.proofs.Math.Path.{fun_ext}
use Rattle.rig_scene.specs.contracts.channel.ChannelPartialEq.TheImpl as channel
use Rattle.rig_scene.specs.contracts.channel.AxisPartialEq.TheImpl as axis
use Rattle.rig_scene.specs.contracts.path.PathPartialEq.TheImpl.{eq-value}
use Rattle.rig_scene.specs.declared.channel.Axis.{Axis}
use Rattle.rig_scene.specs.declared.channel.Axis.TheVariants.{X, Y, Z}
use Rattle.rig_scene.specs.declared.channel.Channel.{Channel}
use Rattle.rig_scene.specs.declared.channel.Channel.TheVariants.{LocX, LocY, LocZ, RotW, RotX, RotY, RotZ, Scale}
use Rattle.rig_scene.specs.declared.path.Path.{Path}
use Rattle.rig_scene.specs.declared.path.Path.TheVariants.{Own, Bone, Layer}
use Rattle.rig_scene.specs.Channel.{same_channel, same_axis}
use Rattle.rig_scene.specs.Path.{same_path}
use Rattle.rig_scene.specs.Text.{same_text}

equal-channel : (a b : Channel) → channel.eq-value.it a b ≡ same_channel a b
equal-channel LocX LocX = refl
equal-channel LocY LocY = refl
equal-channel LocZ LocZ = refl
equal-channel RotW RotW = refl
equal-channel RotX RotX = refl
equal-channel RotY RotY = refl
equal-channel RotZ RotZ = refl
equal-channel Scale Scale = refl
equal-channel a b = refl

equal-axis : (a b : Axis) → axis.eq-value.it a b ≡ same_axis a b
equal-axis X X = refl
equal-axis Y Y = refl
equal-axis Z Z = refl
equal-axis a b = refl

pub equal_same_path : (p q : Path) → (eq-value).it p q ≡ same_path p q
equal_same_path (Own a) (Own b) = equal-channel a b
equal_same_path (Bone m a) (Bone n b) = ap (λ same. same_text m n && same) (equal-channel a b)
equal_same_path (Layer m a) (Layer n b) = ap (λ same. same_text m n && same) (equal-axis a b)
equal_same_path p q = refl

-- the comparison of a path with others
pub equal_path : (p : Path) → (eq-value).it p ≡ same_path p
equal_path p = fun_ext (equal_same_path p)

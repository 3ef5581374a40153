-- That two channels, or two axes, are the same exactly where their places are.
use Rattle.std.proofs.Common.{◌≡◌, refl}
use Rattle.std.specs.Prelude.{◌==◌}
use Rattle.rig_scene.specs.declared.channel.Axis.{Axis}
use Rattle.rig_scene.specs.declared.channel.Axis.TheVariants.{X, Y, Z}
use Rattle.rig_scene.specs.declared.channel.Channel.{Channel}
use Rattle.rig_scene.specs.declared.channel.Channel.TheVariants.{LocX, LocY, LocZ, RotW, RotX, RotY, RotZ, Scale}
use Rattle.rig_scene.specs.Channel.{same_channel, same_axis}
use Rattle.rig_kernel.specs.Driven.{channel_place, axis_place}

pub same_channel_place : (a b : Channel) → same_channel a b ≡ (channel_place b == channel_place a)
same_channel_place LocX LocX = refl
same_channel_place LocX LocY = refl
same_channel_place LocX LocZ = refl
same_channel_place LocX RotW = refl
same_channel_place LocX RotX = refl
same_channel_place LocX RotY = refl
same_channel_place LocX RotZ = refl
same_channel_place LocX Scale = refl
same_channel_place LocY LocX = refl
same_channel_place LocY LocY = refl
same_channel_place LocY LocZ = refl
same_channel_place LocY RotW = refl
same_channel_place LocY RotX = refl
same_channel_place LocY RotY = refl
same_channel_place LocY RotZ = refl
same_channel_place LocY Scale = refl
same_channel_place LocZ LocX = refl
same_channel_place LocZ LocY = refl
same_channel_place LocZ LocZ = refl
same_channel_place LocZ RotW = refl
same_channel_place LocZ RotX = refl
same_channel_place LocZ RotY = refl
same_channel_place LocZ RotZ = refl
same_channel_place LocZ Scale = refl
same_channel_place RotW LocX = refl
same_channel_place RotW LocY = refl
same_channel_place RotW LocZ = refl
same_channel_place RotW RotW = refl
same_channel_place RotW RotX = refl
same_channel_place RotW RotY = refl
same_channel_place RotW RotZ = refl
same_channel_place RotW Scale = refl
same_channel_place RotX LocX = refl
same_channel_place RotX LocY = refl
same_channel_place RotX LocZ = refl
same_channel_place RotX RotW = refl
same_channel_place RotX RotX = refl
same_channel_place RotX RotY = refl
same_channel_place RotX RotZ = refl
same_channel_place RotX Scale = refl
same_channel_place RotY LocX = refl
same_channel_place RotY LocY = refl
same_channel_place RotY LocZ = refl
same_channel_place RotY RotW = refl
same_channel_place RotY RotX = refl
same_channel_place RotY RotY = refl
same_channel_place RotY RotZ = refl
same_channel_place RotY Scale = refl
same_channel_place RotZ LocX = refl
same_channel_place RotZ LocY = refl
same_channel_place RotZ LocZ = refl
same_channel_place RotZ RotW = refl
same_channel_place RotZ RotX = refl
same_channel_place RotZ RotY = refl
same_channel_place RotZ RotZ = refl
same_channel_place RotZ Scale = refl
same_channel_place Scale LocX = refl
same_channel_place Scale LocY = refl
same_channel_place Scale LocZ = refl
same_channel_place Scale RotW = refl
same_channel_place Scale RotX = refl
same_channel_place Scale RotY = refl
same_channel_place Scale RotZ = refl
same_channel_place Scale Scale = refl

pub same_axis_place : (a b : Axis) → same_axis a b ≡ (axis_place b == axis_place a)
same_axis_place X X = refl
same_axis_place X Y = refl
same_axis_place X Z = refl
same_axis_place Y X = refl
same_axis_place Y Y = refl
same_axis_place Y Z = refl
same_axis_place Z X = refl
same_axis_place Z Y = refl
same_axis_place Z Z = refl

-- The curves of channels and of axes, by index.
use Rattle.std.specs.Prelude.{ℕ, Bool, Option, Some, None, if◌then◌else◌}
use Rattle.rig_kernel.specs.declared.channel_curves.AxisCurves.{AxisCurves}
use Rattle.rig_kernel.specs.declared.channel_curves.ChannelCurves.{ChannelCurves}
use Rattle.rig_scene.specs.declared.channel.Axis.{Axis}
use Rattle.rig_scene.specs.declared.channel.Axis.TheVariants.{X, Y, Z}
use Rattle.rig_scene.specs.declared.channel.Channel.{Channel}
use Rattle.rig_scene.specs.declared.channel.Channel.TheVariants.{LocX, LocY, LocZ, RotW, RotX, RotY, RotZ, Scale}

-- the index of the curve of a channel, where it has one
abbrev pub channel_curve : ChannelCurves → Channel → Option ℕ
channel_curve curves LocX = curves.loc_x
channel_curve curves LocY = curves.loc_y
channel_curve curves LocZ = curves.loc_z
channel_curve curves RotW = curves.rot_w
channel_curve curves RotX = curves.rot_x
channel_curve curves RotY = curves.rot_y
channel_curve curves RotZ = curves.rot_z
channel_curve curves Scale = curves.scale

-- the index of the curve of an axis, where it has one
abbrev pub axis_curve : AxisCurves → Axis → Option ℕ
axis_curve curves X = curves.x
axis_curve curves Y = curves.y
axis_curve curves Z = curves.z

-- what was found, or else an index where a test passes
abbrev pub found_or : Option ℕ → Bool → ℕ → Option ℕ
found_or (Some found) test index = Some found
found_or None test index = if test then Some index else None

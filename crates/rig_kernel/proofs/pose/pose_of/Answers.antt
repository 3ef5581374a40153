use Rattle.std.proofs.Common.{ap, drop, ◌∙◌}
use Rattle.rig_scene.specs.declared.channel.Channels.{Channels}
use Rattle.rig_scene.specs.Channel.{channels_by, channel_of}
use Rattle.rig_scene.specs.ChannelNumber.{number_by}
use Rattle.rig_scene.specs.Pose.{transform_of}
use Rattle.rig_scene.specs.declared.path.Path.TheVariants as paths
use Rattle.std.specs.Prelude.{option_and_then}
use Rattle.rig_kernel.specs.Driven.{channels_from, channel_place, driven_among}
use Rattle.rig_kernel.specs.Tables.{curve_at}
use Rattle.rig_kernel.proofs.pose.pose_of.Goals as goal

pub returns : goal.returns
returns g c =
    let outs = g.I.Inputs.list c.args.inputs.now in
    c.local_of.ensures ∙ ap (λ (channels : Channels). transform_of channels) c.channels_from.ensures
    ∙ (λ i. transform_of (channels_by (λ channel. number_by (driven_among c.driver_count-drivers.result (drop 1 outs) (channel_place channel))
    (c.bone_curves-curves.ensures channel i) (channel_of c.args.pose.now channel))))
    ∙ (λ i. transform_of (channels_from (λ channel. option_and_then (λ a. curve_at c.args.tables.now a (paths.Bone c.args.bone.now.name channel)) c.args.action)
    (c.numbers_at-numbers.ensures i) (c.driver_count-drivers.ensures.count i) (drop 1 outs) c.args.pose.now))

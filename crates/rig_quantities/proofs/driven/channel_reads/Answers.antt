use Rattle.std.proofs.Common.{◌∙◌, ◌≡◌, ap, arith, length}
use Rattle.std.specs.Option.{option_copied}
use Rattle.rig_quantities.proofs.Picked.{channel_step}
use Rattle.rig_quantities.proofs.driven.channel_reads.Goals as goal

pub loop-channel-preserved : goal.loop-channel-preserved
loop-channel-preserved c =
    let count : length c.all-channel-items.result ≡ 8 = ap length c.all-channel-items.ensures in
    channel_step c.args.scene.now c.args.id (option_copied c.args.bone) c.all-channel-items.result c.as_slice.result.now c.loop-channel.channel-index _
    c.loop-channel.list c.add_channel.new.list _ (c.as_slice.ensures.value ∙ c.in_ok-driven.ensures) (omega arith) c.in_ok-add_channel.ensures c.loop-channel.invariant

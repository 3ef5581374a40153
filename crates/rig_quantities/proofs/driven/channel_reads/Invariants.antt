use Rattle.std.proofs.Common.{◌≡◌, ◌++◌, drop, map}
use Rattle.std.specs.Option.{option_copied}
use Rattle.rig_scene.specs.declared.id.AnimId.TheVariants as anim
use Rattle.rig_scene.specs.Channel.{channels}
use Rattle.rig_scene.specs.Quantities.{driven_reads}
use Rattle.rig_quantities.specs.Part.{channel_path}
use Rattle.rig_quantities.proofs.driven.channel_reads.Given as goal

abbrev pub invariant-loop-channel : goal.invariant-loop-channel
invariant-loop-channel l =
    l.list ++ driven_reads l.scene (anim.Object l.id) (map (channel_path (option_copied l.bone)) (drop l.channel-index l.channel-items))
    ≡ driven_reads l.scene (anim.Object l.id) (map (channel_path (option_copied l.bone)) channels)

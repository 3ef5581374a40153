use Rattle.std.proofs.Common.{◌≡◌, ◌++◌, drop, map}
use Rattle.rig_scene.specs.declared.id.AnimId.TheVariants as anim
use Rattle.rig_scene.specs.declared.path.Path.TheVariants as path
use Rattle.rig_scene.specs.Channel.{channels}
use Rattle.rig_links.specs.Parts.{driven}
use Rattle.rig_links.proofs.driven.push_bone_channels.Given as goal

abbrev pub invariant-loop-channel : goal.invariant-loop-channel
invariant-loop-channel l =
    l.links.items ++ driven l.scene l.reader (anim.Object l.object) (map (path.Bone l.bone) (drop l.channel-index l.channel-items))
    ≡ l.initial.links.items ++ driven l.scene l.reader (anim.Object l.object) (map (path.Bone l.bone) channels)

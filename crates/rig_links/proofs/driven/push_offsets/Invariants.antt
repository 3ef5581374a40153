use Rattle.std.proofs.Common.{◌≡◌, ◌++◌, drop, map}
use Rattle.rig_scene.specs.declared.id.AnimId.TheVariants as anim
use Rattle.rig_scene.specs.declared.path.Path.TheVariants as path
use Rattle.rig_scene.specs.Channel.{axes}
use Rattle.rig_links.specs.Parts.{driven}
use Rattle.rig_links.proofs.driven.push_offsets.Given as goal

abbrev pub invariant-loop-axis : goal.invariant-loop-axis
invariant-loop-axis l =
    l.links.items ++ driven l.scene l.reader (anim.Pencil l.pencil) (map (path.Layer l.layer) (drop l.axis-index l.axis-items))
    ≡ l.initial.links.items ++ driven l.scene l.reader (anim.Pencil l.pencil) (map (path.Layer l.layer) axes)

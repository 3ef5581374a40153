use Rattle.std.proofs.Common.{◌≡◌, ◌++◌, drop, map}
use Rattle.rig_scene.specs.declared.id.AnimId.TheVariants as anim
use Rattle.rig_scene.specs.declared.path.Path.TheVariants as path
use Rattle.rig_scene.specs.Channel.{axes}
use Rattle.rig_scene.specs.Quantities.{driven_reads}
use Rattle.rig_quantities.proofs.driven.axis_reads.Given as goal

abbrev pub invariant-loop-axis : goal.invariant-loop-axis
invariant-loop-axis l =
    l.list ++ driven_reads l.scene (anim.Pencil l.pencil) (map (path.Layer l.layer) (drop l.axis-index l.axis-items))
    ≡ driven_reads l.scene (anim.Pencil l.pencil) (map (path.Layer l.layer) axes)

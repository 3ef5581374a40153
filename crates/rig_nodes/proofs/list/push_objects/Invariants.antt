use Rattle.std.proofs.Common.{◌≡◌, ◌++◌, drop}
use Rattle.std.specs.List.{flat_map}
use Rattle.rig_scene.specs.Operations.{object_operations}
use Rattle.rig_nodes.proofs.list.push_objects.Given as goal

abbrev pub invariant-loop-index : goal.invariant-loop-index
invariant-loop-index l =
    l.ops.items ++ flat_map (object_operations l.scene) (drop l.index l.object-items)
    ≡ l.initial.ops.items ++ flat_map (object_operations l.scene) l.object-items

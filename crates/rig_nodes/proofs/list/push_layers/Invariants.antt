use Rattle.std.proofs.Common.{◌≡◌, ◌++◌, map}
use Rattle.std.specs.List.{range_with_len}
use Rattle.rig_scene.specs.declared.operation.OpId.TheVariants.{Layer}
use Rattle.rig_nodes.proofs.list.push_layers.Given as goal

abbrev pub invariant-loop-layer : goal.invariant-loop-layer
invariant-loop-layer l = l.ops.items ≡ l.initial.ops.items ++ map (Layer l.p) (range_with_len 0 l.layer)

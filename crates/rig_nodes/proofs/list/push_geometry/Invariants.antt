use Rattle.std.proofs.Common.{◌≡◌, ◌++◌, map}
use Rattle.std.specs.List.{range_with_len}
use Rattle.rig_scene.specs.declared.operation.OpId.TheVariants.{ModifierOp}
use Rattle.rig_nodes.proofs.list.push_geometry.Given as goal

abbrev pub invariant-loop-before : goal.invariant-loop-before
invariant-loop-before l = l.ops.items ≡ l.initial.ops.items ++ map (ModifierOp l.id) (range_with_len 1 l.before)

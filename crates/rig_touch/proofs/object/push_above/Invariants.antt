use Rattle.std.proofs.Common.{◌≡◌, ◌++◌, map}
use Rattle.std.specs.List.{range_with_len}
use Rattle.rig_scene.specs.declared.operation.OpId.TheVariants as op
use Rattle.rig_touch.proofs.object.push_above.Given as goal

abbrev pub invariant-loop-above : goal.invariant-loop-above
invariant-loop-above l = l.ops ≡ l.initial.ops ++ map (op.ModifierOp l.o) (range_with_len l.first l.above)

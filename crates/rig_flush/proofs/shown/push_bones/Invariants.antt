use Rattle.std.proofs.Common.{◌≡◌, ◌++◌, map}
use Rattle.std.specs.List.{range_with_len}
use Rattle.rig_scene.specs.declared.operation.OpId.TheVariants.{Bone}
use Rattle.rig_flush.proofs.shown.push_bones.Given as goal

abbrev pub invariant-loop-bone : goal.invariant-loop-bone
invariant-loop-bone l = l.ops.items ≡ l.initial.ops.items ++ map (Bone l.id) (range_with_len 0 l.bone)

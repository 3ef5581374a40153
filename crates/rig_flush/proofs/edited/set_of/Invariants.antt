use Rattle.std.proofs.Common.{◌≡◌, take}
use Rattle.rig_scene.specs.declared.operation.OpId.{OpId}
use Rattle.rig_flush.specs.Retag.{is_one_of}
use Rattle.rig_flush.proofs.edited.set_of.Given as goal

abbrev pub invariant-loop-op : goal.invariant-loop-op
invariant-loop-op l = (op : OpId) → is_one_of l.set op ≡ is_one_of (take l.op-index l.ops) op

use Rattle.std.proofs.Common.{◌≡◌, ◌≤◌, Contains}
use Rattle.slab.specs.Slab.{slab_len}
use Rattle.rig_scene.specs.declared.operation.OpId.{OpId}
use Rattle.rig_copies.specs.Keys.{kept_under, key_for}
use Rattle.rig_copies.proofs.keys.remove_gone.Given as goal

abbrev pub invariant-loop-n : goal.invariant-loop-n
invariant-loop-n l = record {
  kept : (op : OpId) → Contains l.new op → kept_under l.outs (key_for l.old l.keys op) ≡ kept_under l.initial.outs (key_for l.old l.keys op);
  len : slab_len l.outs ≤ slab_len l.initial.outs;
  capacity : l.outs.capacity ≡ l.initial.outs.capacity;
}

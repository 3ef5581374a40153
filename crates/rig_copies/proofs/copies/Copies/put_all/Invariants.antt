use Rattle.std.proofs.Common.{◌≡◌, ◌+◌, ◌≤◌, drop, length}
use Rattle.std.specs.Vec.Iter.{into_iter_items, into_iter_len}
use Rattle.rig_copies.specs.Copies.{put_each}
use Rattle.rig_copies.proofs.copies.Copies.put_all.Given as goal

abbrev pub invariant-loop-node : goal.invariant-loop-node
invariant-loop-node l = record {
  kept : put_each l.self.kept (drop l.node l.plan) (into_iter_items l.rest) ≡ put_each l.initial.self.kept l.plan (into_iter_items l.initial.rest);
  left : into_iter_len l.rest + l.node ≡ length l.plan;
  length : length l.self.kept ≡ length l.initial.self.kept;
  spare : l.initial.self.spare ≤ l.self.spare + l.node;
}

use Rattle.std.specs.Prelude.{slice_index, nat_eq, false}
use Rattle.std.specs.List.{list_any}
use Rattle.std.proofs.Common.{◌≡◌, ℕ, ◌<◌, ◌≤◌}
use Rattle.rig_cut.proofs.order.add_ready.Given as goal

abbrev pub invariant-loop-node : goal.invariant-loop-node
invariant-loop-node l = record {
  count : l.order.count ≡ l.initial.order.count;
  ready : (n : ℕ) → n < l.node → list_any (nat_eq n) l.order.members ≡ nat_eq (slice_index l.pending n) 0;
  later : (n : ℕ) → l.node ≤ n → list_any (nat_eq n) l.order.members ≡ false;
}

use Rattle.std.proofs.Common.{◌≡◌, ◌++◌, drop}
use Rattle.rig_quantities.specs.Slots.{chans_at}
use Rattle.rig_quantities.proofs.quantity.add_chans_at.Given as goal

abbrev pub invariant-loop-index : goal.invariant-loop-index
invariant-loop-index l =
    l.items.items ++ chans_at l.drivers (drop l.index-index l.indices) ≡ l.initial.items.items ++ chans_at l.drivers l.indices

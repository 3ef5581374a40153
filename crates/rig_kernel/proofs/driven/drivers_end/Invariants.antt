use Rattle.std.proofs.Common.{◌≡◌, ◌+◌, ◌-◌, drop}
use Rattle.rig_kernel.specs.Driven.{driver_count}
use Rattle.rig_kernel.proofs.driven.drivers_end.Given as goal

abbrev pub invariant-loop-index : goal.invariant-loop-index
invariant-loop-index g l =
    l.index + driver_count (l.end - l.index) (drop l.index (g.I.Inputs.list l.inputs))
    ≡ l.from + driver_count (l.end - l.from) (drop l.from (g.I.Inputs.list l.inputs))

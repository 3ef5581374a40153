use Rattle.std.proofs.Common.{◌≡◌, ◌-◌, drop}
use Rattle.rig_kernel.specs.Driven.{driven_among}
use Rattle.rig_kernel.proofs.driven.driven_until.Given as goal

abbrev pub invariant-loop-index : goal.invariant-loop-index
invariant-loop-index g l =
    driven_among (l.end - l.index) (drop l.index (g.I.Inputs.list l.inputs)) l.place
    ≡ driven_among (l.end - l.from) (drop l.from (g.I.Inputs.list l.inputs)) l.place

use Rattle.std.proofs.Common.{◌≡◌, ◌++◌, drop}
use Rattle.rig_kernel.specs.Joined.{layers_bring, joined}
use Rattle.rig_kernel.proofs.geometry.copies.Given as goal

abbrev pub invariant-loop-l : goal.invariant-loop-l
invariant-loop-l g l = l.new.items ++ joined (layers_bring (g.I.Inputs.list l.inputs) l.l (drop l.l l.layers)) ≡ joined (layers_bring (g.I.Inputs.list l.inputs) 0 l.layers)

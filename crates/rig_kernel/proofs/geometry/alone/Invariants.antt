use Rattle.std.proofs.Common.{◌≡◌, ◌++◌, [], drop, unwrap_or}
use Rattle.std.specs.Option.{option_copied}
use Rattle.rig_kernel.specs.Joined.{layers_bring, joined}
use Rattle.rig_kernel.proofs.geometry.alone.Given as goal

abbrev pub invariant-loop-l : goal.invariant-loop-l
invariant-loop-l g l = unwrap_or (option_copied l.found) [] ++ joined (layers_bring (g.I.Inputs.list l.inputs) l.l (drop l.l l.layers)) ≡ joined (layers_bring (g.I.Inputs.list l.inputs) 0 l.layers)

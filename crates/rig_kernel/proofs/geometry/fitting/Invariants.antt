use Rattle.std.proofs.Common.{◌≡◌, ◌+◌, drop}
use Rattle.rig_scene.specs.declared.limits.TheConstants.{MAX_RESULT_POINTS}
use Rattle.rig_kernel.specs.Joined.{layers_bring, fitting}
use Rattle.rig_kernel.proofs.geometry.fitting.Given as goal

abbrev pub invariant-loop-l : goal.invariant-loop-l
invariant-loop-l g l = record {
  whole : l.l + fitting l.room (layers_bring (g.I.Inputs.list l.inputs) l.l (drop l.l l.layers)) ≡ fitting MAX_RESULT_POINTS (layers_bring (g.I.Inputs.list l.inputs) 0 l.layers);
}

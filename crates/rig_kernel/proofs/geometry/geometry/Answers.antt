use Rattle.std.proofs.Common.{◌≡◌, Some, ℤ}
use Rattle.std.proofs.lemmas.Result.{IfOk-weaker}
use Rattle.rig_scene.specs.declared.limits.TheConstants.{MAX_RESULT_POINTS}
use Rattle.rig_scene.specs.declared.modifier.Mode.{Mode}
use Rattle.rig_scene.specs.declared.operation.OpId.TheVariants.{Geometry}
use Rattle.rig_scene.specs.Layer.{joined_within}
use Rattle.rig_scene.specs.Value.{Strokes}
use Rattle.rig_kernel.specs.Joined.{layers_bring}
use Rattle.rig_laws.specs.Kernel.{kernel}
use Rattle.rig_kernel.proofs.KernelOf.{geometry_is}
use Rattle.rig_kernel.proofs.geometry.geometry.Goals as goal

pub returns : goal.returns
returns g c =
    let s = c.args.scene.now in
    let o = c.args.o in
    let inputs = g.I.Inputs.list c.args.inputs.now in
    IfOk-weaker c.joined.result (λ strokes. strokes ≡ joined_within MAX_RESULT_POINTS (layers_bring inputs 0 c.as_slice.result.now))
    (λ strokes. (mode : Mode) (frame : ℤ) → kernel s mode frame (Geometry o) inputs ≡ Some (Strokes strokes))
    (λ strokes is mode frame. geometry_is s mode frame o inputs strokes c.pencil_of.result.now c.as_slice.result.now c.pencil_of.ensures c.as_slice.ensures is)
    c.joined.ensures

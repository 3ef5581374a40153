use Rattle.std.proofs.Common.{◌≡◌, Some, ℤ}
use Rattle.std.proofs.lemmas.Result.{IfOk-weaker}
use Rattle.rig_scene.specs.declared.modifier.Mode.{Mode}
use Rattle.rig_scene.specs.declared.operation.OpId.TheVariants.{GeometryDone}
use Rattle.rig_scene.specs.Value.{Strokes}
use Rattle.rig_laws.specs.Kernel.{kernel}
use Rattle.rig_laws.specs.Output.{strokes_at}
use Rattle.rig_kernel.proofs.KernelOf.{geometry_done_is}
use Rattle.rig_kernel.proofs.There.{geometry_done_object, is_there}
use Rattle.rig_kernel.proofs.geometry.geometry_done.Goals as goal

pub returns : goal.returns
returns g c =
    let s = c.args.scene.now in
    let o = c.args.o in
    let inputs = g.I.Inputs.list c.args.inputs.now in
    IfOk-weaker c.shared_strokes.result (λ strokes. strokes ≡ strokes_at inputs 0)
    (λ strokes. (mode : Mode) (frame : ℤ) → kernel s mode frame (GeometryDone o) inputs ≡ Some (Strokes strokes))
    (λ strokes is mode frame. geometry_done_is s mode frame o inputs strokes (is_there s o 0 (geometry_done_object s c.conditions.ensures o c.requires.op)) is)
    c.shared_strokes.ensures

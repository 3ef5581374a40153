use Rattle.std.proofs.Common.{◌≡◌, Some, ℤ}
use Rattle.std.proofs.lemmas.Result.{IfOk-weaker}
use Rattle.rig_scene.specs.declared.operation.OpId.TheVariants.{ModifierOp}
use Rattle.rig_scene.specs.Value.{Strokes}
use Rattle.rig_laws.specs.Kernel.{kernel, modified_strokes}
use Rattle.rig_kernel.proofs.KernelOf.{modifier_is}
use Rattle.rig_kernel.proofs.geometry.modifier.Goals as goal

pub returns : goal.returns
returns g c =
    let s = c.args.scene.now in
    let mode = c.args.mode in
    let inputs = g.I.Inputs.list c.args.inputs.now in
    IfOk-weaker c.modified.result (λ strokes. strokes ≡ modified_strokes mode c.modifier_of.result.now inputs)
    (λ strokes. (frame : ℤ) → kernel s mode frame (ModifierOp c.args.o c.args.i) inputs ≡ Some (Strokes strokes))
    (λ strokes is frame. modifier_is s mode frame c.args.o inputs strokes c.args.i c.modifier_of.result.now c.modifier_of.ensures.positive c.modifier_of.ensures.modifier is)
    c.modified.ensures

use Rattle.std.proofs.Common.{◌≡◌, Some, ℤ, map, ap, ◌∙◌, w32, SFits, to_z, of_z}
use Rattle.std.proofs.lemmas.Int.{to_z-of_z}
use Rattle.std.proofs.lemmas.Result.{IfOk-weaker}
use Rattle.rig_scene.specs.declared.action.Curve.{Curve}
use Rattle.rig_scene.specs.declared.modifier.Mode.{Mode}
use Rattle.rig_scene.specs.declared.operation.OpId.TheVariants.{Animation}
use Rattle.rig_scene.specs.Curve.{curve_value}
use Rattle.rig_scene.specs.Value.{Numbers}
use Rattle.rig_laws.specs.Kernel.{kernel}
use Rattle.rig_kernel.proofs.ActionOf.{animation_time, animation_is}
use Rattle.rig_kernel.proofs.animation.animation.Goals as goal

pub frame_at-requires : goal.frame_at-requires
frame_at-requires g c = animation_time c.args.scene.now c.args.id (g.I.Inputs.list c.args.inputs.now) c.requires.inputs

pub returns : goal.returns
returns g c =
    let s = c.args.scene.now in
    let inputs = g.I.Inputs.list c.args.inputs.now in
    let curves = c.action_of-action.result.now.curves in
    let frame = c.frame_at.result in
    let fits : SFits w32 frame = record { sfits = c.frame_at.type_inv } in
    IfOk-weaker c.numbers.result (λ numbers. numbers ≡ map (λ (c : Curve). curve_value c (to_z w32 (of_z w32 frame))) c.as_slice.result.now)
    (λ numbers. (mode : Mode) (frame : ℤ) → kernel s mode frame (Animation c.args.id) inputs ≡ Some (Numbers numbers))
    (λ numbers is mode f. animation_is s mode f c.args.id inputs c.action_of-action.result.now numbers c.action_of-action.ensures.action
    (is ∙ ap (λ curves. map (λ (c : Curve). curve_value c (to_z w32 (of_z w32 frame))) curves) c.as_slice.ensures
    ∙ ap (λ frame. map (λ (c : Curve). curve_value c frame) curves) (to_z-of_z w32 frame fits ∙ c.frame_at.ensures)))
    c.numbers.ensures

use Rattle.std.proofs.Common.{◌≡◌, List, IfOk, true, false, subst, ap, ◌∙◌, sym, drop}
use Rattle.rig_scene.specs.Modify.{is_on, modify}
use Rattle.rig_scene.specs.Value.{modify_if}
use Rattle.rig_scene.specs.declared.modifier.Mode.{Mode}
use Rattle.rig_scene.specs.declared.modifier.Modifier.{Modifier}
use Rattle.rig_scene.specs.declared.pencil.Stroke.{Stroke}
use Rattle.rig_fixed.specs.declared.vector.V3.{V3}
use Rattle.rig_laws.specs.Kernel.{mirror_centre, modified_strokes}
use Rattle.rig_laws.specs.Output.{Output, strokes_at}
use Rattle.rig_kernel.proofs.geometry.modified.Goals as goal

on : (mode : Mode) (m : Modifier) (inputs : List Output) (centre : V3) (before : List Stroke) → is_on mode m ≡ true → centre ≡ mirror_centre m.effect (drop 1 inputs) → before ≡ strokes_at inputs 0
    → modify m.effect centre before ≡ modified_strokes mode m inputs
unfolding modified_strokes
on mode m inputs centre before is same_centre same =
    ap (modify m.effect centre) same ∙ ap (λ centre. modify m.effect centre (strokes_at inputs 0)) same_centre
    ∙ sym (ap (λ b. modify_if b m.effect (mirror_centre m.effect (drop 1 inputs)) (strokes_at inputs 0)) is)

off : (mode : Mode) (m : Modifier) (inputs : List Output) (before : List Stroke) → is_on mode m ≡ false → before ≡ strokes_at inputs 0 → before ≡ modified_strokes mode m inputs
unfolding modified_strokes
off mode m inputs before is same = same ∙ sym (ap (λ b. modify_if b m.effect (mirror_centre m.effect (drop 1 inputs)) (strokes_at inputs 0)) is)

pub returns-then-is_on : goal.returns-then-is_on
returns-then-is_on g c =
    subst (λ (value : List Stroke). IfOk c.under.result (λ strokes. strokes ≡ value))
    (on c.args.mode c.args.modifier.now (g.I.Inputs.list c.args.inputs.now) c.mirror_centre-centre.result c.in_ok-before.before (sym c.is_on.ensures ∙ c.if-is_on.true) c.mirror_centre-centre.ensures c.in_ok-before.ensures)
    c.under.ensures

pub returns-else-is_on : goal.returns-else-is_on
returns-else-is_on g c =
    off c.args.mode c.args.modifier.now (g.I.Inputs.list c.args.inputs.now) c.in_ok-before.before (sym c.is_on.ensures ∙ c.if-is_on.false) c.in_ok-before.ensures

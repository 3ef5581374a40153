use Rattle.std.proofs.Common.{◌≡◌, ◌<◌, Some, length, ℤ, IsTrue, ap, sym, subst, ◌∙◌}
use Rattle.std.specs.Prelude.{slice_get}
use Rattle.std.proofs.lemmas.Option.{same_Some, slice_get_within}
use Rattle.std.proofs.lemmas.Result.{IfOk-weaker}
use Rattle.rig_scene.specs.declared.modifier.Mode.{Mode}
use Rattle.rig_scene.specs.declared.operation.OpId.TheVariants as opid
use Rattle.rig_scene.specs.declared.pencil.PencilData.{PencilData}
use Rattle.rig_scene.specs.declared.pencil.Stroke.{Stroke}
use Rattle.std.specs.Prelude.{List}
use Rattle.rig_scene.specs.Scene.{SceneRecord}
use Rattle.rig_scene.specs.Value.{Strokes}
use Rattle.rig_scene.specs.WellFormed.{is_scene}
use Rattle.rig_laws.specs.Kernel.{kernel}
use Rattle.rig_kernel.specs.LayerBy.{layer_by}
use Rattle.rig_kernel.proofs.ShownLayers.{has_layer, layer_facts, time_first, layer_gives}
use Rattle.rig_kernel.proofs.layer.layer.Goals as goal

pub get-pencil-requires : goal.get-pencil-requires
get-pencil-requires g c =
    let met = subst (λ s. IsTrue (is_scene s)) c.scene.view_is c.scene.invariant.is_scene in
    let there = has_layer c.args.scene.now met c.args.p c.args.l c.requires.op in
    subst (λ (s : SceneRecord). c.args.p < length s.pencils) (sym c.scene.view_is) (slice_get_within c.args.scene.now.pencils c.args.p there.pencil there.is_pencil)

pub get-layer-requires : goal.get-layer-requires
get-layer-requires g c =
    let met = subst (λ s. IsTrue (is_scene s)) c.scene.view_is c.scene.invariant.is_scene in
    let there = has_layer c.args.scene.now met c.args.p c.args.l c.requires.op in
    let is_pencil = ap (λ (s : SceneRecord). slice_get s.pencils c.args.p) (sym c.scene.view_is) ∙ c.get-pencil.ensures in
    subst (λ (pencil : PencilData). c.args.l < length pencil.layers) (same_Some there.pencil c.get-pencil.result.now (sym there.is_pencil ∙ is_pencil)) there.here

pub shown-requires-clause-rise : goal.shown-requires-clause-rise
shown-requires-clause-rise g c =
    let met = subst (λ s. IsTrue (is_scene s)) c.scene.view_is c.scene.invariant.is_scene in
    let is_pencil = ap (λ (s : SceneRecord). slice_get s.pencils c.args.p) (sym c.scene.view_is) ∙ c.get-pencil.ensures in
    (layer_facts c.args.scene.now met c.args.p c.args.l c.get-pencil.result.now is_pencil c.get-layer.result.now c.get-layer.ensures).frames_rise

pub shown-requires-clause-time : goal.shown-requires-clause-time
shown-requires-clause-time g c =
    let is_pencil = ap (λ (s : SceneRecord). slice_get s.pencils c.args.p) (sym c.scene.view_is) ∙ c.get-pencil.ensures in
    time_first c.args.scene.now c.args.p c.args.l c.get-pencil.result.now is_pencil c.get-layer.result.now c.get-layer.ensures (g.I.Inputs.list c.args.inputs.now) c.requires.inputs

pub shown-requires-clause-bound : goal.shown-requires-clause-bound
shown-requires-clause-bound g c =
    let met = subst (λ s. IsTrue (is_scene s)) c.scene.view_is c.scene.invariant.is_scene in
    let is_pencil = ap (λ (s : SceneRecord). slice_get s.pencils c.args.p) (sym c.scene.view_is) ∙ c.get-pencil.ensures in
    (layer_facts c.args.scene.now met c.args.p c.args.l c.get-pencil.result.now is_pencil c.get-layer.result.now c.get-layer.ensures).bound_bone_is_there

pub returns : goal.returns
returns g c =
    let s = c.args.scene.now in
    let outs = g.I.Inputs.list c.args.inputs.now in
    let is_pencil = ap (λ (s : SceneRecord). slice_get s.pencils c.args.p) (sym c.scene.view_is) ∙ c.get-pencil.ensures in
    IfOk-weaker c.shown.result (λ strokes. strokes ≡ layer_by s c.args.tables.now c.get-pencil.result.now c.get-layer.result.now outs)
    (λ strokes. (mode : Mode) (frame : ℤ) → kernel s mode frame (opid.Layer c.args.p c.args.l) outs ≡ Some (Strokes strokes))
    (λ strokes e mode frame. layer_gives s c.args.p c.args.l c.get-pencil.result.now is_pencil c.get-layer.result.now c.get-layer.ensures outs c.requires.inputs c.args.tables.now c.requires.tables mode frame
    ∙ ap (λ (strokes : List Stroke). Some (Strokes strokes)) (sym e)) c.shown.ensures

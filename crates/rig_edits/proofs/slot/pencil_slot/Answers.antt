use Rattle.std.proofs.Common.{◌≡◌, Some, None, slice_get, ap, ◌∙◌, sym, subst}
use Rattle.rig_scene.specs.Scene.{SceneRecord}
use Rattle.rig_scene.specs.Text.{same_text}
use Rattle.rig_scene.specs.declared.pencil.Layer.{Layer as LayerRecord}
use Rattle.rig_scene.specs.declared.pencil.PencilData.{PencilData}
use Rattle.rig_edits.specs.declared.cause.EditCause.TheVariants.{UnknownPath}
use Rattle.rig_edits.specs.declared.edit.IdName.TheVariants as named
use Rattle.rig_edits.specs.declared.slot.Slot.TheVariants as slot
use Rattle.rig_edits.proofs.SlotFacts.{no_layer, known_layer, layer_slot}
use Rattle.rig_edits.specs.Slots.{channel_cause, IsSlotOf}
use Rattle.rig_edits.specs.Steps.{FoundAt, FoundNowhere}
use Rattle.rig_edits.proofs.slot.pencil_slot.Goals as goal

pub returns-in-None : goal.returns-in-None
returns-in-None c =
    let at : FoundAt (λ (p : PencilData). same_text p.name c.args.name.now) c.args.scene.now.pencils c.in-Some.pencil =
    subst (λ ps. FoundAt (λ (p : PencilData). same_text p.name c.args.name.now) ps c.in-Some.pencil)
    (c.as_slice.ensures ∙ ap (λ (s : SceneRecord). s.pencils) c.scene.view_is) c.in-Some.ensures in
    let here : slice_get c.args.scene.now.pencils c.in-Some.pencil ≡ Some c.get.result.now =
    subst (λ (s : SceneRecord). slice_get s.pencils c.in-Some.pencil ≡ Some c.get.result.now) c.scene.view_is c.get.ensures in
    let none : FoundNowhere (λ (l : LayerRecord). same_text l.name c.in-Layer.layer) c.get.result.now.layers =
    subst (λ ls. FoundNowhere (λ (l : LayerRecord). same_text l.name c.in-Layer.layer) ls) c.as_slice-2.ensures c.in-None.ensures in
    subst (λ path. channel_cause c.args.scene.now (named.Pencil c.args.name.now) path ≡ Some UnknownPath) (sym c.in-Layer.is)
    (no_layer c.args.scene.now c.args.name.now c.in-Some.pencil at c.get.result.now here c.in-Layer.layer c.in-Layer.axis none)

pub returns-in-Some-index_named : goal.returns-in-Some-index_named
returns-in-Some-index_named c =
    let at : FoundAt (λ (p : PencilData). same_text p.name c.args.name.now) c.args.scene.now.pencils c.in-Some.pencil =
    subst (λ ps. FoundAt (λ (p : PencilData). same_text p.name c.args.name.now) ps c.in-Some.pencil)
    (c.as_slice.ensures ∙ ap (λ (s : SceneRecord). s.pencils) c.scene.view_is) c.in-Some.ensures in
    let here : slice_get c.args.scene.now.pencils c.in-Some.pencil ≡ Some c.get.result.now =
    subst (λ (s : SceneRecord). slice_get s.pencils c.in-Some.pencil ≡ Some c.get.result.now) c.scene.view_is c.get.ensures in
    let layer : FoundAt (λ (l : LayerRecord). same_text l.name c.in-Layer.layer) c.get.result.now.layers c.in-Some-index_named.layer =
    subst (λ ls. FoundAt (λ (l : LayerRecord). same_text l.name c.in-Layer.layer) ls c.in-Some-index_named.layer) c.as_slice-2.ensures
    c.in-Some-index_named.ensures in
    subst (λ path. (channel_cause c.args.scene.now (named.Pencil c.args.name.now) path ≡ None)
    × IsSlotOf c.args.scene.now (named.Pencil c.args.name.now) path (slot.Layer c.in-Some.pencil c.in-Some-index_named.layer c.in-Layer.axis))
    (sym c.in-Layer.is) (
      known_layer c.args.scene.now c.args.name.now c.in-Some.pencil at c.get.result.now here c.in-Layer.layer c.in-Layer.axis c.in-Some-index_named.layer layer,
      layer_slot c.args.scene.now c.args.name.now c.in-Some.pencil at c.get.result.now here c.in-Layer.layer c.in-Layer.axis c.in-Some-index_named.layer layer,
    )

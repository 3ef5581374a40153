use Rattle.std.proofs.Common.{◌≡◌, Some, slice_get, ap, ◌∙◌, subst}
use Rattle.std.specs.Prelude.{IsTrue}
use Rattle.rig_scene.specs.declared.pencil.Layer.{Layer}
use Rattle.rig_scene.specs.declared.pencil.PencilData.{PencilData}
use Rattle.rig_scene.specs.Scene.{SceneRecord}
use Rattle.rig_scene.specs.Text.{same_text}
use Rattle.rig_scene.specs.WellFormed.{is_scene}
use Rattle.rig_edits.proofs.LayerPlaceFacts.{no_layer, known_layer, layer_place}
use Rattle.rig_edits.specs.Steps.{FoundAt, FoundNowhere}
use Rattle.rig_edits.proofs.layer.layer_place.Goals as goal

pub returns-in-Some-index_named : goal.returns-in-Some-index_named
returns-in-Some-index_named c =
    let s = c.args.scene.now in
    let pencil = c.args.pencil.now in
    let layer = c.args.layer.now in
    let found : FoundAt (λ (p : PencilData). same_text p.name pencil) s.pencils c.in-Some.pencil =
    subst (λ pencils. FoundAt (λ (p : PencilData). same_text p.name pencil) pencils c.in-Some.pencil)
    (c.as_slice.ensures ∙ ap (λ (s : SceneRecord). s.pencils) c.scene.view_is) c.in-Some.ensures in
    let at : slice_get s.pencils c.in-Some.pencil ≡ Some c.get.result.now =
    subst (λ (s : SceneRecord). slice_get s.pencils c.in-Some.pencil ≡ Some c.get.result.now) c.scene.view_is c.get.ensures in
    let in_pencil : FoundAt (λ (l : Layer). same_text l.name layer) c.get.result.now.layers c.in-Some-index_named.layer =
    subst (λ layers. FoundAt (λ (l : Layer). same_text l.name layer) layers c.in-Some-index_named.layer)
    c.as_slice-2.ensures c.in-Some-index_named.ensures in (
      known_layer s pencil layer c.in-Some.pencil c.get.result.now found at c.in-Some-index_named.layer in_pencil,
      layer_place s pencil layer c.in-Some.pencil c.get.result.now found at c.in-Some-index_named.layer in_pencil
          (subst (λ (s : SceneRecord). IsTrue (is_scene s)) c.scene.view_is c.scene.invariant.is_scene),
    )

pub returns-in-None : goal.returns-in-None
returns-in-None c =
    let s = c.args.scene.now in
    let pencil = c.args.pencil.now in
    let layer = c.args.layer.now in
    let found : FoundAt (λ (p : PencilData). same_text p.name pencil) s.pencils c.in-Some.pencil =
    subst (λ pencils. FoundAt (λ (p : PencilData). same_text p.name pencil) pencils c.in-Some.pencil)
    (c.as_slice.ensures ∙ ap (λ (s : SceneRecord). s.pencils) c.scene.view_is) c.in-Some.ensures in
    let at : slice_get s.pencils c.in-Some.pencil ≡ Some c.get.result.now =
    subst (λ (s : SceneRecord). slice_get s.pencils c.in-Some.pencil ≡ Some c.get.result.now) c.scene.view_is c.get.ensures in
    no_layer s pencil layer c.in-Some.pencil c.get.result.now found at
    (subst (λ layers. FoundNowhere (λ (l : Layer). same_text l.name layer) layers) c.as_slice-2.ensures c.in-None.ensures)

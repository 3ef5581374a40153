use Rattle.std.proofs.Common.{◌≡◌, Some, None, ap, ◌∙◌, sym, subst}
use Rattle.rig_scene.specs.Scene.{SceneRecord}
use Rattle.rig_scene.specs.Text.{same_text}
use Rattle.rig_scene.specs.declared.pencil.PencilData.{PencilData}
use Rattle.rig_scene.specs.declared.id.AnimId.TheVariants as anim
use Rattle.rig_edits.specs.declared.cause.EditCause.TheVariants.{UnknownId}
use Rattle.rig_edits.specs.Conditions.{when, lacks_id}
use Rattle.rig_edits.specs.Named.{id_of}
use Rattle.rig_edits.proofs.DriverFacts.{pencil_id, no_pencil_id, pencil_fits}
use Rattle.rig_edits.specs.Steps.{FoundAt, FoundNowhere}
use Rattle.rig_edits.proofs.driver.id_of.Goals as goal

pub overflow_cast-result : goal.overflow_cast-result
overflow_cast-result c =
    let at : FoundAt (λ (p : PencilData). same_text p.name c.in-Pencil.name) c.scene.inside.pencils c.in-Some.pencil =
    subst (λ ps. FoundAt (λ (p : PencilData). same_text p.name c.in-Pencil.name) ps c.in-Some.pencil) c.as_slice.ensures c.in-Some.ensures in
    pencil_fits _ c.scene.invariant.is_scene c.in-Some.pencil at.within

pub returns-in-Some : goal.returns-in-Some
returns-in-Some c =
    let at : FoundAt (λ (p : PencilData). same_text p.name c.in-Pencil.name) c.args.scene.now.pencils c.in-Some.pencil =
    subst (λ ps. FoundAt (λ (p : PencilData). same_text p.name c.in-Pencil.name) ps c.in-Some.pencil)
    (c.as_slice.ensures ∙ ap (λ (s : SceneRecord). s.pencils) c.scene.view_is) c.in-Some.ensures in
    subst (λ id. (when UnknownId (lacks_id c.args.scene.now id) ≡ None) × (id_of c.args.scene.now id ≡ Some (anim.Pencil c.in-Some.pencil)))
    (sym c.in-Pencil.is) (pencil_id c.args.scene.now c.in-Pencil.name c.in-Some.pencil at)

pub returns-in-None : goal.returns-in-None
returns-in-None c =
    let none : FoundNowhere (λ (p : PencilData). same_text p.name c.in-Pencil.name) c.args.scene.now.pencils =
    subst (λ ps. FoundNowhere (λ (p : PencilData). same_text p.name c.in-Pencil.name) ps)
    (c.as_slice.ensures ∙ ap (λ (s : SceneRecord). s.pencils) c.scene.view_is) c.in-None.ensures in
    subst (λ id. when UnknownId (lacks_id c.args.scene.now id) ≡ Some UnknownId) (sym c.in-Pencil.is) (no_pencil_id c.args.scene.now c.in-Pencil.name none)

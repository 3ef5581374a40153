use Rattle.std.proofs.Common.{◌≡◌, Some, slice_get, ap, ◌∙◌, subst}
use Rattle.std.specs.Prelude.{IsTrue}
use Rattle.rig_scene.specs.declared.action.Action.{Action}
use Rattle.rig_scene.specs.declared.action.Curve.{Curve}
use Rattle.rig_scene.specs.Path.{same_path}
use Rattle.rig_scene.specs.Scene.{SceneRecord}
use Rattle.rig_scene.specs.Text.{same_text}
use Rattle.rig_scene.specs.WellFormed.{is_scene}
use Rattle.rig_edits.proofs.CurvePlaceFacts.{no_curve, known_curve, curve_place}
use Rattle.rig_edits.specs.Steps.{FoundAt, FoundNowhere}
use Rattle.rig_edits.proofs.curve.curve_place.Goals as goal

pub returns-in-Some-index_of_path : goal.returns-in-Some-index_of_path
returns-in-Some-index_of_path c =
    let s = c.args.scene.now in
    let action = c.args.action.now in
    let path = c.args.path.now in
    let found : FoundAt (λ (a : Action). same_text a.name action) s.actions c.in-Some.action =
    subst (λ actions. FoundAt (λ (a : Action). same_text a.name action) actions c.in-Some.action)
    (c.as_slice.ensures ∙ ap (λ (s : SceneRecord). s.actions) c.scene.view_is) c.in-Some.ensures in
    let at : slice_get s.actions c.in-Some.action ≡ Some c.get.result.now =
    subst (λ (s : SceneRecord). slice_get s.actions c.in-Some.action ≡ Some c.get.result.now) c.scene.view_is c.get.ensures in
    let curve : FoundAt (λ (x : Curve). same_path x.path path) c.get.result.now.curves c.in-Some-index_of_path.curve =
    subst (λ curves. FoundAt (λ (x : Curve). same_path x.path path) curves c.in-Some-index_of_path.curve)
    c.as_slice-2.ensures c.in-Some-index_of_path.ensures in (
      known_curve s action path c.in-Some.action c.get.result.now found at c.in-Some-index_of_path.curve curve,
      curve_place s action path c.in-Some.action c.get.result.now found at c.in-Some-index_of_path.curve curve
          (subst (λ (s : SceneRecord). IsTrue (is_scene s)) c.scene.view_is c.scene.invariant.is_scene),
    )

pub returns-in-None : goal.returns-in-None
returns-in-None c =
    let s = c.args.scene.now in
    let action = c.args.action.now in
    let path = c.args.path.now in
    let found : FoundAt (λ (a : Action). same_text a.name action) s.actions c.in-Some.action =
    subst (λ actions. FoundAt (λ (a : Action). same_text a.name action) actions c.in-Some.action)
    (c.as_slice.ensures ∙ ap (λ (s : SceneRecord). s.actions) c.scene.view_is) c.in-Some.ensures in
    let at : slice_get s.actions c.in-Some.action ≡ Some c.get.result.now =
    subst (λ (s : SceneRecord). slice_get s.actions c.in-Some.action ≡ Some c.get.result.now) c.scene.view_is c.get.ensures in
    no_curve s action path c.in-Some.action c.get.result.now found at
    (subst (λ curves. FoundNowhere (λ (x : Curve). same_path x.path path) curves) c.as_slice-2.ensures c.in-None.ensures)

use Rattle.std.proofs.Common.{◌≡◌, ◌<◌, ◌≤◌, ℕ, pos, length, Some, slice_get, ap, ◌∙◌, sym, subst, w64}
use Rattle.std.proofs.lemmas.Int.{to_z-of_z}
use Rattle.std.proofs.lemmas.Result.{err_from_is_err_and}
use Rattle.rig_scene.specs.declared.pencil.PencilData.{PencilData}
use Rattle.rig_scene.specs.Scene.{SceneRecord}
use Rattle.rig_scene.specs.Text.{same_text}
use Rattle.rig_edits.proofs.PointFacts.{no_point, known_point, point_found}
use Rattle.rig_edits.specs.Steps.{FoundAt}
use Rattle.rig_edits.proofs.point.point_place.Goals as goal

pub returns-in_err-point : goal.returns-in_err-point
returns-in_err-point c =
    let at : FoundAt (λ (p : PencilData). same_text p.name c.args.pencil.now) c.args.scene.now.pencils c.in-Some.pencil =
    subst (λ ps. FoundAt (λ (p : PencilData). same_text p.name c.args.pencil.now) ps c.in-Some.pencil)
    (c.as_slice.ensures ∙ ap (λ (s : SceneRecord). s.pencils) c.scene.view_is) c.in-Some.ensures in
    let is_p : slice_get c.args.scene.now.pencils c.in-Some.pencil ≡ Some c.get.result.now =
    subst (λ (s : SceneRecord). slice_get s.pencils c.in-Some.pencil ≡ Some c.get.result.now) c.scene.view_is c.get.ensures in
    let past : (n : ℕ) → c.args.point ≡ pos n → length c.get-3.result.now.points ≤ n =
    λ n e. subst (λ count. count ≤ n) c.len-3.ensures (c.in_err-point.ensures.1 n (to_z-of_z w64 c.args.point c.ranges.point ∙ e)) in
    let p = err_from_is_err_and c.from_residual-in_err-point.result c.from_residual-in_err-point.ensures.1 in
    rw (p.1, p.2, c.in_err-point.ensures.0)
    (no_point c.args.scene.now c.args.pencil.now c.in-Some.pencil at c.get.result.now is_p
    c.args.drawing c.in_ok-drawing.drawing (sym (to_z-of_z w64 c.args.drawing c.ranges.drawing) ∙ c.in_ok-drawing.ensures.0) c.get-2.result.now c.get-2.ensures
    c.args.stroke c.in_ok-stroke.stroke (sym (to_z-of_z w64 c.args.stroke c.ranges.stroke) ∙ c.in_ok-stroke.ensures.0) c.get-3.result.now c.get-3.ensures
    c.args.point past)

pub returns : goal.returns
returns c =
    let at : FoundAt (λ (p : PencilData). same_text p.name c.args.pencil.now) c.args.scene.now.pencils c.in-Some.pencil =
    subst (λ ps. FoundAt (λ (p : PencilData). same_text p.name c.args.pencil.now) ps c.in-Some.pencil)
    (c.as_slice.ensures ∙ ap (λ (s : SceneRecord). s.pencils) c.scene.view_is) c.in-Some.ensures in
    let is_p : slice_get c.args.scene.now.pencils c.in-Some.pencil ≡ Some c.get.result.now =
    subst (λ (s : SceneRecord). slice_get s.pencils c.in-Some.pencil ≡ Some c.get.result.now) c.scene.view_is c.get.ensures in
    let drawing : c.args.drawing ≡ pos c.in_ok-drawing.drawing = sym (to_z-of_z w64 c.args.drawing c.ranges.drawing) ∙ c.in_ok-drawing.ensures.0 in
    let stroke : c.args.stroke ≡ pos c.in_ok-stroke.stroke = sym (to_z-of_z w64 c.args.stroke c.ranges.stroke) ∙ c.in_ok-stroke.ensures.0 in
    let point : c.args.point ≡ pos c.in_ok-point.point = sym (to_z-of_z w64 c.args.point c.ranges.point) ∙ c.in_ok-point.ensures.0 in
    let within : c.in_ok-point.point < length c.get-3.result.now.points =
    subst (λ count. c.in_ok-point.point < count) c.len-3.ensures c.in_ok-point.ensures.1 in (
      known_point c.args.scene.now c.args.pencil.now c.in-Some.pencil at c.get.result.now is_p
          c.args.drawing c.in_ok-drawing.drawing drawing c.get-2.result.now c.get-2.ensures c.args.stroke c.in_ok-stroke.stroke stroke c.get-3.result.now
          c.get-3.ensures c.args.point c.in_ok-point.point point within,
      point_found c.args.scene.now c.args.pencil.now c.in-Some.pencil at c.get.result.now is_p
          c.args.drawing c.in_ok-drawing.drawing drawing c.get-2.result.now c.get-2.ensures c.args.stroke c.in_ok-stroke.stroke stroke c.get-3.result.now
          c.get-3.ensures c.args.point c.in_ok-point.point point within,
    )

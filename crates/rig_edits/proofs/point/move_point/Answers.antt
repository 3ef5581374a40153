use Rattle.std.proofs.Common.{refl, sym, subst, to_z, of_z, w64}
use Rattle.std.proofs.lemmas.Int.{to_z-of_z}
use Rattle.rig_scene.specs.Scene.{SceneRecord}
use Rattle.rig_edits.proofs.KeyCounts.{still_counted, layers_kept}
use Rattle.rig_edits.proofs.PointFacts.{FoundPlace, point_moved, point_kept}
use Rattle.rig_edits.specs.Points.{HasPoint}
use Rattle.rig_edits.proofs.point.move_point.Goals as goal

pub set_point-requires : goal.set_point-requires
set_point-requires c = subst (λ (s : SceneRecord). HasPoint s.pencils c.in_ok-place.place) (sym c.scene.view_is) c.in_ok-place.ensures.1.is_there

pub invariant_of-scene : goal.invariant_of-scene
invariant_of-scene c =
    rw c.set_point.ensures
    (still_counted _ _ _ _ c.scene.invariant
    (point_kept _ c.args.scene.now c.scene.view_is c.args.pencil.now _ _ _ c.in_ok-place.place c.in_ok-place.ensures c.args.to.now c.in_ok-to.to
    c.in_ok-to.ensures c.scene.invariant.is_scene)
    refl (layers_kept _ (λ p. refl) c.in_ok-place.place.pencil c.scene.inside.pencils))

pub returns : goal.returns
returns c =
    let found : FoundPlace c.args.scene.now c.args.pencil.now c.args.drawing c.args.stroke c.args.point c.in_ok-place.place =
    subst (λ x. FoundPlace c.args.scene.now c.args.pencil.now x c.args.stroke c.args.point c.in_ok-place.place) (to_z-of_z w64 c.args.drawing c.ranges.drawing)
    (subst (λ x. FoundPlace c.args.scene.now c.args.pencil.now (to_z w64 (of_z w64 c.args.drawing)) x c.args.point c.in_ok-place.place)
    (to_z-of_z w64 c.args.stroke c.ranges.stroke)
    (subst (λ x. FoundPlace c.args.scene.now c.args.pencil.now (to_z w64 (of_z w64 c.args.drawing)) (to_z w64 (of_z w64 c.args.stroke)) x c.in_ok-place.place)
    (to_z-of_z w64 c.args.point c.ranges.point) c.in_ok-place.ensures)) in
    rw c.set_point.ensures
    (point_moved _ c.args.scene.now c.scene.view_is c.args.pencil.now c.args.drawing c.args.stroke c.args.point c.in_ok-place.place found c.args.to.now
    c.in_ok-to.to c.in_ok-to.ensures)

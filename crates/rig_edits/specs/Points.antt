-- Where a point stands in the pencils, by indices.
use Rattle.std.specs.Prelude.{◌≡◌, ℕ, ◌<◌, List, length, slice_get, Some, ℤ, pos}
use Rattle.rig_fixed.specs.declared.vector.V3.{V3}
use Rattle.rig_scene.specs.declared.pencil.Drawing.{Drawing}
use Rattle.rig_scene.specs.declared.pencil.PencilData.{PencilData}
use Rattle.rig_scene.specs.declared.pencil.Stroke.{Stroke}
use Rattle.rig_scene.specs.Scene.{SceneRecord}
use Rattle.rig_edits.specs.declared.point.PointPlace.{PointPlace}
use Rattle.rig_edits.specs.Named.{pencil_index, update_at}

-- the point at a place set
abbrev pub point_set : List PencilData → PointPlace → V3 → List PencilData
point_set pencils place to =
    update_at (λ p. record p {
      drawings = update_at (λ d. record d {
        strokes = update_at (λ k. record k { points = update_at (λ _. to) place.point k.points }) place.stroke d.strokes;
      }) place.drawing p.drawings;
    }) place.pencil pencils

-- there is a point of these indices
abbrev pub HasPointOfStrokes : List Stroke → ℕ → ℕ → Type 0
HasPointOfStrokes strokes stroke point =
    (stroke < length strokes) × ((k : Stroke) → slice_get strokes stroke ≡ Some k → point < length k.points)

abbrev pub HasPointOfDrawings : List Drawing → ℕ → ℕ → ℕ → Type 0
HasPointOfDrawings drawings drawing stroke point =
    (drawing < length drawings) × ((d : Drawing) → slice_get drawings drawing ≡ Some d → HasPointOfStrokes d.strokes stroke point)

abbrev pub HasPoint : List PencilData → PointPlace → Type 0
HasPoint pencils place =
    (place.pencil < length pencils) × ((p : PencilData) → slice_get pencils place.pencil ≡ Some p
    → HasPointOfDrawings p.drawings place.drawing place.stroke place.point)

-- the place is that of the point of these numbers in the pencil of a name
pub record IsPlaceOf (s : SceneRecord) (pencil : List ℕ) (drawing stroke point : ℤ) (place : PointPlace) : Type 0 where
  pub is_pencil : pencil_index s pencil ≡ Some place.pencil
  pub is_drawing : drawing ≡ pos place.drawing
  pub is_stroke : stroke ≡ pos place.stroke
  pub is_point : point ≡ pos place.point
  pub is_there : HasPoint s.pencils place

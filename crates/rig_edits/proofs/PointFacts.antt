-- A point by its numbers is found, and set by its indices.
use Rattle.std.proofs.Common.{◌≡◌, ℕ, ◌<◌, ◌≤◌, ℤ, pos, negsuc, Bool, true, false, not, List, length, slice_get, Option, Some, None, refl, sym, ap, ◌∙◌, subst}
use Rattle.std.specs.Prelude.{IsTrue, is_none, option_and_then}
use Rattle.std.specs.Option.{option_or}
use Rattle.std.proofs.lemmas.Option.{same_Some, slice_get_within, slice_get_past}
use Rattle.rig_fixed.specs.declared.vector.V3.{V3}
use Rattle.rig_scene.specs.declared.pencil.Drawing.{Drawing}
use Rattle.rig_scene.specs.declared.pencil.PencilData.{PencilData}
use Rattle.rig_scene.specs.declared.pencil.Stroke.{Stroke}
use Rattle.rig_scene.specs.Found.{some_slice_get}
use Rattle.rig_scene.specs.Scene.{SceneRecord}
use Rattle.rig_scene.specs.Text.{same_text}
use Rattle.rig_scene.specs.WellFormed.{is_scene}
use Rattle.rig_edits.specs.declared.cause.EditCause.{EditCause}
use Rattle.rig_edits.specs.declared.cause.EditCause.TheVariants.{UnknownId, UnknownPart, OutOfRange}
use Rattle.rig_edits.specs.declared.edit.Edit.TheVariants.{MovePoint}
use Rattle.rig_edits.specs.declared.edit.Whole3.{Whole3}
use Rattle.rig_edits.specs.declared.point.PointPlace.{PointPlace}
use Rattle.rig_edits.specs.Conditions.{is_location, lacks_point, when, first_cause}
use Rattle.rig_edits.specs.Edited.{v3_of, edited}
use Rattle.rig_edits.specs.KeepsPencils.{keeps_move_point}
use Rattle.rig_edits.specs.Named.{pencil_named, at_number}
use Rattle.rig_edits.specs.Points.{point_set, HasPointOfStrokes, HasPointOfDrawings, HasPoint, IsPlaceOf}
use Rattle.rig_edits.proofs.FirstPassing.{updated_first}
use Rattle.rig_edits.specs.Steps.{FoundAt}

-- there is no element at a number that is no index
none_at : {A : Type 0} (xs : List A) (number : ℤ) → ((n : ℕ) → number ≡ pos n → length xs ≤ n) → at_number xs number ≡ None
none_at xs (pos n) past = slice_get_past xs n (past n refl)
none_at xs (negsuc n) past = refl

-- there is one at a number that is an index
some_at : {A : Type 0} (xs : List A) (number : ℤ) (n : ℕ) → number ≡ pos n → n < length xs → is_none (at_number xs number) ≡ false
some_at xs number n is within = ap (λ z. is_none (at_number xs z)) is ∙ ap is_none (some_slice_get xs n within).1

-- the causes against a point, by the pencil that is found
abbrev point_cause : Option PencilData → ℤ → ℤ → ℤ → Option EditCause
point_cause pencil drawing stroke point =
    option_or (when UnknownId (is_none pencil)) (when UnknownPart (is_none (option_and_then (λ (k : Stroke). at_number k.points point)
    (option_and_then (λ (d : Drawing). at_number d.strokes stroke) (option_and_then (λ (p : PencilData). at_number p.drawings drawing) pencil)))))

module _ (s : SceneRecord) (name : List ℕ) (pencil : ℕ) (at : FoundAt (λ (p : PencilData). same_text p.name name) s.pencils pencil)
    (p : PencilData) (is_p : slice_get s.pencils pencil ≡ Some p) (drawing_number : ℤ) (drawing : ℕ) (is_drawing : drawing_number ≡ pos drawing)
    (d : Drawing) (is_d : slice_get p.drawings drawing ≡ Some d)
    (stroke_number : ℤ) (stroke : ℕ) (is_stroke : stroke_number ≡ pos stroke)
    (k : Stroke) (is_k : slice_get d.strokes stroke ≡ Some k) (number : ℤ) where
  -- with a stroke that is there the causes are that of the point
  cause_of_point : point_cause (pencil_named s name) drawing_number stroke_number number ≡ when UnknownPart (is_none (at_number k.points number))
  cause_of_point =
      ap (λ (r : Option PencilData). point_cause r drawing_number stroke_number number) (at.is_found ∙ sym at.is_at ∙ is_p)
      ∙ ap (λ (r : Option Drawing). when UnknownPart (is_none (option_and_then (λ (k : Stroke). at_number k.points number)
      (option_and_then (λ (d : Drawing). at_number d.strokes stroke_number) r)))) (ap (at_number p.drawings) is_drawing ∙ is_d)
      ∙ ap (λ (r : Option Stroke). when UnknownPart (is_none (option_and_then (λ (k : Stroke). at_number k.points number) r)))
      (ap (at_number d.strokes) is_stroke ∙ is_k)

  pub no_point : ((n : ℕ) → number ≡ pos n → length k.points ≤ n)
      → option_or (when UnknownId (is_none (pencil_named s name))) (when UnknownPart (lacks_point s name drawing_number stroke_number number))
      ≡ Some UnknownPart
  no_point past = cause_of_point ∙ ap (λ r. when UnknownPart (is_none r)) (none_at k.points number past)

  module _ (point : ℕ) (is_point : number ≡ pos point) (within : point < length k.points) where
    pub known_point : option_or (when UnknownId (is_none (pencil_named s name))) (when UnknownPart (lacks_point s name drawing_number stroke_number number))
        ≡ None
    known_point = cause_of_point ∙ ap (when UnknownPart) (some_at k.points number point is_point within)

    in_strokes : HasPointOfStrokes d.strokes stroke point
    in_strokes = (slice_get_within d.strokes stroke k is_k, λ q e. subst (λ (r : Stroke). point < length r.points) (same_Some k q (sym is_k ∙ e)) within)

    in_drawings : HasPointOfDrawings p.drawings drawing stroke point
    in_drawings = (
      slice_get_within p.drawings drawing d is_d,
      λ q e. subst (λ (r : Drawing). HasPointOfStrokes r.strokes stroke point) (same_Some d q (sym is_d ∙ e)) in_strokes,
    )

    in_pencils : HasPoint s.pencils (record { pencil = pencil; drawing = drawing; stroke = stroke; point = point })
    in_pencils = (at.within, λ q e. subst (λ (r : PencilData). HasPointOfDrawings r.drawings drawing stroke point) (same_Some p q (sym is_p ∙ e)) in_drawings)

    pub point_found : IsPlaceOf s name drawing_number stroke_number number (record { pencil = pencil; drawing = drawing; stroke = stroke; point = point })
    point_found =
        record { is_pencil = at.is_position; is_drawing = is_drawing; is_stroke = is_stroke; is_point = is_point; is_there = in_pencils }

-- ---- the edit

-- where the point is found and the location is in range, no cause holds
none_holds : (a b r : Bool) → option_or (when UnknownId a) (when UnknownPart b) ≡ None → when OutOfRange r ≡ None
    → option_or (when UnknownId a) (option_or (when UnknownPart b) (option_or (when OutOfRange r) None)) ≡ None
none_holds true b r known in_range = known
none_holds false true r known in_range = known
none_holds false false true known in_range = in_range
none_holds false false false known in_range = refl

-- the place of a point is found, and no cause of it holds
abbrev pub FoundPlace : SceneRecord → List ℕ → ℤ → ℤ → ℤ → PointPlace → Type 0
FoundPlace s pencil drawing stroke point place =
    (option_or (when UnknownId (is_none (pencil_named s pencil))) (when UnknownPart (lacks_point s pencil drawing stroke point)) ≡ None)
    × IsPlaceOf s pencil drawing stroke point place

-- the edit sets the point at its place
point_edited : (s : SceneRecord) (pencil : List ℕ) (drawing stroke point : ℤ) (place : PointPlace) (to : Whole3)
    → IsPlaceOf s pencil drawing stroke point place
    → edited s (MovePoint pencil drawing stroke point to) ≡ record s { pencils = point_set s.pencils place (v3_of to) }
point_edited s pencil drawing stroke point place to is =
    ap (λ z. edited s (MovePoint pencil z stroke point to)) is.is_drawing
    ∙ ap (λ z. edited s (MovePoint pencil (pos place.drawing) z point to)) is.is_stroke
    ∙ ap (λ z. edited s (MovePoint pencil (pos place.drawing) (pos place.stroke) z to)) is.is_point
    ∙ ap (λ pencils. record s { pencils = pencils }) (updated_first (λ (p : PencilData). same_text p.name pencil) _ s.pencils place.pencil is.is_pencil)

module _ (held s : SceneRecord) (view : held ≡ s) (pencil : List ℕ) (drawing stroke point : ℤ) (place : PointPlace)
    (found : FoundPlace s pencil drawing stroke point place) (to : Whole3) (location : V3)
    (in_range : (when OutOfRange (not (is_location to)) ≡ None) × (location ≡ v3_of to)) where
  -- no cause holds, and what the scene held is edited
  pub point_moved : (first_cause s (MovePoint pencil drawing stroke point to) ≡ None)
      × (record held { pencils = point_set held.pencils place location } ≡ edited s (MovePoint pencil drawing stroke point to))
  point_moved = (
    none_holds (is_none (pencil_named s pencil)) (lacks_point s pencil drawing stroke point) (not (is_location to)) found.0 in_range.0,
    ap (λ (t : SceneRecord). record t { pencils = point_set t.pencils place location }) view
        ∙ ap (λ v. record s { pencils = point_set s.pencils place v }) in_range.1 ∙ sym (point_edited s pencil drawing stroke point place to found.1),
  )

  -- it is a scene
  pub point_kept : IsTrue (is_scene held) → IsTrue (is_scene (record held { pencils = point_set held.pencils place location }))
  point_kept is =
      subst (λ t. IsTrue (is_scene t)) (sym point_moved.1)
      (keeps_move_point s pencil drawing stroke point to (subst (λ t. IsTrue (is_scene t)) view is) point_moved.0)

-- Where the curve of a path stands: what is found there, and what a change of its keys makes.
use Rattle.std.proofs.Common.{◌≡◌, ℕ, ◌<◌, Bool, length, true, false, not, ◌&&◌, if◌then◌else◌, List, Option, None, Some, ℤ, refl, sym, ap, ◌∙◌, subst}
use Rattle.std.specs.Prelude.{IsTrue, is_none, slice_get, option_and_then}
use Rattle.std.specs.Option.{option_or, option_map_or}
use Rattle.std.specs.List.{list_any}
use Rattle.std.specs.Ordering.{int_eq}
use Rattle.std.proofs.lemmas.Option.{same_Some}
use Rattle.rig_scene.specs.declared.action.Action.{Action}
use Rattle.rig_scene.specs.declared.action.Curve.{Curve}
use Rattle.rig_scene.specs.declared.action.Interp.{Interp}
use Rattle.rig_scene.specs.declared.action.Key.{Key}
use Rattle.rig_scene.specs.declared.limits.TheConstants.{MAX_KEYS}
use Rattle.rig_scene.specs.declared.path.Path.{Path}
use Rattle.rig_scene.specs.Facts.{CurveFacts, ActionFacts}
use Rattle.rig_scene.specs.FactsHold.{scene_facts}
use Rattle.rig_scene.specs.Path.{same_path}
use Rattle.rig_scene.specs.Scene.{SceneRecord}
use Rattle.rig_scene.specs.Text.{same_text}
use Rattle.rig_scene.specs.WellFormed.{is_scene, is_frame, key_count}
use Rattle.rig_edits.specs.declared.cause.EditCause.{EditCause}
use Rattle.rig_edits.specs.declared.cause.EditCause.TheVariants.{UnknownId, UnknownPart, OutOfRange}
use Rattle.rig_edits.specs.declared.curve.CurvePlace.{CurvePlace}
use Rattle.rig_edits.specs.declared.edit.Edit.TheVariants.{SetKey}
use Rattle.rig_edits.specs.Conditions.{first_cause, full_at, has_key, is_value, lacks_curve, when}
use Rattle.rig_edits.specs.CurvePlaces.{curve_cause, room_cause, has_key_at, keys_changed_at, HasCurve, IsPlaceOf}
use Rattle.rig_edits.specs.Edited.{with_curve}
use Rattle.rig_edits.specs.Named.{action_named, curve_of, update_at, update_first}
use Rattle.rig_edits.proofs.FirstPassing.{first_changed}
use Rattle.rig_edits.specs.Replaced.{All-slice_get}
use Rattle.rig_edits.specs.Steps.{FoundAt, FoundNowhere}

module _ (s : SceneRecord) (action : List ℕ) (path : Path) (i : ℕ) (a : Action)
    (found : FoundAt (λ (a : Action). same_text a.name action) s.actions i) (at : slice_get s.actions i ≡ Some a) where
  named : action_named s action ≡ Some a
  named = found.is_found ∙ sym found.is_at ∙ at

  cause_by : (r : Option Curve) → curve_of a path ≡ r → curve_cause s action path ≡ when UnknownPart (is_none r)
  cause_by r e =
      ap (λ o. option_or (when UnknownId (is_none o)) (when UnknownPart (is_none (option_and_then (λ a. curve_of a path) o)))) named
      ∙ ap (λ o. when UnknownPart (is_none o)) e

  -- the action has no curve of the path
  pub no_curve : FoundNowhere (λ (c : Curve). same_path c.path path) a.curves → curve_cause s action path ≡ Some UnknownPart
  no_curve nowhere = cause_by None nowhere.is_found

  -- the curve of the path is the one at an index
  module _ (j : ℕ) (curve : FoundAt (λ (c : Curve). same_path c.path path) a.curves j) where
    abbrev place : CurvePlace
    place = record { action = i; curve = j }

    abbrev has_it : ℤ → Option Curve → Bool
    has_it frame r = option_map_or (λ c. list_any (λ k. int_eq k.frame frame) c.keys) r false

    pub known_curve : curve_cause s action path ≡ None
    known_curve = cause_by (Some curve.element) curve.is_found

    curve_there : IsTrue (is_scene s) → HasCurve s.actions place
    curve_there is = record {
      action_within = found.within;
      curve_within = λ b e. subst (λ (b : Action). j < length b.curves) (same_Some a b (sym at ∙ e)) curve.within;
      frames_rise = λ b d e h.
          let facts : ActionFacts b = All-slice_get ActionFacts s.actions i b e (scene_facts s is).actions.each in
          (All-slice_get CurveFacts b.curves j d h facts.curves).frames_rise;
    }

    has_there : (frame : ℤ) → has_key s action path frame ≡ has_key_at s.actions place frame
    has_there frame =
        ap (λ r. has_it frame (option_and_then (λ a. curve_of a path) r)) named ∙ ap (has_it frame) curve.is_found
        ∙ sym (ap (λ r. has_it frame (option_and_then (λ (a : Action). slice_get a.curves j) r)) at ∙ ap (has_it frame) curve.is_at)

    changed_there : (change : List Key → List Key) → with_curve s action path (λ c. record c { keys = change c.keys })
        ≡ record s { actions = keys_changed_at change place s.actions }
    changed_there change =
        ap (λ actions. record s { actions = actions })
        (first_changed (λ a. record a { curves = update_first (λ c. same_path c.path path) (λ c. record c { keys = change c.keys }) a.curves })
        (λ a. record a { curves = update_at (λ c. record c { keys = change c.keys }) j a.curves }) s.actions i a
        (λ a. same_text a.name action) found.is_position at
        (ap (λ curves. record a { curves = curves })
        (first_changed (λ c. record c { keys = change c.keys }) (λ c. record c { keys = change c.keys }) a.curves j curve.element
        (λ c. same_path c.path path) curve.is_position curve.is_at refl)))

    pub curve_place : IsTrue (is_scene s) → IsPlaceOf s action path place
    curve_place is = record { there = curve_there is; has = has_there; changed = changed_there }

-- ---- the causes of an edit of a key, once its curve and its numbers are known

causes_left : (id part frame value : Bool) (rest : Option EditCause) → option_or (when UnknownId id) (when UnknownPart part) ≡ None
    → when OutOfRange (not frame) ≡ None → when OutOfRange (not value) ≡ None
    → option_or (when UnknownId id) (option_or (when UnknownPart part) (option_or (when OutOfRange (not (frame && value))) rest)) ≡ rest
causes_left true part frame value rest known in_range right = cc
causes_left false true frame value rest known in_range right = cc
causes_left false false false value rest known in_range right = cc
causes_left false false true false rest known in_range right = cc
causes_left false false true true rest known in_range right = refl

module _ (s : SceneRecord) (action : List ℕ) (path : Path) (place : CurvePlace) (known : curve_cause s action path ≡ None)
    (is : IsPlaceOf s action path place) (frame : ℤ) (in_range : when OutOfRange (not (is_frame frame)) ≡ None) where
  pub set_key_cause : (value : ℤ) (interp : Interp) → when OutOfRange (not (is_value value)) ≡ None
      → first_cause s (SetKey action path frame value interp) ≡ room_cause s.actions place frame
  set_key_cause value interp right =
      causes_left (is_none (action_named s action)) (lacks_curve s action path) (is_frame frame) (is_value value) _ known in_range right
      ∙ ap (λ b. if b then None else full_at (key_count s.actions) 1 MAX_KEYS) (is.has frame)

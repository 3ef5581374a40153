-- Where a curve stands, by the indices of its action and of the curve there.
use Rattle.std.specs.Prelude.{◌≡◌, ℕ, ◌<◌, List, length, slice_get, Bool, false, is_none, Option, Some, None, if◌then◌else◌, option_and_then, ℤ, IsTrue}
use Rattle.std.specs.Option.{option_or, option_map_or}
use Rattle.std.specs.List.{list_any}
use Rattle.std.specs.Ordering.{int_eq}
use Rattle.rig_scene.specs.declared.action.Action.{Action}
use Rattle.rig_scene.specs.declared.action.Curve.{Curve}
use Rattle.rig_scene.specs.declared.action.Key.{Key}
use Rattle.rig_scene.specs.declared.limits.TheConstants.{MAX_KEYS}
use Rattle.rig_scene.specs.declared.path.Path.{Path}
use Rattle.rig_scene.specs.Keys.{are_frames_rising}
use Rattle.rig_scene.specs.Scene.{SceneRecord}
use Rattle.rig_scene.specs.WellFormed.{key_count}
use Rattle.rig_edits.specs.declared.cause.EditCause.{EditCause}
use Rattle.rig_edits.specs.declared.cause.EditCause.TheVariants.{UnknownId, UnknownPart}
use Rattle.rig_edits.specs.declared.curve.CurvePlace.{CurvePlace}
use Rattle.rig_edits.specs.Conditions.{lacks_curve, has_key, full_at, when}
use Rattle.rig_edits.specs.Edited.{with_curve}
use Rattle.rig_edits.specs.Named.{action_named, update_at}

-- the first cause against a curve
abbrev pub curve_cause : SceneRecord → List ℕ → Path → Option EditCause
curve_cause s action path = option_or (when UnknownId (is_none (action_named s action))) (when UnknownPart (lacks_curve s action path))

-- whether the curve at a place has a key at a frame
abbrev pub has_key_at : List Action → CurvePlace → ℤ → Bool
has_key_at actions place frame =
    option_map_or (λ c. list_any (λ k. int_eq k.frame frame) c.keys)
    (option_and_then (λ a. slice_get a.curves place.curve) (slice_get actions place.action)) false

-- no room for a key at a frame of the curve at a place, where it would be one more
abbrev pub room_cause : List Action → CurvePlace → ℤ → Option EditCause
room_cause actions place frame = if has_key_at actions place frame then None else full_at (key_count actions) 1 MAX_KEYS

-- the keys of the curve at a place changed
abbrev pub keys_changed_at : (List Key → List Key) → CurvePlace → List Action → List Action
keys_changed_at change place actions =
    update_at (λ a. record a { curves = update_at (λ c. record c { keys = change c.keys }) place.curve a.curves }) place.action actions

-- a curve stands at a place, and its frames rise
pub record HasCurve (actions : List Action) (place : CurvePlace) : Type 0 where
  pub action_within : place.action < length actions
  pub curve_within : (a : Action) → slice_get actions place.action ≡ Some a → place.curve < length a.curves
  pub frames_rise : (a : Action) (c : Curve) → slice_get actions place.action ≡ Some a → slice_get a.curves place.curve ≡ Some c
      → IsTrue (are_frames_rising (λ k. k.frame) c.keys)

-- the place is that of the curve of a path, of the action of a name
pub record IsPlaceOf (s : SceneRecord) (action : List ℕ) (path : Path) (place : CurvePlace) : Type 0 where
  pub there : HasCurve s.actions place
  pub has : (frame : ℤ) → has_key s action path frame ≡ has_key_at s.actions place frame
  pub changed : (change : List Key → List Key) → with_curve s action path (λ c. record c { keys = change c.keys })
      ≡ record s { actions = keys_changed_at change place s.actions }

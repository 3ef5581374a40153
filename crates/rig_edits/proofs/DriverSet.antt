-- A driver that is set or cleared at its place is what the edit makes, and leaves a scene.
use Rattle.std.proofs.Common.{◌≡◌, ℕ, ◌≤◌, ◌&&◌, ◌||◌, Bool, true, false, not, List, [], ◌∷◌, ◌++◌, length, filter, slice_set, Option, Some, None, refl, sym, ap, subst, ◌∙◌, MatchOption}
use Rattle.std.proofs.Math.Path.{fun_ext}
use Rattle.std.specs.Prelude.{IsTrue, is_some, if◌then◌else◌}
use Rattle.std.specs.List.{position, list_any}
use Rattle.std.specs.Option.{option_map_or, option_or}
use Rattle.std.proofs.lemmas.Bool.{and_parts, true≢false}
use Rattle.rig_scene.specs.declared.driver.Driver.{Driver}
use Rattle.rig_scene.specs.declared.id.AnimId.{AnimId}
use Rattle.rig_scene.specs.declared.limits.TheConstants.{MAX_DRIVERS, MAX_VARIABLES}
use Rattle.rig_scene.specs.declared.path.Path.{Path}
use Rattle.rig_scene.specs.FactsHold.{scene_facts}
use Rattle.rig_scene.specs.Id.{same_id}
use Rattle.rig_scene.specs.Path.{same_path}
use Rattle.rig_scene.specs.Same.{same_id-equal, same_id-itself, same_path-equal, same_path-itself}
use Rattle.rig_scene.specs.Scene.{SceneRecord}
use Rattle.rig_scene.specs.WellFormed.{is_scene, same_target}
use Rattle.rig_edits.specs.declared.cause.EditCause.{EditCause}
use Rattle.rig_edits.specs.declared.cause.EditCause.TheVariants.{UnknownId, WrongKind, UnknownPath, UnknownPart}
use Rattle.rig_edits.specs.declared.driver.DriverPlace.{DriverPlace}
use Rattle.rig_edits.specs.declared.edit.Edit.TheVariants.{SetDriver, ClearDriver}
use Rattle.rig_edits.specs.declared.edit.IdName.{IdName}
use Rattle.rig_edits.specs.Conditions.{when, lacks_id, can_have, lacks_path, lacks_variable, is_variable_wrong, lacks_property, lacks_transform, full, first_cause}
use Rattle.rig_edits.specs.DriverByNames.{DriverByNames}
use Rattle.rig_edits.specs.DriverCauses.{first_of_four, channel_causes, variables_causes, earlier}
use Rattle.rig_edits.proofs.CauseOrder.{joined}
use Rattle.rig_edits.specs.DriverPlaces.{IsDriverPlace, put_at}
use Rattle.rig_edits.specs.Edited.{edited, new_driver, put_driver}
use Rattle.rig_edits.specs.KeepsDrivers.{keeps_set_driver, keeps_clear_driver}
use Rattle.rig_edits.specs.Named.{id_of, update_first}
use Rattle.rig_edits.proofs.FirstPassing.{list_any-find, updated_first}
use Rattle.rig_edits.proofs.StepFacts.{found}
use Rattle.rig_edits.specs.Steps.{FoundAt, FoundNowhere}

-- ---- the first cause

four_before : (a b c d : Bool) (rest : Option EditCause)
    → option_or (when UnknownId a) (option_or (when WrongKind b) (option_or (when UnknownPath c) (option_or (when UnknownPart d) rest)))
    ≡ option_or (first_of_four a b c d) rest
four_before true b c d rest = refl
four_before false true c d rest = refl
four_before false false true d rest = refl
four_before false false false true rest = refl
four_before false false false false rest = refl

module _ (s : SceneRecord) (id : IdName) (path : Path) (driver : DriverByNames) where
  -- that of the names comes first
  pub names_before : first_cause s (SetDriver id path driver)
      ≡ option_or (earlier (channel_causes s id path) (variables_causes s driver.variables)) (full s (SetDriver id path driver))
  names_before =
      four_before (lacks_id s id || list_any (lacks_variable s) driver.variables) (not (can_have s id path) || list_any (is_variable_wrong s) driver.variables)
      (lacks_path s id path || list_any (lacks_property s) driver.variables) (list_any (lacks_transform s) driver.variables) (full s (SetDriver id path driver))
      ∙ ap (λ r. option_or r (full s (SetDriver id path driver)))
      (sym (joined (lacks_id s id) (not (can_have s id path)) (lacks_path s id path) false (list_any (lacks_variable s) driver.variables)
      (list_any (is_variable_wrong s) driver.variables) (list_any (lacks_property s) driver.variables) (list_any (lacks_transform s) driver.variables)))

  pub names_cause_first : (cause : EditCause) → earlier (channel_causes s id path) (variables_causes s driver.variables) ≡ Some cause
      → first_cause s (SetDriver id path driver) ≡ Some cause
  names_cause_first cause e = names_before ∙ ap (λ r. option_or r (full s (SetDriver id path driver))) e

-- ---- the place

-- the two tests of a driver's channel are one
module _ (d : Driver) where
  tests_agree : (e : Driver) → (same_id e.id d.id && same_path e.path d.path) ≡ same_target d e
  tests_agree e = by (same_id e.id d.id && same_path e.path d.path) refl (same_target d e) refl
    where
      by : (a : Bool) → (same_id e.id d.id && same_path e.path d.path) ≡ a → (b : Bool) → same_target d e ≡ b → a ≡ b
      by true is true also = refl
      by false is false also = refl
      by true is false also =
          let parts = and_parts (same_id e.id d.id) (same_path e.path d.path) is in
          let target : same_target d e ≡ true =
          rw (same_id-equal e.id d.id parts.0, same_path-equal e.path d.path parts.1, same_id-itself d.id, same_path-itself d.path) refl in
          absurd (true≢false (sym target ∙ also))
      by false is true also =
          let parts = and_parts (same_id d.id e.id) (same_path d.path e.path) also in
          let target : (same_id e.id d.id && same_path e.path d.path) ≡ true =
          rw (same_id-equal d.id e.id parts.0, same_path-equal d.path e.path parts.1, same_id-itself e.id, same_path-itself e.path) refl in
          absurd (true≢false (sym target ∙ is))

  -- it is put in the place of the one of its channel
  put_in_place : (ds : List Driver) (index : Option ℕ) → position (same_target d) ds ≡ index → put_driver d ds ≡ put_at index d ds
  put_in_place ds index e = by (position (same_target d) ds) (found (same_target d) ds) e
    where
      by : (r : Option ℕ) → MatchOption r (FoundNowhere (same_target d) ds) (FoundAt (same_target d) ds) → r ≡ index → put_driver d ds ≡ put_at index d ds
      by None none is =
          ap (λ b. if b then update_first (same_target d) (λ _. d) ds else ds ++ d ∷ []) (list_any-find (same_target d) ds ∙ ap is_some none.is_found)
          ∙ ap (λ i. put_at i d ds) is
      by (Some i) at is =
          ap (λ b. if b then update_first (same_target d) (λ _. d) ds else ds ++ d ∷ []) (list_any-find (same_target d) ds ∙ ap is_some at.is_found)
          ∙ updated_first (same_target d) (λ _. d) ds i at.is_position ∙ ap (λ (r : Option Driver). option_map_or (λ x. slice_set ds i d) r ds) at.is_at
          ∙ ap (λ i. put_at i d ds) is

module _ (s : SceneRecord) (id : IdName) (path : Path) (driver : DriverByNames) (place : DriverPlace) (at : IsDriverPlace s id path place) where
  -- what the edit makes
  pub driver_put : edited s (SetDriver id path driver) ≡ record s { drivers = put_at place.index (new_driver s place.id path driver) s.drivers }
  driver_put =
      ap (λ (r : Option AnimId). option_map_or (λ a. record s { drivers = put_driver (new_driver s a path driver) s.drivers }) r s) at.is_id
      ∙ ap (λ ds. record s { drivers = ds })
      (put_in_place (new_driver s place.id path driver) s.drivers place.index
      (ap (λ t. position t s.drivers) (sym (fun_ext (tests_agree (new_driver s place.id path driver)))) ∙ at.is_position))

-- ---- the scene that is left

-- what the scene holds stands for the scene
pub driver_set_kept : (held s : SceneRecord) → held ≡ s → IsTrue (is_scene held) → (id : IdName) (path : Path) (driver : DriverByNames)
    → (1 ≤ length driver.variables) × (length driver.variables ≤ MAX_VARIABLES)
    → (place : DriverPlace) → (first_cause s (SetDriver id path driver) ≡ None) × IsDriverPlace s id path place
    → IsTrue (is_scene (record held { drivers = put_at place.index (new_driver s place.id path driver) held.drivers }))
driver_set_kept held s view is id path driver few place at =
    subst (λ t. IsTrue (is_scene t))
    (driver_put s id path driver place at.1
    ∙ ap (λ (t : SceneRecord). record t { drivers = put_at place.index (new_driver s place.id path driver) t.drivers }) (sym view))
    (keeps_set_driver s id path driver few (subst (λ t. IsTrue (is_scene t)) view is) at.0)

pub driver_cleared_kept : (held s : SceneRecord) → held ≡ s → IsTrue (is_scene held) → (id : IdName) (path : Path) (a : AnimId)
    → (first_cause s (ClearDriver id path) ≡ None) × (id_of s id ≡ Some a)
    → IsTrue (is_scene (record held { drivers = filter (λ d. not (same_id d.id a && same_path d.path path)) held.drivers }))
driver_cleared_kept held s view is id path a at =
    subst (λ t. IsTrue (is_scene t))
    (ap (λ (r : Option AnimId). option_map_or (λ a. record s { drivers = filter (λ d. not (same_id d.id a && same_path d.path path)) s.drivers }) r s) at.1
    ∙ ap (λ (t : SceneRecord). record t { drivers = filter (λ d. not (same_id d.id a && same_path d.path path)) t.drivers }) (sym view))
    (keeps_clear_driver s id path (subst (λ t. IsTrue (is_scene t)) view is) at.0)

-- how many drivers there are
pub few_drivers : (s : SceneRecord) → IsTrue (is_scene s) → (n : ℕ) → n ≡ length s.drivers → n ≤ MAX_DRIVERS
few_drivers s is n e = subst (λ n. n ≤ MAX_DRIVERS) (sym e) (scene_facts s is).drivers.count

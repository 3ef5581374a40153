-- Scripts: what is wrong with one, and what its members give.
use Rattle.std.specs.Prelude.{ℕ, ◌-◌, ◌&&◌, ◌||◌, not, List, [], ◌∷◌, ◌++◌, codes, Bool, true, false, option_map, if◌then◌else◌, nat_le, unwrap_or}
use Rattle.std.specs.List.{list_any}
use Rattle.std.specs.Option.{option_map_or}
use Rattle.serde_json.specs.Data.{Data, null}
use Rattle.rig_scene.specs.declared.limits.TheConstants.{MAX_STEPS, MAX_FULL_FRAMES}
use Rattle.rig_scene.specs.declared.modifier.Mode.{Mode}
use Rattle.rig_scene.specs.declared.modifier.Mode.TheVariants.{Viewport, Render}
use Rattle.rig_scenejson.specs.declared.fault.Cause.TheVariants.{WrongKind, Duplicate, Count}
use Rattle.rig_scenejson.specs.declared.fault.Fault.{Fault}
use Rattle.rig_scenejson.specs.declared.member.Member.TheVariants as m
use Rattle.rig_scenejson.specs.Given.{has, items_at, truth_at, frame_at, values}
use Rattle.rig_scenejson.specs.PassOne.{list_faults}
use Rattle.rig_scenejson.specs.Tests.{fault, unless, field, required, optional, items_after}
use Rattle.rig_scenejson.specs.Value.{record_faults, text_of, truth_of, truth_faults, frame_faults, word_faults, is_among, item_count}
use Rattle.rig_scriptjson.specs.declared.script.Script.{Script}
use Rattle.rig_scriptjson.specs.declared.script.Step.{Step}
use Rattle.rig_scriptjson.specs.declared.script.Step.TheVariants.{Edit, Frame}
use Rattle.rig_scriptjson.specs.declared.script.Track.{Track}
use Rattle.rig_scriptjson.specs.declared.before.TracksBefore.{TracksBefore}
use Rattle.rig_scriptjson.specs.EditFaults.{edit_faults}
use Rattle.rig_scriptjson.specs.EditGiven.{edit_given, mode_of}

-- ---- steps

-- a step is a frame where it has a member `frame` and no member `edit`
abbrev pub is_frame_step : Data → Bool
is_frame_step d = has m.Frame d && not (has m.Edit d)

-- S2; S10 where it is one full frame too many
abbrev pub full_faults : ℕ → Data → List Fault
full_faults full_left d = truth_faults d ++ unless (not (truth_of d) || nat_le 1 full_left) Count

-- S2 at the frame in a track without a mode, before its value is tested
abbrev pub frame_step_faults : Bool → ℕ → Data → List Fault
frame_step_faults has_mode full_left d =
    required m.Frame (λ f. if has_mode then frame_faults f else fault WrongKind) d ++ optional m.Full (full_faults full_left) d

abbrev pub step_faults : Bool → ℕ → Data → List Fault
step_faults has_mode full_left d =
    record_faults d ++ (if is_frame_step d then frame_step_faults has_mode full_left d else edit_faults d)

-- how many more frames may be full
abbrev pub after_step : ℕ → Data → ℕ
after_step full_left d = if is_frame_step d && truth_at false m.Full d then full_left - 1 else full_left

abbrev pub step_given : Data → Step
step_given d = if is_frame_step d then Frame (frame_at m.Frame d) (truth_at false m.Full d) else Edit (edit_given d)

-- ---- tracks

abbrev pub same_mode : Mode → Mode → Bool
same_mode Viewport Viewport = true
same_mode Render Render = true
same_mode a b = false

-- S2, S4; S6 where an earlier track owns the mode
abbrev pub mode_faults : List Mode → Data → List Fault
mode_faults owned d =
    word_faults (is_among (codes "viewport" ∷ codes "render" ∷ [])) d ++ unless (not (list_any (same_mode (mode_of (text_of d))) owned)) Duplicate

-- the modes that are owned after a track
abbrev pub modes_after : List Mode → Data → List Mode
modes_after owned d = option_map_or (λ w. owned ++ mode_of (text_of w) ∷ []) (field m.Mode d) owned

abbrev pub track_faults : TracksBefore → Data → List Fault
track_faults before d =
    record_faults d ++ optional m.Mode (mode_faults before.modes) d
    ++ optional m.Steps (list_faults 0 before.steps_left (step_faults (has m.Mode d)) after_step before.full_left) d

abbrev pub after_track : TracksBefore → Data → TracksBefore
after_track before d = record {
  modes = modes_after before.modes d;
  steps_left = before.steps_left - item_count (items_at m.Steps d);
  full_left = items_after after_step before.full_left (items_at m.Steps d);
}

abbrev pub track_given : Data → Track
track_given d = record { mode = option_map (λ w. mode_of (text_of w)) (field m.Mode d); steps = values step_given (items_at m.Steps d) }

-- ---- scripts

abbrev pub no_tracks : TracksBefore
no_tracks = record { modes = []; steps_left = MAX_STEPS; full_left = MAX_FULL_FRAMES }

-- of so many tracks at the most
abbrev pub script_faults : ℕ → Data → List Fault
script_faults most d = record_faults d ++ optional m.Tracks (list_faults 0 most track_faults after_track no_tracks) d

abbrev pub script_given : Data → Script
script_given d = record { tracks = values track_given (items_at m.Tracks d) }

-- the faults of an input that concern its script
abbrev pub input_faults : ℕ → Data → List Fault
input_faults most d = record_faults d ++ required m.Script (script_faults most) d

-- the script that an input gives
abbrev pub script_of_input : Data → Script
script_of_input d = script_given (unwrap_or (field m.Script d) null)

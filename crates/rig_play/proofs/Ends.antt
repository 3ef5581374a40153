-- How a run ends, from what its parts say.
use Rattle.std.proofs.Common.{◌≡◌, ◌≢◌, ℕ, ◌+◌, ◌≤◌, ◌⊎◌, List, Bool, true, false, length, Option, Some, None, inl, inr, refl, sym, ap, subst, arith, ◌∙◌}
use Rattle.std.proofs.Math.Nat.{add-zero}
use Rattle.std.specs.Prelude.{if◌then◌else◌, option_and_then, String}
use Rattle.std.specs.declared.alloc.Global.{Global}
use Rattle.serde_json.specs.Data.{Data}
use Rattle.rig_scene.specs.declared.limits.TheConstants.{MAX_INPUT_BYTES}
use Rattle.rig_scene.specs.Scene.{SceneRecord}
use Rattle.rig_scenejson.specs.declared.fault.Fault.{Fault}
use Rattle.rig_scenejson.specs.Reading.{scene_of_input, input_faults as scene_faults}
use Rattle.rig_scenejson.specs.Tests.{first}
use Rattle.rig_scriptjson.specs.Script.{script_of_input, input_faults as script_faults}
use Rattle.rig_io.specs.Bytes.{Appended, GaveAll}
use Rattle.rig_play.specs.declared.command.Command.{Command}
use Rattle.rig_play.specs.declared.command.Command.TheVariants.{Check, Eval, Play, Rehearse}
use Rattle.rig_play.specs.declared.input.TheConstants.{MAX_EVAL_TRACKS}
use Rattle.rig_play.specs.declared.status.Status.{Status}
use Rattle.rig_play.specs.declared.status.Status.TheVariants as status
use Rattle.rig_play.specs.Input.{InputRecord, Contents, NotJson, BadScene, BadScript, Unbuilt, Checked, Playable, by_check, by_reading, by_scene, checked_in, contents_for, contents_to_check, contents_to_play, is_plain, played_in, reading_of}
use Rattle.rig_play.specs.declared.command.CommandLine.{CommandLine}
use Rattle.rig_play.specs.Command.{command_line_of}
use Rattle.rig_play.specs.Run.{Checks, EndsAs, Plays, built, built_command, ran_for, status_for, text_for}

-- Ok is the status of an input that is played
pub playable : (bytes : List ℕ) → status_for (contents_to_play bytes) ≡ status.Ok → (input : InputRecord) × (contents_to_play bytes ≡ Playable input)
unfolding contents_to_play
playable bytes e = by_value (reading_of bytes) e
  where
    by_plain : (b : Bool) (input : InputRecord) → status_for (if b then Playable input else Unbuilt) ≡ status.Ok
        → (played : InputRecord) × ((if b then Playable input else Unbuilt) ≡ Playable played)
    by_plain true input e = (input, refl)
    by_plain false input e = cc

    by_faults : (scene script : Option Fault) (input : InputRecord) → status_for (by_scene scene script input) ≡ status.Ok
        → (played : InputRecord) × (by_scene scene script input ≡ Playable played)
    by_faults (Some fault) script input e = cc
    by_faults None (Some fault) input e = cc
    by_faults None None input e = by_plain (is_plain input) input e

    by_value : (reading : Option Data) → status_for (by_reading played_in reading) ≡ status.Ok
        → (played : InputRecord) × (by_reading played_in reading ≡ Playable played)
    by_value None e = cc
    by_value (Some d) e =
        by_faults (first (scene_faults d)) (first (script_faults MAX_EVAL_TRACKS d)) (record { scene = scene_of_input d; script = script_of_input d }) e

-- and of a scene that is checked
pub checkable : (bytes : List ℕ) → status_for (contents_to_check bytes) ≡ status.Ok → (scene : SceneRecord) × (contents_to_check bytes ≡ Checked scene)
unfolding contents_to_check
checkable bytes e = by_value (reading_of bytes) e
  where
    by_faults : (found : Option Fault) (scene : SceneRecord) → status_for (by_check found scene) ≡ status.Ok
        → (checked : SceneRecord) × (by_check found scene ≡ Checked checked)
    by_faults (Some fault) scene e = cc
    by_faults None scene e = (scene, refl)

    by_value : (reading : Option Data) → status_for (by_reading checked_in reading) ≡ status.Ok
        → (checked : SceneRecord) × (by_reading checked_in reading ≡ Checked checked)
    by_value None e = cc
    by_value (Some d) e = by_faults (first (scene_faults d)) (scene_of_input d) e

-- the statuses that no bytes call for
pub others : (contents : Contents) → (status_for contents ≢ status.Usage) × (status_for contents ≢ status.ReadFault) × (status_for contents ≢ status.TooLong)
others NotJson = (λ e. cc, λ e. cc, λ e. cc)
others (BadScene fault) = (λ e. cc, λ e. cc, λ e. cc)
others (BadScript fault) = (λ e. cc, λ e. cc, λ e. cc)
others Unbuilt = (λ e. cc, λ e. cc, λ e. cc)
others (Checked scene) = (λ e. cc, λ e. cc, λ e. cc)
others (Playable input) = (λ e. cc, λ e. cc, λ e. cc)

-- a failed write is none of them
pub is_written : (contents : Contents) → status_for contents ≢ status.WriteFault
is_written NotJson = λ e. cc
is_written (BadScene fault) = λ e. cc
is_written (BadScript fault) = λ e. cc
is_written Unbuilt = λ e. cc
is_written (Checked scene) = λ e. cc
is_written (Playable input) = λ e. cc

-- the words of a built command are those of `eval` or of `check`
pub one_of_two : (words : List (String Global)) (command : Command) → built words ≡ Some command →
    (built words ≡ Some Eval) ⊎ (built words ≡ Some Check)
one_of_two words command e = by_line (command_line_of words) e
  where
    by_command : (c : Command) → built_command c ≡ Some command → (built_command c ≡ Some Eval) ⊎ (built_command c ≡ Some Check)
    by_command Check e = inr refl
    by_command Eval e = inl refl
    by_command Play e = cc
    by_command Rehearse e = cc

    by_line : (line : Option CommandLine) → option_and_then (λ l. built_command l.command) line ≡ Some command
        → (option_and_then (λ l. built_command l.command) line ≡ Some Eval) ⊎ (option_and_then (λ l. built_command l.command) line ≡ Some Check)
    by_line None e = cc
    by_line (Some line) e = by_command line.command e

-- `eval` that ended with Ok played
pub plays : (command : Command) (left after written written_after : Option (List ℕ)) (count count_after : ℕ) (bytes : List ℕ) →
    Some command ≡ Some Eval → GaveAll left after bytes → length bytes ≤ MAX_INPUT_BYTES → status_for (contents_for command bytes) ≡ status.Ok →
    Appended written written_after (text_for (contents_for command bytes)) → count_after ≡ count + ran_for (contents_for command bytes) →
    Plays left after written written_after count count_after
plays Eval left after written written_after count count_after bytes is gave few ok appended counted =
    let played = playable bytes ok in
    record {
      bytes = bytes;
      input = played.0;
      read = gave;
      few = few;
      contents = played.1;
      output = subst (λ t. Appended written written_after (text_for t)) played.1 appended;
      ticks = counted ∙ ap (λ t. count + ran_for t) played.1;
    }
plays Check left after written written_after count count_after bytes is gave few ok appended counted = cc
plays Play left after written written_after count count_after bytes is gave few ok appended counted = cc
plays Rehearse left after written written_after count count_after bytes is gave few ok appended counted = cc

-- and `check` checked
pub checks : (command : Command) (left after written written_after : Option (List ℕ)) (count count_after : ℕ) (bytes : List ℕ) →
    Some command ≡ Some Check → GaveAll left after bytes → length bytes ≤ MAX_INPUT_BYTES → status_for (contents_for command bytes) ≡ status.Ok →
    Appended written written_after (text_for (contents_for command bytes)) → count_after ≡ count + ran_for (contents_for command bytes) →
    Checks left after written written_after count count_after
checks Check left after written written_after count count_after bytes is gave few ok appended counted =
    let checked = checkable bytes ok in
    record {
      bytes = bytes;
      scene = checked.0;
      read = gave;
      few = few;
      contents = checked.1;
      output = subst (λ t. Appended written written_after (text_for t)) checked.1 appended;
      ticks = counted ∙ ap (λ t. count + ran_for t) checked.1 ∙ add-zero count;
    }
checks Eval left after written written_after count count_after bytes is gave few ok appended counted = cc
checks Play left after written written_after count count_after bytes is gave few ok appended counted = cc
checks Rehearse left after written written_after count count_after bytes is gave few ok appended counted = cc

-- bytes that were read to their end decide how the run ends
pub ends_whole : (command : Command) (left after : Option (List ℕ)) (bytes : List ℕ) (ended : Status) → GaveAll left after bytes → length bytes ≤ MAX_INPUT_BYTES →
    (ended ≡ status_for (contents_for command bytes)) ⊎ (ended ≡ status.NoMemory) → EndsAs command left ended
ends_whole command None after bytes ended gave few end = tt
ends_whole command (Some left) after bytes ended gave few end =
    let P : List ℕ → Type 0 = λ t. (ended ≡ status_for (contents_for command t)) ⊎ (ended ≡ status.NoMemory) in
    (λ _. subst P (sym gave.0) end, λ many. absurd (omega (arith, many, few, ap length gave.0)))

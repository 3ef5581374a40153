-- What a run of the program does, by how it ends.
use Rattle.std.specs.Prelude.{◌≡◌, ℕ, ◌+◌, ◌*◌, ◌^◌, ◌≤◌, ◌<◌, ◌⊎◌, List, ◌++◌, length, codes, All, Bool, true, false, Option, Some, None, option_and_then, String}
use Rattle.std.specs.declared.alloc.Global.{Global}
use Rattle.rig_io.specs.Bytes.{GaveAll, GaveOneMore, Appended, AppendedPrefix}
use Rattle.rig_scene.specs.declared.limits.TheConstants.{MAX_INPUT_BYTES, MAX_WORKERS}
use Rattle.rig_text.specs.Fault.{fault_line}
use Rattle.rig_text.specs.Line.{line_feed}
use Rattle.rig_play.specs.declared.command.Command.{Command}
use Rattle.rig_play.specs.declared.command.Command.TheVariants.{Check, Eval}
use Rattle.rig_play.specs.declared.status.Status.{Status}
use Rattle.rig_play.specs.declared.status.Status.TheVariants as status
use Rattle.rig_scene.specs.Scene.{SceneRecord}
use Rattle.rig_play.specs.Check.{check_text_of}
use Rattle.rig_play.specs.Command.{command_line_of}
use Rattle.rig_play.specs.Input.{InputRecord, Contents, NotJson, BadScene, BadScript, Unbuilt, Checked, Playable, contents_for}
use Rattle.rig_play.specs.Output.{output_text, ran_in}

-- counts that are handed in: one for each of the most workers of two graphs, each far from its end
abbrev pub AreTallies : {Y : Type 0} → (Y → ℕ) → List Y → Type 0
AreTallies count tallies = (length tallies ≡ 2 * MAX_WORKERS) × All (λ t. count t ≤ 2 ^ 61) tallies

-- ---- words

-- a command where it is built: `check` or `eval`
abbrev pub built_command : Command → Option Command
built_command Check = Some Check
built_command Eval = Some Eval
built_command command = None

-- the command of words that are a command line, where it is built
abbrev pub built : List (String Global) → Option Command
built words = option_and_then (λ line. built_command line.command) (command_line_of words)

-- ---- lines

-- the line for words that aren't a command line
abbrev pub usage_line : List ℕ
usage_line = codes "usage: rigplay <check|eval|play|rehearse> [--workers N] [--trace] [--size N]" ++ line_feed

-- the line for an input that is longer than the limit
abbrev pub too_long_line : List ℕ
too_long_line = codes "fault TooLong" ++ line_feed

-- the line for an input that has no JSON reading
abbrev pub not_json_line : List ℕ
not_json_line = codes "fault NotJson" ++ line_feed

-- the line for an input that can't be played yet
abbrev pub unbuilt_line : List ℕ
unbuilt_line = codes "fault Unbuilt" ++ line_feed

-- ---- what an input calls for

-- the status with which a run ends for what its bytes stand for, unless memory or a write fails
abbrev pub status_for : Contents → Status
status_for NotJson = status.NotJson
status_for (BadScene fault) = status.BadScene
status_for (BadScript fault) = status.BadScript
status_for Unbuilt = status.Unbuilt
status_for (Checked scene) = status.Ok
status_for (Playable input) = status.Ok

-- the text that is to be written: the line of the first fault, what is told of a checked scene, or the text of the play
abbrev pub text_for : Contents → List ℕ
text_for NotJson = not_json_line
text_for (BadScene fault) = fault_line fault true
text_for (BadScript fault) = fault_line fault false
text_for Unbuilt = unbuilt_line
text_for (Checked scene) = check_text_of scene
text_for (Playable input) = output_text input.scene input.script.tracks

-- how many operations run at most: none where nothing is played
abbrev pub ran_for : Contents → ℕ
ran_for (Playable input) = ran_in input.scene input.script.tracks
ran_for contents = 0

-- ---- how a run ends

-- the source was read to its end, and its bytes are these, no more than the limit
abbrev pub ReadWhole : Option (List ℕ) → Option (List ℕ) → List ℕ → Type 0
ReadWhole left left_after bytes = GaveAll left left_after bytes × (length bytes ≤ MAX_INPUT_BYTES)

-- The source was read to its end, its bytes stand for an input that is played, the sink got the text of its play, and the counts
-- together rose by the operations that ran.
pub record Plays (left left_after written written_after : Option (List ℕ)) (count count_after : ℕ) : Type 0 where
  pub bytes : List ℕ
  pub input : InputRecord
  pub read : GaveAll left left_after bytes
  pub few : length bytes ≤ MAX_INPUT_BYTES
  pub contents : contents_for Eval bytes ≡ Playable input
  pub output : Appended written written_after (output_text input.scene input.script.tracks)
  pub ticks : count_after ≡ count + ran_in input.scene input.script.tracks

-- The source was read to its end, its bytes stand for a scene without a fault, the sink got what is told of it, and nothing was
-- counted.
pub record Checks (left left_after written written_after : Option (List ℕ)) (count count_after : ℕ) : Type 0 where
  pub bytes : List ℕ
  pub scene : SceneRecord
  pub read : GaveAll left left_after bytes
  pub few : length bytes ≤ MAX_INPUT_BYTES
  pub contents : contents_for Check bytes ≡ Checked scene
  pub output : Appended written written_after (check_text_of scene)
  pub ticks : count_after ≡ count

-- the statuses that tell what is wrong with an input that was read to its end
abbrev pub is_refusal : Status → Bool
is_refusal status.NotJson = true
is_refusal status.BadScene = true
is_refusal status.BadScript = true
is_refusal status.Unbuilt = true
is_refusal status = false

-- The command is built, the source was read to its end, the status is that of what its bytes stand for, and the sink got its line.
pub record Refuses (built : Option Command) (left left_after written written_after : Option (List ℕ)) (ended : Status) : Type 0 where
  pub command : Command
  pub bytes : List ℕ
  pub is_built : built ≡ Some command
  pub read : GaveAll left left_after bytes
  pub few : length bytes ≤ MAX_INPUT_BYTES
  pub cause : ended ≡ status_for (contents_for command bytes)
  pub output : Appended written written_after (text_for (contents_for command bytes))

-- The counts together rose by no more than what runs for the bytes that were read, and not at all before all were read, or where no
-- command is built.
abbrev pub CountsAtMost : Option Command → Option (List ℕ) → Option (List ℕ) → ℕ → ℕ → Type 0
CountsAtMost None left left_after count count_after = count_after ≡ count
CountsAtMost (Some command) left left_after count count_after =
    (count_after ≡ count)
    ⊎ ((bytes : List ℕ) × ReadWhole left left_after bytes × (count ≤ count_after)
    × (count_after ≤ count + ran_for (contents_for command bytes)))

-- The text that the command and what the source gave call for: the usage line where no command is built; for too many bytes the
-- line that says so; else what the bytes call for.
abbrev pub CallsFor : Option Command → Option (List ℕ) → Option (List ℕ) → List ℕ → Type 0
CallsFor None left left_after text = text ≡ usage_line
CallsFor (Some command) left left_after text =
    (GaveOneMore left left_after MAX_INPUT_BYTES × (text ≡ too_long_line))
    ⊎ ((bytes : List ℕ) × ReadWhole left left_after bytes × (text ≡ text_for (contents_for command bytes)))

-- a prefix of the text that is called for was written
abbrev pub WrotePrefix : Option Command → Option (List ℕ) → Option (List ℕ) → Option (List ℕ) → Option (List ℕ) → Type 0
WrotePrefix command left left_after written written_after =
    (text : List ℕ) × CallsFor command left left_after text × AppendedPrefix written written_after text

-- how a run ends where nothing fails: the bytes that a telling source has decide, want of memory apart
abbrev pub EndsAs : Command → Option (List ℕ) → Status → Type 0
EndsAs command None ended = Unit {0}
EndsAs command (Some bytes) ended =
    (length bytes ≤ MAX_INPUT_BYTES → (ended ≡ status_for (contents_for command bytes)) ⊎ (ended ≡ status.NoMemory))
    × (MAX_INPUT_BYTES < length bytes → (ended ≡ status.TooLong) ⊎ (ended ≡ status.NoMemory))

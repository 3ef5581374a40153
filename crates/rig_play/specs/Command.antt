-- Which words are a command line of the program, and what it says. Which word is an option, which is its value and which
-- is the command is what clap's own definition says of the argument list `app`.
use Rattle.std.specs.Prelude.{◌≤◌, ℕ, Bool, true, false, List, [], ◌∷◌, Option, Some, None, String, string_bytes, codes}
use Rattle.std.specs.Prelude.{if◌then◌else◌, map, option_and_then, option_map, pos}
use Rattle.std.specs.Option.{option_map_or}
use Rattle.std.specs.Str.{bytes_eq}
use Rattle.std.specs.Str.Parse.{digits_value, without_leading_plus}
use Rattle.std.specs.declared.alloc.Global.{Global}
use Rattle.clap.specs.Words.{App, Row, Rule, Text, first_of, matches_of, new_app, new_rule, one_of}
use Rattle.clap.specs.Faults.{fault_of}
use Rattle.clap.specs.Kinds.{Kinds}
use Rattle.clap.specs.declared.builder.action.ArgAction.TheVariants.{Set, SetTrue}
use Rattle.clap.specs.declared.builder.value_parser.ValueParser.TheVariants.{Signed}
use Rattle.rig_scene.specs.declared.limits.TheConstants.{MAX_WORKERS}
use Rattle.rig_play.specs.declared.command.TheConstants.{MAX_SIZE}
use Rattle.rig_play.specs.declared.command.Command.{Command}
use Rattle.rig_play.specs.declared.command.Command.TheVariants.{Check, Eval, Play, Rehearse}
use Rattle.rig_play.specs.declared.command.CommandLine.{CommandLine}

-- ---- the arguments that clap reads

-- the command, which is required and stands by itself
abbrev pub command_argument : Rule
command_argument = record (new_rule (codes "command")) { required = true }

-- an option `--name N` with a number from 1 to `most`, which is 1 where the words don't give it
abbrev pub number_option : Text → ℕ → Rule
number_option name most = record (new_rule name) {
  long = Some name;
  action = Some Set;
  parser = Some (Signed (pos 1) (pos most));
  defaults = codes "1" ∷ [];
}

-- the flag `--trace`
abbrev pub trace_flag : Rule
trace_flag = record (new_rule (codes "trace")) { long = Some (codes "trace"); action = Some SetTrue }

-- the program as clap sees it: it answers no request for help or for a version
unfoldable pub app : App
app = record {
  top = record (new_app (codes "rigplay")).top {
    rules = command_argument ∷ number_option (codes "workers") MAX_WORKERS ∷ number_option (codes "size") MAX_SIZE ∷ trace_flag ∷ [];
    disable_help_flag = true;
    disable_version_flag = true;
  };
  subs = [];
}

-- ---- what the matches say

-- the command of a word
abbrev pub command_of : Text → Option Command
command_of word =
    if bytes_eq word (codes "check") then Some Check
    else (if bytes_eq word (codes "eval") then Some Eval
    else (if bytes_eq word (codes "play") then Some Play
    else (if bytes_eq word (codes "rehearse") then Some Rehearse else None)))

-- the number of an option
abbrev pub number_of : Text → List Row → ℕ
number_of id rows = option_map_or (λ text. digits_value 10 (without_leading_plus text)) (one_of id rows) 0

-- whether a flag is set
abbrev pub is_set : Text → List Row → Bool
is_set id rows = option_map_or (λ text. bytes_eq text (codes "true")) (one_of id rows) false

-- the command line with this command and these options
abbrev pub line_with : List Row → Command → CommandLine
line_with rows command = record {
  command = command;
  workers = number_of (codes "workers") rows;
  size = number_of (codes "size") rows;
  trace = is_set (codes "trace") rows;
}

-- what the matches say, where they name one of the commands
abbrev pub line_of : List Row → Option CommandLine
line_of rows = option_map (line_with rows) (option_and_then command_of (first_of (codes "command") rows))

-- what the matches say, where clap finds no fault with the words
abbrev pub line_without : Kinds → List Row → Option CommandLine
line_without [] rows = line_of rows
line_without (fault ∷ faults) rows = None

-- what the texts of the words say
abbrev pub line_of_texts : List Text → Option CommandLine
line_of_texts words = line_without (fault_of app words) (matches_of app words)

-- what the words say, of which the first is the program's name
unfoldable pub command_line_of : List (String Global) → Option CommandLine
command_line_of words = line_of_texts (map string_bytes words)

-- the numbers of a command line are in their bounds
pub record InBounds (line : CommandLine) : Type 0 where
  pub workers : (1 ≤ line.workers) × (line.workers ≤ MAX_WORKERS)
  pub size : (1 ≤ line.size) × (line.size ≤ MAX_SIZE)

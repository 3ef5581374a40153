-- What the proofs need of the argument list and of a parse: that the options hold numbers in their bounds.
use Rattle.std.specs.Prelude.{◌≡◌, ◌≤◌, ℕ, false, List, [], ◌∷◌, Some, None, codes, pos}
use Rattle.clap.specs.Words.{IsPlain, IsSignedIn, Text, args_of, fault_of, found_of, matches_of, one_text, rows_of, without_minus}
use Rattle.clap.specs.Facts.{WantsDefault, least_values}
use Rattle.clap.specs.declared.builder.action.ArgAction.TheVariants.{Set}
use Rattle.clap.specs.declared.builder.arg.Arg.{Arg}
use Rattle.clap.specs.declared.builder.command.Command.{Command}
use Rattle.clap.specs.declared.builder.command.Command.TheViews.{out-Command}
use Rattle.clap.specs.declared.builder.value_parser.ValueParser.TheVariants.{Signed}
use Rattle.clap.specs.declared.parser.matches.ArgMatches.{ArgMatches}
use Rattle.rig_scene.specs.declared.limits.TheConstants.{MAX_WORKERS}
use Rattle.rig_play.specs.declared.command.TheConstants.{MAX_SIZE}
use Rattle.rig_play.specs.Command.{app}

-- an argument that takes one number from 1 to `most`, and has a default
pub record IsNumberOption (name : Text) (most : ℕ) (a : Arg) : Type 0 where
  pub id : a.id.now ≡ name
  pub action : a.action ≡ Some Set
  pub delimiter : a.val_delim ≡ None
  pub least : 1 ≤ least_values a
  pub default : WantsDefault a
  pub parser : a.value_parser ≡ Some (Signed (pos 1) (pos most))
  pub ignore_case : a.ignore_case ≡ false

-- the arguments of the program, in their order
pub record HasOptions (c : Command) : Type 0 where
  pub command : Arg
  pub workers : Arg
  pub size : Arg
  pub trace : Arg
  pub args : args_of c ≡ command ∷ workers ∷ size ∷ trace ∷ []
  pub command_id : command.id.now ≡ codes "command"
  pub trace_id : trace.id.now ≡ codes "trace"
  pub workers_option : IsNumberOption (codes "workers") MAX_WORKERS workers
  pub size_option : IsNumberOption (codes "size") MAX_SIZE size
  pub plain : IsPlain c
  pub globals : (out-Command c).has_globals ≡ false

-- the text of an option is a number from 1 to `most`
pub record HasNumber (id : Text) (most : ℕ) (m : ArgMatches) : Type 0 where
  pub text : Text
  pub found : one_text (found_of m) id ≡ Some (without_minus text)
  pub passes : IsSignedIn (pos 1) (pos most) text

-- what is known of the matches that a parse gave
pub record IsRead (words : List Text) (m : ArgMatches) : Type 0 where
  pub faultless : fault_of app words ≡ []
  pub rows : rows_of (found_of m) ≡ matches_of app words
  pub workers : HasNumber (codes "workers") MAX_WORKERS m
  pub size : HasNumber (codes "size") MAX_SIZE m

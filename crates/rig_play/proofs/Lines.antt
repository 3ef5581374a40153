-- A command line is what the matches of a faultless parse say, and none where clap finds a fault.
use Rattle.std.proofs.Common.{◌≡◌, ◌∙◌, ap, sym, refl, List, [], ◌∷◌, Option, Some, None, String, string_bytes}
use Rattle.std.specs.Prelude.{Err, IfOk, map, ok_or}
use Rattle.std.specs.declared.alloc.Global.{Global}
use Rattle.clap.specs.Words.{found_of, rows_of}
use Rattle.clap.specs.Faults.{fault_of}
use Rattle.clap.specs.Kinds.{Kinds}
use Rattle.clap.specs.declared.parser.matches.ArgMatches.{ArgMatches}
use Rattle.rig_play.specs.declared.command.CommandLine.{CommandLine}
use Rattle.rig_play.specs.declared.command.CommandStop.TheVariants.{Refused}
use Rattle.rig_play.specs.Command.{app, command_line_of, line_of, line_of_texts}
use Rattle.rig_play.specs.Options.{IsRead}

pub line_read : (words : List (String Global)) (m : ArgMatches) → IsRead (map string_bytes words) m
    → (o : Option CommandLine) → o ≡ line_of (rows_of (found_of m)) → command_line_of words ≡ o
unfolding command_line_of
line_read words m read o is = rw (read.faultless) (ap line_of (sym read.rows) ∙ sym is)

pub no_line : (words : List (String Global)) → (fault_of app (map string_bytes words) ≡ [] → ⊥) → command_line_of words ≡ None
unfolding command_line_of
no_line words fault = go (fault_of app (map string_bytes words)) refl
  where
    go : (kinds : Kinds) → fault_of app (map string_bytes words) ≡ kinds → line_of_texts (map string_bytes words) ≡ None
    go [] e = absurd (fault e)
    go (k ∷ ks) e = rw e refl

pub ok_line : (said o : Option CommandLine) → said ≡ o → IfOk (ok_or o Refused) (λ line. said ≡ Some line)
ok_line said None e = tt
ok_line said (Some line) e = e

pub refused_line : (said o : Option CommandLine) → said ≡ o → ok_or o Refused ≡ Err Refused → said ≡ None
refused_line said None e refused = e
refused_line said (Some line) e refused = cc

-- Words for the worked examples of command lines.
use Rattle.std.specs.Prelude.{ℕ, Bool, List, ◌∷◌, Option, Some, codes}
use Rattle.clap.specs.Words.{Text}
use Rattle.rig_play.specs.declared.command.Command.{Command}
use Rattle.rig_play.specs.declared.command.CommandLine.{CommandLine}
use Rattle.rig_play.specs.Command.{line_of_texts}

-- what the words behind the program's name say
abbrev pub said : List Text → Option CommandLine
said words = line_of_texts (codes "rigplay" ∷ words)

abbrev pub line : Command → ℕ → ℕ → Bool → Option CommandLine
line command workers size trace = Some (record { command = command; workers = workers; size = size; trace = trace })

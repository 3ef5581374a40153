use Rattle.std.proofs.Common.{◌≡◌, ◌∙◌, codes, rules}
use Rattle.std.specs.Prelude.{option_map}
use Rattle.clap.proofs.WalkLemmas.{first_value-rows}
use Rattle.clap.specs.Words.{first_of, found_of, rows_of}
use Rattle.rig_play.proofs.command.command_in.Goals as goal

pub returns : goal.returns
returns c =
    let f = found_of c.args.matches.now in
    let first : option_map (λ s. s.now) c.get_str.result ≡ first_of (codes "command") (rows_of f) = c.get_str.ensures ∙ first_value-rows f (codes "command") in
    rw (← first) (search rules)

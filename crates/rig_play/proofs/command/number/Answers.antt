use Rattle.std.proofs.Common.{◌∙◌, ap}
use Rattle.std.specs.Option.{option_map_or}
use Rattle.std.specs.Str.Parse.{ExplainsUnsignedError, HasUnsignedDigitsIfOk, ParsesUnsigned, digits_value, without_leading_plus}
use Rattle.clap.proofs.WalkLemmas.{one_text-rows}
use Rattle.clap.specs.Words.{found_of, without_minus}
use Rattle.rig_play.proofs.Values.{number_read}
use Rattle.rig_play.proofs.command.number.Goals as goal

pub returns-clause-value : goal.returns-clause-value
returns-clause-value c =
    let has = c.requires.2 in
    let read = c.get_one.ensures.value (without_minus has.text) has.found in
    number_read _ (λ bs r. ParsesUnsigned 32 10 bs r × ExplainsUnsignedError 10 bs r × HasUnsignedDigitsIfOk bs r) _ (without_minus has.text)
    c.unwrap.result has.found (λ u x g. g.0) (rw c.unwrap.ensures at read)
    ∙ ap (λ text. option_map_or (λ t. digits_value 10 (without_leading_plus t)) text 0) (one_text-rows (found_of c.args.matches.now) c.args.id.now)

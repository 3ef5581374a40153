use Rattle.std.proofs.Common.{◌≡◌, ◌∙◌, [], ap, subst, inl, inr, true, refl, string_bytes}
use Rattle.std.specs.Prelude.{map}
use Rattle.clap.specs.Words.{App, app_of, kind_of, matches_of}
use Rattle.clap.specs.Faults.{fault_of, is_simple_and_free}
use Rattle.clap.specs.Kinds.{IsAmong}
use Rattle.clap.specs.Simple.{is_simple}
use Rattle.rig_play.specs.declared.command.CommandStop.TheVariants.{Refused}
use Rattle.rig_play.specs.Command.{app}
use Rattle.rig_play.proofs.Options.{size_read, workers_read}
use Rattle.rig_play.proofs.command.matches_in.Goals as goal

-- the argument list is one of those of which clap says what a parse gives
simple : is_simple app ≡ true
unfolding app
simple = refl

simple_and_free : is_simple_and_free app ≡ true
unfolding app
simple_and_free = refl

pub returns-in-Ok-try_get_matches_from-clause-ok : goal.returns-in-Ok-try_get_matches_from-clause-ok
returns-in-Ok-try_get_matches_from-clause-ok c =
    let ws = map string_bytes c.args.words.now in
    let is : app_of c.in-Ok.definition ≡ app = c.in-Ok.ensures.app in
    let h = c.in-Ok-try_get_matches_from.ensures in
    let rows = h.matches (ap is_simple is ∙ simple) in record {
      faultless = subst (λ (a : App). fault_of a ws ≡ []) is (h.kinds (ap is_simple_and_free is ∙ simple_and_free));
      rows = rows.0 ∙ ap (λ (a : App). matches_of a ws) is;
      workers = workers_read c.in-Ok.definition c.in-Ok.ensures.options _ h.parsed;
      size = size_read c.in-Ok.definition c.in-Ok.ensures.options _ h.parsed;
    }

pub returns-in-Err-clause-refused : goal.returns-in-Err-clause-refused
returns-in-Err-clause-refused c refused none =
    let is : app_of c.in-Ok.definition ≡ app = c.in-Ok.ensures.app in
    let stop : c.stop_of.result ≡ Refused = cc in
    let kind = kind_of c.in-Err.error in
    elim (c.in-Err.ensures.kinds (ap is_simple_and_free is ∙ simple_and_free)) [
      | inl memory ↦ c.stop_of.ensures stop memory
      | inr among ↦ subst (IsAmong kind) none (subst (λ (a : App). IsAmong kind (fault_of a (map string_bytes c.args.words.now))) is among)
    ]

use Rattle.std.specs.Prelude.{option_and_then}
use Rattle.std.proofs.Common.{get_or, None, sym, ap, ◌∙◌}
use Rattle.rig_copies.specs.Numbers.{number_first, number_none}
use Rattle.rig_copies.proofs.keys.key_of.Goals as goal

pub returns-in-Some : goal.returns-in-Some
returns-in-Some c =
    c.key_at.ensures
    ∙ sym (ap (λ o. option_and_then (λ n. get_or c.args.keys.now n None) o) (number_first c.args.table.now c.args.op.now c.in-Some.n c.in-Some.ensures.some c.in-Some.ensures.first))

pub returns-in-None : goal.returns-in-None
returns-in-None c =
    sym (ap (λ o. option_and_then (λ n. get_or c.args.keys.now n None) o) (number_none c.args.table.now c.args.op.now c.in-None.ensures.none))

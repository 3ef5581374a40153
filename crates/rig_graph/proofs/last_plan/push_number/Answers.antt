use Rattle.std.proofs.Common.{[], ◌∷◌, ◌++◌, sym, ap, ◌∙◌}
use Rattle.std.specs.Option.{option_map_or}
use Rattle.std.proofs.lemmas.List.{append-nil}
use Rattle.rig_copies.specs.Numbers.{number_first, number_none}
use Rattle.rig_graph.proofs.last_plan.push_number.Goals as goal

pub returns-in_ok-push : goal.returns-in_ok-push
returns-in_ok-push c =
    c.in_ok-push.ensures.items
    ∙ ap (λ o. c.args.numbers.now.items ++ option_map_or (λ n. n ∷ []) o []) (sym (number_first c.args.nodes.now c.args.op.now c.in-Some.n c.in-Some.ensures.some c.in-Some.ensures.first))

pub returns-in_default : goal.returns-in_default
returns-in_default c =
    sym (append-nil c.args.numbers.now.items)
    ∙ ap (λ o. c.args.numbers.now.items ++ option_map_or (λ n. n ∷ []) o []) (sym (number_none c.args.nodes.now c.args.op.now c.in_default.ensures.none))

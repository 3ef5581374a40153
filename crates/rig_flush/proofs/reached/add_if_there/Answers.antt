use Rattle.std.proofs.Common.{[], ◌∷◌, sym, ap, ◌∙◌}
use Rattle.std.specs.Option.{option_map_or}
use Rattle.rig_flush.specs.Search.{with_nodes}
use Rattle.rig_flush.proofs.Numbering.{number_found, number_none}
use Rattle.rig_flush.proofs.reached.add_if_there.Goals as goal

pub returns-in-Some-clause-members : goal.returns-in-Some-clause-members
returns-in-Some-clause-members c =
    c.add.ensures.members
    ∙ ap (λ r. with_nodes c.args.set.now.members (option_map_or (λ n. n ∷ []) r [])) (sym (number_found c.args.nodes.now c.args.op.now c.in-Some.node c.in-Some.ensures.some c.in-Some.ensures.first))

pub returns-in_default-clause-members : goal.returns-in_default-clause-members
returns-in_default-clause-members c =
    ap (λ r. with_nodes c.args.set.now.members (option_map_or (λ n. n ∷ []) r [])) (sym (number_none c.args.nodes.now c.args.op.now c.in_default.ensures.none))

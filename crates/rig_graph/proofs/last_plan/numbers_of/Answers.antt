use Rattle.std.proofs.Common.{[], ◌∷◌, ◌++◌, ap, ◌∙◌}
use Rattle.std.specs.List.{position}
use Rattle.std.specs.Option.{option_map_or}
use Rattle.rig_graph.specs.LastPlan.{numbers_with_next}
use Rattle.rig_links.specs.Numbers.{same_operation}
use Rattle.rig_graph.proofs.last_plan.numbers_of.Goals as goal

pub loop-index-preserved : goal.loop-index-preserved
loop-index-preserved c =
    c.in_ok-push_number.ensures
    ∙ ap (λ l. l ++ option_map_or (λ n. n ∷ []) (position (same_operation c.get.result.now) c.args.nodes.now) []) c.loop-index.invariant
    ∙ numbers_with_next c.args.nodes.now c.args.tags.now c.loop-index.index c.get.result.now c.get.ensures

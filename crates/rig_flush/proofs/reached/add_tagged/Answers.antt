use Rattle.std.proofs.Common.{[], ◌∷◌, ap, ◌∙◌}
use Rattle.std.specs.Option.{option_map_or}
use Rattle.std.specs.List.{position}
use Rattle.rig_links.specs.Numbers.{same_operation}
use Rattle.rig_flush.specs.Search.{with_nodes}
use Rattle.rig_flush.proofs.Numbering.{numbers_more}
use Rattle.rig_flush.proofs.reached.add_tagged.Goals as goal

pub loop-index-preserved : goal.loop-index-preserved
loop-index-preserved c = record {
  count = c.add_if_there.ensures.count ∙ c.loop-index.invariant.count;
  members = c.add_if_there.ensures.members
      ∙ ap (λ m. with_nodes m (option_map_or (λ n. n ∷ []) (position (same_operation c.get.result.now) c.args.nodes.now) [])) c.loop-index.invariant.members
      ∙ numbers_more c.args.nodes.now c.args.tags.now c.loop-index.index c.get.result.now c.get.ensures;
}

use Rattle.std.proofs.Common.{◌<◌, refl, sym, subst, ap, ◌∙◌, arith}
use Rattle.std.specs.List.{All}
use Rattle.rig_links.specs.Links.{readers_of}
use Rattle.rig_flush.specs.Search.{with_nodes}
use Rattle.rig_flush.proofs.Spread.{readers_within, spread_none, spread_more, spread_whole}
use Rattle.rig_flush.proofs.reached.add_readers.Goals as goal

pub loop-next-init : goal.loop-next-init
loop-next-init c = record { count = refl; spread = spread_none c.args.links.now.ins c.args.set.now.members }

pub add_all-requires : goal.add_all-requires
add_all-requires c =
    subst (λ readers. All (λ n. n < c.loop-next.set.count) readers) (sym c.readers.ensures)
    (subst (λ count. All (λ n. n < count) (readers_of c.get.result c.args.links.now.ins)) (sym (c.loop-next.invariant.count ∙ c.requires)) (readers_within c.args.links.now.ins c.get.result))

pub loop-next-preserved : goal.loop-next-preserved
loop-next-preserved c = record {
  count = c.add_all.ensures.count ∙ c.loop-next.invariant.count;
  spread = spread_more c.args.links.now.ins c.args.set.now.members c.loop-next.set.members c.loop-next.next c.loop-next.invariant.spread
      c.get.result c.add_all.new.set.members (omega arith) c.get.ensures.member (c.add_all.ensures.members ∙ ap (with_nodes c.loop-next.set.members) c.readers.ensures);
}

pub returns-clause-members : goal.returns-clause-members
returns-clause-members c n =
    spread_whole c.args.links.now.ins c.args.set.now.members c.loop-next.set.members c.loop-next.next c.loop-next.invariant.spread (omega arith) n

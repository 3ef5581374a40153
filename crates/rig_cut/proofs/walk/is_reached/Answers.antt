use Rattle.std.proofs.Common.{inl, inr, ap, sym, subst, ◌∙◌, arith}
use Rattle.rig_cut.specs.NodeSets.{with_node}
use Rattle.rig_cut.specs.Search.{IsSearched}
use Rattle.rig_cut.proofs.Found.{searched_none, searched_more, led}
use Rattle.rig_cut.proofs.walk.is_reached.Goals as goal
use Rattle.rig_cut.proofs.walk.is_reached.Goals.{then-loop-next-test+else-not-contains, else-loop-next-test}

pub loop-next-init : goal.loop-next-init
loop-next-init c = record {
  count = c.add.ensures.count ∙ c.clear.ensures.count ∙ c.requires.same_nodes;
  searched = subst (λ m. IsSearched c.args.graph.now c.args.cuts.now c.args.start m 0) (sym (c.add.ensures.members ∙ ap (λ m. with_node m c.args.start) c.clear.ensures.members))
      (searched_none c.args.graph.now c.args.cuts.now c.args.start);
}

pub loop-next-preserved : goal.loop-next-preserved
loop-next-preserved c = record {
  count = c.add_sources.ensures.count ∙ c.loop-next.invariant.count;
  searched = searched_more c.args.graph.now c.args.cuts.now c.args.start c.loop-next.found.members c.loop-next.next c.loop-next.invariant.searched
      c.in_links.ensures.len c.get.result c.in_links.result.now c.add_sources.new.found.members (omega arith) c.get.ensures.member c.in_links.ensures.links c.add_sources.ensures.members;
}

pub returns-clause-leads : goal.returns-clause-leads
returns-clause-leads c reads listing =
    c.contains-2.ensures ∙ led c.args.graph.now c.args.cuts.now c.args.start c.loop-next.found.members c.loop-next.next c.loop-next.invariant.searched c.args.end
    (elim c.loop-next-test.branch [
      | then-loop-next-test+else-not-contains w ↦ inl (sym w.contains.ensures ∙ w.if-not-contains.false)
      | else-loop-next-test w ↦ inr (omega arith)
    ])
    reads listing

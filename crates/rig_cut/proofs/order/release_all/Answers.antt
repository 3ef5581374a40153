use Rattle.std.proofs.Common.{◌<◌, ◌∙◌, arith}
use Rattle.rig_cut.proofs.Releases.{enough, released_more}
use Rattle.rig_cut.proofs.order.release_all.Goals as goal

pub release-requires-clause-pending : goal.release-requires-clause-pending
release-requires-clause-pending c =
    let g = c.args.graph.now in
    let node = c.get-node.result in
    let below : node < g.nodes = omega arith in
    enough g c.args.cuts.now c.loop-next.pending c.loop-next.order.members c.loop-next.next c.loop-next.invariant.released node (omega arith) c.get-node.ensures.member below c.get-node.ensures.once
    c.out_links.result.now c.out_links.ensures.links

pub loop-next-preserved : goal.loop-next-preserved
loop-next-preserved c =
    let g = c.args.graph.now in
    let node = c.get-node.result in
    let below : node < g.nodes = omega arith in
    record {
      count = c.release.ensures.count ∙ c.loop-next.invariant.count;
      released = released_more g c.args.cuts.now c.loop-next.pending c.loop-next.order.members c.loop-next.next c.loop-next.invariant.released node (omega arith) c.get-node.ensures.member below c.get-node.ensures.once
          c.out_links.result.now c.out_links.ensures.links
          c.release.new.pending c.release.new.order.members c.release.ensures.pending c.release.ensures.ready c.release.ensures.first;
    }

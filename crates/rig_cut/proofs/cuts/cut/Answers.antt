use Rattle.std.proofs.Common.{ap, sym, subst, ◌∙◌}
use Rattle.std.specs.List.{range_with_len}
use Rattle.rig_cycles.specs.Order.{IsTopologicalOrder}
use Rattle.rig_cut.specs.Links.{kept_of}
use Rattle.rig_cut.specs.Graphs.{ends_of_links, IsListing}
use Rattle.rig_cut.proofs.Listings.{listing_end, kept_acyclic}
use Rattle.rig_cut.proofs.cuts.cut.Goals as goal

pub returns-clause-order : goal.returns-clause-order
returns-clause-order c =
    let links = c.args.links.now in
    let cuts = c.deref.ensures.value ∙ c.in_ok-cuts.ensures in
    let listing = subst (λ g. IsListing g c.deref.result.now (kept_of links)) (sym c.in_ok-graph.ensures)
    (subst (λ b. IsListing (ends_of_links c.args.nodes links) b (kept_of links)) (sym cuts) (listing_end links c.args.nodes)) in
    subst (λ n. IsTopologicalOrder (range_with_len 0 n) (kept_of links) c.in_ok-order.order) (ap (λ g. g.nodes) c.in_ok-graph.ensures)
    (c.in_ok-order.ensures (kept_of links) listing (kept_acyclic links c.requires.inner))

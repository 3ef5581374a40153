use Rattle.std.proofs.Common.{◌≤◌, length, ap, sym, subst, ◌∙◌, arith}
use Rattle.std.specs.List.{range_with_len}
use Rattle.rig_cycles.specs.Order.{IsTopologicalOrder}
use Rattle.rig_cut.proofs.Ordered.{ordered}
use Rattle.rig_cut.proofs.order.topological_order.Goals as goal

pub returns : goal.returns
returns c reads listing acyclic =
    let g = c.args.graph.now in
    let members = c.release_all.new.order.members in
    let order = c.into_list.ensures.members in
    let count = c.release_all.ensures.count ∙ c.add_ready.ensures.count ∙ ap (λ o. o.count) c.in_ok-order.ensures ∙ c.nodes.ensures.nodes in
    let within : length members ≤ g.nodes = omega (arith, c.into_list.ensures.within, ap length order) in
    subst (λ l. IsTopologicalOrder (range_with_len 0 g.nodes) reads l) (sym order)
    (ordered g c.args.cuts.now c.release_all.new.pending members c.release_all.ensures.released c.nodes.ensures.sources within reads listing acyclic)

use Rattle.std.proofs.Common.{◌<◌, ap, sym, subst, ◌∙◌}
use Rattle.std.specs.List.{All}
use Rattle.rig_rows.specs.Rows.{grouped}
use Rattle.rig_cut.proofs.Graphs.{sources_below, readers_below, graph_of_links, ends_are}
use Rattle.rig_cut.proofs.graph.Graph.new.Goals as goal

pub grouped-requires-clause-in_range : goal.grouped-requires-clause-in_range
grouped-requires-clause-in_range c =
    subst (λ l. All (λ n. n < c.args.nodes) l) (sym (c.deref.ensures.value ∙ c.in_ok-readers.ensures)) (readers_below c.args.nodes c.args.links.now c.requires.in_range)

pub grouped-requires-2-clause-in_range : goal.grouped-requires-2-clause-in_range
grouped-requires-2-clause-in_range c =
    subst (λ l. All (λ n. n < c.args.nodes) l) (sym (c.deref-2.ensures.value ∙ c.in_ok-sources.ensures)) (sources_below c.args.nodes c.args.links.now c.requires.in_range)

pub invariant_of-result : goal.invariant_of-result
invariant_of-result c =
    graph_of_links c.args.nodes c.args.links.now c.in_ok-sources.sources.items c.in_ok-readers.readers.items c.in_ok-in_links.in_links c.in_ok-out_links.out_links
    c.ranges.nodes.fits c.requires.few c.requires.in_range
    c.in_ok-sources.ensures c.in_ok-readers.ensures (c.in_ok-in_links.ensures ∙ ap (grouped c.args.nodes) c.deref.ensures.value)
    (c.in_ok-out_links.ensures ∙ ap (grouped c.args.nodes) c.deref-2.ensures.value)

pub returns : goal.returns
returns c =
    ends_are c.args.nodes c.args.links.now c.in_ok-sources.sources.items c.in_ok-readers.readers.items c.in_ok-in_links.in_links
    c.in_ok-sources.ensures c.in_ok-readers.ensures (c.in_ok-in_links.ensures ∙ ap (grouped c.args.nodes) c.deref.ensures.value)

use Rattle.std.proofs.Common.{◌<◌, length, ap, sym, subst, ◌∙◌, arith}
use Rattle.std.specs.Prelude.{slice_get}
use Rattle.std.specs.List.{All}
use Rattle.rig_rows.specs.Rows.{indices_of}
use Rattle.rig_cut.proofs.Indices.{length-grouped, row_of_key, row_below}
use Rattle.rig_cut.proofs.graph.Graph.out_links.Goals as goal

pub get-requires : goal.get-requires
get-requires c =
    let g = c.self.inside in
    let count = ap (λ v. v.nodes) c.self.view_is in
    let rows = ap length c.self.invariant.outs_are ∙ length-grouped (length g.in_links) g.sources.items in
    omega arith

pub returns-clause-links : goal.returns-clause-links
returns-clause-links c =
    let g = c.self.inside in
    let count = ap (λ v. v.nodes) c.self.view_is in
    let node : c.args.node < length g.in_links = omega arith in
    row_of_key (length g.in_links) g.sources.items c.args.node c.get.result.now node
    (ap (λ rows. slice_get rows c.args.node) (sym c.self.invariant.outs_are) ∙ c.get.ensures)
    ∙ ap (λ v. indices_of c.args.node v.sources) c.self.view_is

pub returns-clause-below : goal.returns-clause-below
returns-clause-below c =
    subst (λ row. All (λ j. j < length c.args.self.now.sources) row) (sym (returns-clause-links c)) (row_below c.args.self.now.sources c.args.node)

use Rattle.std.proofs.Common.{◌<◌, length, ap, sym, subst, ◌∙◌, arith}
use Rattle.std.specs.Prelude.{slice_get}
use Rattle.std.specs.List.{All}
use Rattle.rig_rows.specs.Rows.{indices_of}
use Rattle.rig_cut.proofs.Indices.{row_of_key, row_below}
use Rattle.rig_cut.proofs.graph.Graph.in_links.Goals as goal

pub returns-clause-links : goal.returns-clause-links
returns-clause-links c =
    let g = c.self.inside in
    let count = ap (λ v. v.nodes) c.self.view_is in
    let node : c.args.node < length g.in_links = omega arith in
    row_of_key (length g.in_links) g.readers.items c.args.node c.get.result.now node
    (ap (λ rows. slice_get rows c.args.node) (sym c.self.invariant.rows_are) ∙ c.get.ensures)
    ∙ ap (λ v. indices_of c.args.node v.readers) c.self.view_is

pub returns-clause-below : goal.returns-clause-below
returns-clause-below c =
    let g = c.self.inside in
    let count = ap (λ v. v.nodes) c.self.view_is in
    let node : c.args.node < length g.in_links = omega arith in
    let row = row_of_key (length g.in_links) g.readers.items c.args.node c.get.result.now node
    (ap (λ rows. slice_get rows c.args.node) (sym c.self.invariant.rows_are) ∙ c.get.ensures) in
    subst (λ v. All (λ j. j < length v.sources) c.get.result.now) c.self.view_is
    (subst (λ n. All (λ j. j < n) c.get.result.now) c.self.invariant.same_length
    (subst (λ l. All (λ j. j < length g.readers.items) l) (sym row) (row_below g.readers.items c.args.node)))

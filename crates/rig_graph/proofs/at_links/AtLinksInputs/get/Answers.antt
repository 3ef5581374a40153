use Rattle.std.proofs.Common.{◌≡◌, List, false, Option, None, sym, ap, ◌∙◌, subst, arith}
use Rattle.std.specs.Prelude.{slice_get, option_and_then}
use Rattle.std.specs.Option.{option_copied}
use Rattle.std.proofs.lemmas.Option.{slice_get-get_or, slice_get_past}
use Rattle.rig_laws.specs.Output.{Output}
use Rattle.rig_links.specs.declared.table.In.{In}
use Rattle.rig_graph.specs.EachGiven.{given_of_index}
use Rattle.rig_graph.specs.Parts.{input_at}
use Rattle.rig_graph.proofs.at_links.AtLinksInputs.get.Goals as goal

pub returns-then-index-row : goal.returns-then-index-row
returns-then-index-row c =
    let i = c.self.inside in
    let input : In → Option Output = input_at i.rests.now i.reached.now.members i.results.now i.copies.now.kept in
    subst (λ (l : List Output). None ≡ slice_get l c.args.index) c.self.view_is
    (sym (given_of_index input i.row.now c.args.index c.self.invariant.1
    ∙ ap (option_and_then input) (slice_get_past i.row.now c.args.index c.if-index-row.true)))

pub returns : goal.returns
returns c =
    let i = c.self.inside in
    let input : In → Option Output = input_at i.rests.now i.reached.now.members i.results.now i.copies.now.kept in
    subst (λ (l : List Output). option_copied c.at_link.result ≡ slice_get l c.args.index) c.self.view_is
    (c.at_link.ensures
    ∙ sym (given_of_index input i.row.now c.args.index c.self.invariant.1
    ∙ ap (option_and_then input) (slice_get-get_or i.row.now c.args.index (record { source = 0; cut = false }) (omega arith))))

use Rattle.std.proofs.Common.{◌≡◌, ◌∙◌, subst, ap}
use Rattle.std.specs.Prelude.{IfOk}
use Rattle.rig_cut.specs.declared.links.Link.{Link}
use Rattle.rig_rows.specs.Rows.{grouped}
use Rattle.rig_links.proofs.ByKey.{keys_within}
use Rattle.rig_links.proofs.rows.by_reader.Goals as goal

pub grouped-requires-clause-in_range : goal.grouped-requires-clause-in_range
grouped-requires-clause-in_range c =
    keys_within (λ (l : Link). l.reader) c.args.links.now c.args.count c.as_slice.result.now (c.as_slice.ensures.value ∙ c.in_ok-readers.ensures) c.requires.in_range

pub returns : goal.returns
returns c = subst (λ wanted. IfOk c.grouped.result (λ rows. rows ≡ wanted)) (ap (grouped c.args.count) (c.as_slice.ensures.value ∙ c.in_ok-readers.ensures)) c.grouped.ensures

use Rattle.std.proofs.Common.{◌≡◌, ◌<◌, ◌∙◌, ap, length, not, subst, arith}
use Rattle.std.specs.Prelude.{IfOk}
use Rattle.std.proofs.lemmas.List.{length-map}
use Rattle.std.proofs.lemmas.List.Elements.{All-filter}
use Rattle.rig_cut.specs.declared.links.Link.{Link}
use Rattle.rig_cut.specs.Links.{is_cut}
use Rattle.rig_laws.specs.Lengths.{filter_length}
use Rattle.rig_rows.specs.Rows.{grouped}
use Rattle.rig_links.specs.ByKey.{uncut}
use Rattle.rig_links.proofs.ByKey.{keys_within}
use Rattle.rig_links.proofs.rows.kept_by_source.Goals as goal

pub grouped-requires-clause-in_range : goal.grouped-requires-clause-in_range
grouped-requires-clause-in_range c =
    keys_within (λ (l : Link). l.source) (uncut c.args.links.now) c.args.count c.as_slice.result.now (c.as_slice.ensures.value ∙ c.in_ok-sources.ensures)
    (All-filter (λ l. not (is_cut c.args.links.now l)) (λ l. l.source < c.args.count) c.args.links.now c.requires.in_range)

pub grouped-requires-clause-few : goal.grouped-requires-clause-few
grouped-requires-clause-few c =
    omega (
      arith,
      ap length (c.as_slice.ensures.value ∙ c.in_ok-sources.ensures),
      length-map (uncut c.args.links.now) (λ (l : Link). l.source),
      filter_length (λ l. not (is_cut c.args.links.now l)) c.args.links.now,
    )

pub returns : goal.returns
returns c = subst (λ wanted. IfOk c.grouped.result (λ rows. rows ≡ wanted)) (ap (grouped c.args.count) (c.as_slice.ensures.value ∙ c.in_ok-sources.ensures)) c.grouped.ensures

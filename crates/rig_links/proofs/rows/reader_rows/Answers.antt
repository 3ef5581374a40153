use Rattle.std.proofs.Common.{◌≡◌, ◌∙◌, map, refl, subst}
use Rattle.std.specs.Prelude.{IfOk}
use Rattle.rig_cut.specs.declared.links.Link.{Link}
use Rattle.rig_links.specs.ByKey.{uncut}
use Rattle.rig_links.proofs.ByKey.{grouped_within, rows_selected}
use Rattle.rig_links.proofs.rows.reader_rows.Goals as goal

pub select-requires : goal.select-requires
select-requires c =
    let kept = uncut c.args.links.now in
    grouped_within (λ (l : Link). l.source) (λ (l : Link). l.reader) kept c.args.count (map (λ (l : Link). l.source) kept) c.as_slice.result.now c.in_ok-rows.rows
    refl (c.as_slice.ensures.value ∙ c.in_ok-readers.ensures) c.in_ok-rows.ensures

pub returns : goal.returns
returns c =
    let kept = uncut c.args.links.now in
    subst (λ wanted. IfOk c.select.result (λ rows. rows ≡ wanted))
    (rows_selected (λ (l : Link). l.source) (λ (l : Link). l.reader) kept c.args.count (map (λ (l : Link). l.source) kept) c.as_slice.result.now c.in_ok-rows.rows
    refl (c.as_slice.ensures.value ∙ c.in_ok-readers.ensures) c.in_ok-rows.ensures)
    c.select.ensures

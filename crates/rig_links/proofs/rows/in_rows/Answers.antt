use Rattle.std.proofs.Common.{◌≡◌, ◌∙◌, map, refl, subst}
use Rattle.std.specs.Prelude.{IfOk}
use Rattle.rig_cut.specs.declared.links.Link.{Link}
use Rattle.rig_links.specs.ByKey.{in_of}
use Rattle.rig_links.proofs.ByKey.{grouped_within, rows_selected}
use Rattle.rig_links.proofs.rows.in_rows.Goals as goal

pub select-requires : goal.select-requires
select-requires c =
    grouped_within (λ (l : Link). l.reader) (in_of c.args.links.now) c.args.links.now c.args.count (map (λ (l : Link). l.reader) c.args.links.now) c.as_slice.result.now c.in_ok-rows.rows
    refl (c.as_slice.ensures.value ∙ c.in_ok-ins.ensures) c.in_ok-rows.ensures

pub returns : goal.returns
returns c =
    subst (λ wanted. IfOk c.select.result (λ rows. rows ≡ wanted))
    (rows_selected (λ (l : Link). l.reader) (in_of c.args.links.now) c.args.links.now c.args.count (map (λ (l : Link). l.reader) c.args.links.now) c.as_slice.result.now c.in_ok-rows.rows
    refl (c.as_slice.ensures.value ∙ c.in_ok-ins.ensures) c.in_ok-rows.ensures)
    c.select.ensures

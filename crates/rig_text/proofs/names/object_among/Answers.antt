use Rattle.std.proofs.Common.{option_copied, sym, ap, ◌∙◌}
use Rattle.rig_scene.specs.Rising.{got}
use Rattle.rig_text.proofs.Ids.{if_same, found_at, copied_same}
use Rattle.rig_text.proofs.names.object_among.Goals as goal

pub returns-in_err-object : goal.returns-in_err-object
returns-in_err-object c =
    let lookup = got c.args.objects.now c.first_from.result c.get.result c.get.ensures.lookup.0 c.get.ensures.lookup.1 in
    ap option_copied c.from_residual.ensures
    ∙ sym (ap (λ r. if_same c.args.id (option_copied r)) c.in_err-object.was)
    ∙ ap (if_same c.args.id) lookup
    ∙ sym (found_at c.args.id c.args.objects.now c.first_from.result c.requires c.first_from.ensures)

pub returns : goal.returns
returns c =
    let lookup = got c.args.objects.now c.first_from.result c.get.result c.get.ensures.lookup.0 c.get.ensures.lookup.1 in
    ap option_copied c.then_some.ensures
    ∙ copied_same c.args.id c.in_ok-object.object c.eq.result c.eq.ensures
    ∙ sym (ap (λ r. if_same c.args.id (option_copied r)) c.in_ok-object.was)
    ∙ ap (if_same c.args.id) lookup
    ∙ sym (found_at c.args.id c.args.objects.now c.first_from.result c.requires c.first_from.ensures)

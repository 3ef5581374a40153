use Rattle.std.proofs.Common.{◌≡◌, sym, ap, ◌∙◌}
use Rattle.std.specs.Prelude.{slice_set}
use Rattle.std.proofs.lemmas.Result.{on_err_weaker}
use Rattle.rig_scene.specs.declared.object.Kind.TheVariants.{Pencil}
use Rattle.rig_edits.proofs.FirstPassing.{set_itself}
use Rattle.rig_edits.proofs.modifier.push_modifier.Goals as goal

pub returns-in-Pencil-clause-err : goal.returns-in-Pencil-clause-err
returns-in-Pencil-clause-err c =
    let objects = c.args.objects.now in
    let o = c.get_mut.result.now in
    on_err_weaker c.push.result (λ (same : c.push.new.self ≡ c.in-Pencil.modifiers).
    ap (λ ms. slice_set objects c.args.object (record o { kind = Pencil c.in-Pencil.pencil ms })) same
    ∙ ap (λ k. slice_set objects c.args.object (record o { kind = k })) (sym c.in-Pencil.is)
    ∙ set_itself objects c.args.object o c.get_mut.ensures.value) c.push.ensures.err

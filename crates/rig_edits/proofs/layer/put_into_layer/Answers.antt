use Rattle.std.proofs.Common.{slice_set, ap, ◌∙◌, arith}
use Rattle.std.proofs.lemmas.Result.{IfOk-weaker, on_err_weaker}
use Rattle.std.specs.Int.{from_bool}
use Rattle.rig_edits.proofs.FirstPassing.{set_itself}
use Rattle.rig_edits.proofs.KeyCounts.{layer_keys_put}
use Rattle.rig_edits.proofs.layer.put_into_layer.Goals as goal

pub returns-clause-err : goal.returns-clause-err
returns-clause-err c =
    let p = c.get_mut.result.now in
    let layer = c.get_mut-layer.result.now in
    on_err_weaker c.put_key.result (λ e.
    ap (λ keys. slice_set c.args.pencils.now c.args.place.pencil (record p { layers = slice_set p.layers c.args.place.layer (record layer { keys = keys }) })) e
    ∙ ap (λ layers. slice_set c.args.pencils.now c.args.place.pencil (record p { layers = layers }))
    (set_itself p.layers c.args.place.layer layer c.get_mut-layer.ensures.value)
    ∙ set_itself c.args.pencils.now c.args.place.pencil p c.get_mut.ensures.value) c.put_key.ensures.err

pub returns-clause-count : goal.returns-clause-count
returns-clause-count c =
    let p = c.get_mut.result.now in
    let layer = c.get_mut-layer.result.now in
    IfOk-weaker c.put_key.result _ _ (λ more e.
    omega (
      arith,
      layer_keys_put c.args.pencils.now c.args.place.pencil c.args.place.layer p layer c.put_key.new.keys 0 (from_bool more) c.get_mut.ensures.value
          c.get_mut-layer.ensures.value (omega (arith, e)),
    )) c.put_key.ensures.count

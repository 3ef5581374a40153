use Rattle.std.proofs.Common.{slice_set, ap, ◌∙◌, arith}
use Rattle.std.proofs.lemmas.Result.{IfOk-weaker, on_err_weaker}
use Rattle.std.specs.Int.{from_bool}
use Rattle.rig_edits.proofs.FirstPassing.{set_itself}
use Rattle.rig_edits.proofs.KeyCounts.{keys_put}
use Rattle.rig_edits.proofs.curve.put_into_curve.Goals as goal

pub returns-clause-err : goal.returns-clause-err
returns-clause-err c =
    let a = c.get_mut.result.now in
    let curve = c.get_mut-curve.result.now in
    on_err_weaker c.put_key.result (λ e.
    ap (λ keys. slice_set c.args.actions.now c.args.place.action (record a { curves = slice_set a.curves c.args.place.curve (record curve { keys = keys }) })) e
    ∙ ap (λ curves. slice_set c.args.actions.now c.args.place.action (record a { curves = curves }))
    (set_itself a.curves c.args.place.curve curve c.get_mut-curve.ensures.value)
    ∙ set_itself c.args.actions.now c.args.place.action a c.get_mut.ensures.value) c.put_key.ensures.err

pub returns-clause-count : goal.returns-clause-count
returns-clause-count c =
    let a = c.get_mut.result.now in
    let curve = c.get_mut-curve.result.now in
    IfOk-weaker c.put_key.result _ _ (λ more e.
    omega (
      arith,
      keys_put c.args.actions.now c.args.place.action c.args.place.curve a curve c.put_key.new.keys 0 (from_bool more) c.get_mut.ensures.value
          c.get_mut-curve.ensures.value (omega (arith, e)),
    )) c.put_key.ensures.count

use Rattle.std.proofs.Common.{◌≡◌, ◌*◌, ◌≤◌, Some, None, unwrap_or, refl, subst, ◌∙◌, ap}
use Rattle.rig_scene.specs.declared.limits.TheConstants.{MAX_RESULT_POINTS}
use Rattle.rig_scene.specs.Layer.{stroke_points}
use Rattle.rig_scene.specs.Modify.{effect_strokes}
use Rattle.rig_modifiers.specs.Few.{if_few}
use Rattle.rig_modifiers.proofs.Counting.{few-within, few-above, modify-by_few, above}
use Rattle.rig_modifiers.proofs.effect.modify_if_few.Goals as goal

pub returns-then-not-is_within : goal.returns-then-not-is_within
returns-then-not-is_within c =
    let a = c.args in
    let few : None ≡ if_few (effect_strokes a.effect.now a.centre a.strokes.now) =
    subst (λ ss. None ≡ if_few (effect_strokes a.effect.now a.centre ss)) c.as_slice.ensures
    (few-above a.effect.now a.centre c.as_slice.result.now c.copies.result c.copies.ensures.value (above (c.copies.result * stroke_points c.as_slice.result.now) MAX_RESULT_POINTS c.if-not-is_within.ensures.1)) in
    record { few = few; modified = ap (λ new. unwrap_or new a.strokes.now) few ∙ modify-by_few a.effect.now a.centre a.strokes.now }

pub returns : goal.returns
returns c =
    let a = c.args in
    let fits : c.copies.result * stroke_points a.strokes.now ≤ MAX_RESULT_POINTS = subst (λ ss. c.copies.result * stroke_points ss ≤ MAX_RESULT_POINTS) c.as_slice.ensures (c.if-not-is_within.ensures.0 refl) in
    let few : Some c.in_ok-new.new ≡ if_few (effect_strokes a.effect.now a.centre a.strokes.now) =
    ap Some (c.in_ok-new.ensures ∙ ap (effect_strokes a.effect.now a.centre) c.as_slice-2.ensures)
    ∙ few-within a.effect.now a.centre a.strokes.now c.copies.result c.copies.ensures.value fits in
    record { few = few; modified = ap (λ new. unwrap_or new a.strokes.now) few ∙ modify-by_few a.effect.now a.centre a.strokes.now }

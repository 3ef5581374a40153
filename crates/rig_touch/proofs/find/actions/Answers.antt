use Rattle.std.proofs.Common.{◌<◌, ◌^◌, ◌∙◌, length, sym, ap, subst}
use Rattle.std.specs.Prelude.{IsTrue}
use Rattle.rig_scene.specs.WellFormed.{is_scene}
use Rattle.rig_touch.proofs.Few.{few_actions}
use Rattle.rig_touch.proofs.find.actions.Goals as goal

pub returns-clause-few : goal.returns-clause-few
returns-clause-few c =
    let met = subst (λ s. IsTrue (is_scene s)) c.scene.view_is c.scene.invariant.is_scene in
    subst (λ xs. length xs < 2 ^ 32) (sym (c.as_slice.ensures ∙ ap (λ s. s.actions) c.scene.view_is)) (few_actions c.args.scene.now met)

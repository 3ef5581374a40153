use Rattle.std.proofs.Common.{◌≡◌, ℕ, ◌≤◌, arith, List, length, true, ap, ◌∙◌, subst, false, map}
use Rattle.std.proofs.lemmas.List.{take_all}
use Rattle.rig_scene.specs.declared.object.Object.{Object}
use Rattle.rig_scene.specs.WellFormed.{is_scene}
use Rattle.rig_play.proofs.Passes.{stands-open}
use Rattle.rig_play.proofs.engine.Engine.open.Goals as goal

pub invariant_of-result : goal.invariant_of-result
invariant_of-result c =
    let s = c.args.scene in
    let same : c.as_slice-object-items.result.now ≡ s.objects = c.as_slice-object-items.ensures ∙ ap (λ t. t.objects) c.scene.view_is in
    let all = take_all c.loop-object._object-index c.as_slice-object-items.result.now c.loop-object-test.false in
    stands-open s c.loop-object.marks c.loop-object.worlds (subst (λ t. is_scene t ≡ true) c.scene.view_is c.scene.invariant.is_scene)
    c.requires.plain c.requires.next
    (c.loop-object.invariant.marks ∙ ap (λ (os : List Object). map (λ _. false) os) (all ∙ same))
    (c.loop-object.invariant.worlds ∙ antisym c.loop-object._object-index (length c.as_slice-object-items.result.now) c.loop-object.auto._object-index-end c.loop-object-test.false ∙ ap length same)
  where
    antisym : (a b : ℕ) → a ≤ b → b ≤ a → a ≡ b
    antisym a b l m = omega arith

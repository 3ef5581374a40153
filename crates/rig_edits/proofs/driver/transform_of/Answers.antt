use Rattle.std.proofs.Common.{◌<◌, subst, arith}
use Rattle.std.specs.Prelude.{IsTrue}
use Rattle.rig_scene.specs.WellFormed.{is_scene}
use Rattle.rig_scene.specs.declared.limits.TheConstants.{MAX_BONES}
use Rattle.rig_edits.proofs.ParentFacts.{bone_below}
use Rattle.rig_edits.proofs.driver.transform_of.Goals as goal

pub overflow_cast-space : goal.overflow_cast-space
overflow_cast-space c =
    let at = c.in_ok-index.ensures.1 in
    let few : c.in_ok-bone_of-in-Some.field-0 < MAX_BONES =
    bone_below c.args.scene.now
    (subst (λ s. IsTrue (is_scene s)) c.scene.view_is c.scene.invariant.is_scene) at.element.kind c.in-Some.bone c.in_ok-bone_of-in-Some.field-0
    (c.in_ok-bone_of-in-Some.ensures at.element at.is_at).1 in
    omega arith

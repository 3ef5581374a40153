use Rattle.std.proofs.Common.{◌≡◌, ◌≤◌, length, true, ap, ◌∙◌, subst, arith}
use Rattle.rig_scene.specs.WellFormed.{is_scene}
use Rattle.rig_scene.specs.declared.limits.TheConstants.{MAX_OBJECTS}
use Rattle.rig_play.proofs.Held.{few_objects}
use Rattle.rig_play.proofs.engine.count_operations.Goals as goal

pub overflow_add-count : goal.overflow_add-count
overflow_add-count c =
    let few : length c.args.scene.now.objects ≤ MAX_OBJECTS = few_objects c.args.scene.now (subst (λ s. is_scene s ≡ true) c.scene.view_is c.scene.invariant.is_scene) in
    let same : length c.as_slice-object-items.result.now ≡ length c.args.scene.now.objects = ap length (c.as_slice-object-items.ensures ∙ ap (λ s. s.objects) c.scene.view_is) in
    omega arith

use Rattle.std.proofs.Common.{◌≤◌, List, length, sym, subst}
use Rattle.rig_scene.specs.declared.limits.TheConstants.{MAX_MODIFIERS}
use Rattle.rig_scene.specs.declared.modifier.Modifier.{Modifier}
use Rattle.rig_edits.proofs.ModifierFacts.{few_in_stack}
use Rattle.rig_edits.proofs.modifier.object_and_effect.Goals as goal

pub room_in_stack-requires : goal.room_in_stack-requires
room_in_stack-requires c =
    subst (λ (ms : List Modifier). length ms ≤ MAX_MODIFIERS) (sym c.in_ok-stack.ensures.1)
    (few_in_stack _ c.scene.invariant.is_scene c.in_ok-object.object c.get.result.now c.get.ensures)

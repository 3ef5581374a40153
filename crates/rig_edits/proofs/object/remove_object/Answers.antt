use Rattle.std.proofs.Common.{refl, subst, sym}
use Rattle.std.specs.Prelude.{IsTrue}
use Rattle.rig_scene.specs.WellFormed.{is_scene}
use Rattle.rig_edits.specs.KeepsRemoved.{keeps_remove_object}
use Rattle.rig_edits.proofs.KeyCounts.{still_counted}
use Rattle.rig_edits.proofs.Removed.{object_removed}
use Rattle.rig_edits.proofs.object.remove_object.Goals as goal

pub invariant_of-scene : goal.invariant_of-scene
invariant_of-scene c =
    let is = subst (λ s. IsTrue (is_scene s)) c.scene.view_is c.scene.invariant.is_scene in
    let kept = keeps_remove_object c.args.scene.now c.args.object.now is c.in_ok-index.ensures.0 in
    still_counted _ _ _ _ c.scene.invariant
    (subst (λ s. IsTrue (is_scene s))
    (object_removed _ c.args.scene.now c.args.object.now c.in_ok-index.index c.remove-object.result c.remove-object.new.self
    c.drop_drivers.new.drivers c.scene.view_is c.scene.invariant.is_scene c.in_ok-index.ensures.1 c.remove-object.ensures.value
    c.remove-object.ensures.rest c.drop_drivers.ensures) kept) refl refl

pub returns : goal.returns
returns c = (
  c.in_ok-index.ensures.0,
  sym (object_removed _ c.args.scene.now c.args.object.now c.in_ok-index.index c.remove-object.result c.remove-object.new.self
      c.drop_drivers.new.drivers c.scene.view_is c.scene.invariant.is_scene c.in_ok-index.ensures.1 c.remove-object.ensures.value
      c.remove-object.ensures.rest c.drop_drivers.ensures),
)

use Rattle.std.proofs.Common.{refl}
use Rattle.rig_edits.proofs.KeyCounts.{still_counted}
use Rattle.rig_edits.proofs.DriverSet.{driver_cleared_kept}
use Rattle.rig_edits.proofs.driver.clear_driver.Goals as goal

pub invariant_of-scene : goal.invariant_of-scene
invariant_of-scene c =
    rw c.drop_driver.ensures
    (still_counted _ _ _ _ c.scene.invariant
    (driver_cleared_kept _ c.args.scene.now c.scene.view_is c.scene.invariant.is_scene c.args.id.now c.args.path.now c.in_ok-id.id c.in_ok-id.ensures) refl refl)

use Rattle.std.proofs.Common.{get_or}
use Rattle.rig_scene.specs.declared.driver.Driver.{Driver as DriverRecord}
use Rattle.rig_scene.specs.declared.operation.OpId.TheVariants.{Driver}
use Rattle.rig_links.specs.Numbers.{numbered_links}
use Rattle.rig_links.proofs.Drivers.{driver_at, driver_found}
use Rattle.rig_links.proofs.Pushed.{one_more_driver}
use Rattle.rig_links.proofs.driver.push_drivers.Goals as goal

pub push_driver-requires : goal.push_driver-requires
push_driver-requires c =
    driver_found c.args.scene.now c.drivers-drivers.ensures.scene (get_or c.args.row.now c.loop-index.index-index 0) c.index-drivers-index.result
    (driver_at c.args.scene.now c.drivers-drivers.result.now c.drivers-drivers.ensures.drivers c.args.row.now c.requires c.loop-index.index-index c.loop-index-test.true
    c.index-drivers-index.result c.index-drivers-index.is)

pub loop-index-preserved : goal.loop-index-preserved
loop-index-preserved c =
    one_more_driver (λ (d : DriverRecord). numbered_links c.args.scene.now (Driver d.id d.path)) c.args.scene.now.drivers c.args.row.now c.loop-index.index-index 0
    c.index-drivers-index.result _ _ _ c.loop-index-test.true
    (driver_at c.args.scene.now c.drivers-drivers.result.now c.drivers-drivers.ensures.drivers c.args.row.now c.requires c.loop-index.index-index c.loop-index-test.true
    c.index-drivers-index.result c.index-drivers-index.is)
    c.loop-index.invariant c.in_ok-push_driver.ensures

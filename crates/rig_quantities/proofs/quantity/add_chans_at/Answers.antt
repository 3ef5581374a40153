use Rattle.rig_quantities.proofs.DriverRows.{chans_step}
use Rattle.rig_quantities.proofs.quantity.add_chans_at.Goals as goal

pub loop-index-preserved : goal.loop-index-preserved
loop-index-preserved c =
    chans_step c.args.drivers.now c.args.indices.now c.loop-index.index-index c.index-drivers-index.result c.in_ok-copy.field-0
    c.loop-index.items.items c.push.new.self.items _ c.loop-index-test.true (c.requires c.loop-index.index-index 0 c.loop-index-test.true)
    c.index-drivers-index.is c.in_ok-copy.ensures c.in_ok-push.ensures.items c.loop-index.invariant

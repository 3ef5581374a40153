use Rattle.std.proofs.Common.{◌∙◌, ◌≡◌, ap, arith, length}
use Rattle.rig_quantities.proofs.Picked.{axis_step}
use Rattle.rig_quantities.proofs.driven.axis_reads.Goals as goal

pub loop-axis-preserved : goal.loop-axis-preserved
loop-axis-preserved c =
    let count : length c.all-axis-items.result ≡ 3 = ap length c.all-axis-items.ensures in
    axis_step c.args.scene.now c.args.pencil c.args.layer.now c.all-axis-items.result c.as_slice.result.now c.loop-axis.axis-index _
    c.loop-axis.list c.add_axis.new.list _ (c.as_slice.ensures.value ∙ c.in_ok-driven.ensures) (omega arith) c.in_ok-add_axis.ensures c.loop-axis.invariant

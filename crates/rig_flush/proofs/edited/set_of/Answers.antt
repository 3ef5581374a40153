use Rattle.std.proofs.Common.{length, refl, ap, ◌∙◌, arith}
use Rattle.std.proofs.lemmas.Option.{slice_get_read}
use Rattle.rig_flush.specs.Retag.{is_one_of}
use Rattle.rig_flush.proofs.Retagged.{with_op, set_more}
use Rattle.rig_flush.proofs.edited.set_of.Goals as goal

pub loop-op-preserved : goal.loop-op-preserved
loop-op-preserved c op =
    ap (λ l. is_one_of l op) (c.in_ok-add.ensures.ok ∙ ap (with_op c.loop-op.set) c.in_ok-copy.ensures)
    ∙ set_more c.args.ops.now c.loop-op.set c.loop-op.op-index c.op-item.result
    (slice_get_read c.args.ops.now (length c.args.ops.now) c.loop-op.op-index c.op-item.result refl (omega arith) c.op-item.is) c.loop-op.invariant op

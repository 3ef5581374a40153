use Rattle.std.proofs.Common.{refl, length, ap, ◌∷◌, [], ◌++◌, ◌∙◌, arith}
use Rattle.std.proofs.lemmas.Option.{slice_get_read}
use Rattle.rig_scene.specs.declared.operation.OpId.TheVariants.{Driver}
use Rattle.rig_nodes.proofs.Pushed.{one_more_driver}
use Rattle.rig_nodes.proofs.list.push_drivers.Goals as goal

pub loop-index-preserved : goal.loop-index-preserved
loop-index-preserved c =
    one_more_driver c.args.drivers.now c.args.row.now c.loop-index.index-index 0 c.index-drivers-index.result _ _ _ (omega arith)
    (slice_get_read c.args.drivers.now (length c.args.drivers.now) _ c.index-drivers-index.result refl (c.requires c.loop-index.index-index 0 (omega arith)) c.index-drivers-index.is)
    c.loop-index.invariant (c.in_ok-push.ensures.items ∙ ap (λ path. c.loop-index.ops.items ++ Driver c.index-drivers-index.result.id path ∷ []) c.in_ok-copy.ensures)

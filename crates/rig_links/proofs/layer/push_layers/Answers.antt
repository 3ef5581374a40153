use Rattle.std.proofs.Common.{length, slice_get, refl, arith}
use Rattle.std.proofs.lemmas.Option.{slice_get_read}
use Rattle.rig_scene.specs.declared.operation.OpId.TheVariants.{Layer}
use Rattle.rig_scene.specs.declared.pencil.PencilData.{PencilData}
use Rattle.rig_links.specs.Numbers.{numbered_links}
use Rattle.rig_links.proofs.Pushed.{one_more, element_at}
use Rattle.rig_links.proofs.layer.push_layers.Goals as goal

pub push_layer-requires-clause-layer : goal.push_layer-requires-clause-layer
push_layer-requires-clause-layer c =
    element_at (λ (p : PencilData). p.layers) (slice_get c.args.scene.now.pencils c.args.pencil) c.args.layers.now c.loop-l.l c.index-layers-l.result c.requires.layers
    (slice_get_read c.args.layers.now (length c.args.layers.now) c.loop-l.l c.index-layers-l.result refl c.loop-l-test.true c.index-layers-l.is)

pub loop-l-preserved : goal.loop-l-preserved
loop-l-preserved c =
    one_more (λ l. numbered_links c.args.scene.now (Layer c.args.pencil l)) 0 c.loop-l.l c.loop-l.l _ _ _ (omega arith) c.loop-l.invariant c.in_ok-push_layer.ensures

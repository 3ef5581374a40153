use Rattle.std.proofs.Common.{◌≡◌, ◌++◌, ap, ◌∙◌, arith}
use Rattle.rig_scene.specs.declared.operation.OpId.TheVariants.{Layer}
use Rattle.rig_links.specs.Parts.{inner, of_geometry}
use Rattle.rig_links.proofs.Pushed.{one_more_link}
use Rattle.rig_links.proofs.geometry.push_geometry.Goals as goal

pub loop-layer-preserved : goal.loop-layer-preserved
loop-layer-preserved c =
    one_more_link (λ l. inner c.args.scene.now c.number-reader.result (Layer c.args.pencil l)) 0 c.loop-layer.layer c.loop-layer.layer _ _ _ (omega arith) c.loop-layer.invariant c.in_ok-push.ensures

pub returns : goal.returns
returns c =
    let all : c.loop-layer.layer ≡ c.args.layers = omega arith in
    c.loop-layer.invariant
    ∙ ap (λ l. c.args.links.now.items ++ l)
    (ap (of_geometry c.args.scene.now c.number-reader.result c.args.pencil) all
    ∙ ap (λ n. of_geometry c.args.scene.now n c.args.pencil c.args.layers) c.number-reader.ensures)

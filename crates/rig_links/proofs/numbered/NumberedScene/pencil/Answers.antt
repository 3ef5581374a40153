use Rattle.rig_links.proofs.Fits.{few_layers}
use Rattle.rig_links.proofs.numbered.NumberedScene.pencil.Goals as goal

pub returns-clause-few : goal.returns-clause-few
returns-clause-few c = few_layers _ c.scene.invariant.is_scene c.args.index c.get.result.now c.get.ensures

use Rattle.rig_links.proofs.Fits.{few_bones}
use Rattle.rig_links.proofs.numbered.NumberedScene.armature.Goals as goal

pub returns-clause-few : goal.returns-clause-few
returns-clause-few c = few_bones _ c.scene.invariant.is_scene c.args.index c.get.result.now c.get.ensures

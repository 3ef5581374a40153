use Rattle.rig_scene.specs.Operations.{operations}
use Rattle.rig_scene.specs.FactsHold.{scene_facts}
use Rattle.rig_scene.specs.OneOfEach.{operations_once}
use Rattle.rig_scene.specs.Pairs.{distinct_keys}
use Rattle.rig_scene.proofs.laws.distinct.operations_are_distinct.Goals as goal

pub returns : goal.returns
returns c = record {
  pairs = λ s is. operations_once s (scene_facts s is);
  keys = λ s is same equal. distinct_keys same equal (operations s) (operations_once s (scene_facts s is));
}

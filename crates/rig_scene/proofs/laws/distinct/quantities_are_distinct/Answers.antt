use Rattle.rig_scene.specs.Quantities.{quantities}
use Rattle.rig_scene.specs.FactsHold.{scene_facts}
use Rattle.rig_scene.specs.OneOfEach.{quantities_once}
use Rattle.rig_scene.specs.Pairs.{distinct_keys}
use Rattle.rig_scene.proofs.laws.distinct.quantities_are_distinct.Goals as goal

pub returns : goal.returns
returns c = record {
  pairs = λ s is. quantities_once s (scene_facts s is);
  keys = λ s is same equal. distinct_keys same equal (quantities s) (quantities_once s (scene_facts s is));
}

use Rattle.rig_scene.specs.FactsHold.{scene_facts}
use Rattle.rig_scene.specs.Counts.{operations_count, quantities_count}
use Rattle.rig_scene.proofs.laws.counts.operations_are_few.Goals as goal

pub returns : goal.returns
returns c = record {
  operations = λ s is. operations_count s (scene_facts s is);
  quantities = quantities_count;
}

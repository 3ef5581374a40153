use Rattle.rig_scene.specs.FactsHold.{scene_facts}
use Rattle.rig_scene.specs.FactsSuffice.{scene_from_facts}
use Rattle.rig_scene.proofs.laws.facts.scenes_keep_their_promises.Goals as goal

pub returns : goal.returns
returns c = record {
  actions = λ s is. (scene_facts s is).actions;
  armatures = λ s is. (scene_facts s is).armatures;
  pencils = λ s is. (scene_facts s is).pencils;
  objects = λ s is. (scene_facts s is).objects;
  drivers = λ s is. (scene_facts s is).drivers;
  exactly = λ s. (scene_facts s, scene_from_facts s);
}

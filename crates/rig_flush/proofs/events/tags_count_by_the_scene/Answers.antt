-- By the lemmas on tags that are operations of the scene.
use Rattle.rig_flush.specs.TagsOfScene.{numbers_by_scene, reach_by_scene, closed_by_tables}
use Rattle.rig_flush.proofs.events.tags_count_by_the_scene.Goals as goal

pub returns : goal.returns
returns c = record {
  numbers = numbers_by_scene;
  operations = λ s ops links tables tags. reach_by_scene s (closed_by_tables s ops links tables) tags;
}

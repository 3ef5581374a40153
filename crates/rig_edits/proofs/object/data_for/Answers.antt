use Rattle.std.proofs.Common.{arith}
use Rattle.rig_scene.specs.FactsHold.{scene_facts}
use Rattle.rig_edits.proofs.object.data_for.Goals as goal

pub room_for-requires-clause-count : goal.room_for-requires-clause-count
room_for-requires-clause-count c = let room = (scene_facts _ c.scene.invariant.is_scene).objects.count in omega arith

use Rattle.std.proofs.Common.{arith}
use Rattle.rig_scene.specs.FactsHold.{scene_facts}
use Rattle.rig_edits.proofs.layer.new_key.Goals as goal

pub room_for_key-requires-clause-within : goal.room_for_key-requires-clause-within
room_for_key-requires-clause-within c =
    omega (arith, c.scene.invariant.counts_layer_keys, (scene_facts _ c.scene.invariant.is_scene).pencils.layer_keys)

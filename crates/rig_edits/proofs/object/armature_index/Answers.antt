use Rattle.std.proofs.Common.{length, ap, arith}
use Rattle.rig_scene.specs.FactsHold.{scene_facts}
use Rattle.rig_edits.proofs.object.armature_index.Goals as goal

pub returns-in-Some-clause-below : goal.returns-in-Some-clause-below
returns-in-Some-clause-below c =
    let within = c.in-Some.ensures.within in
    let same = ap length c.as_slice.ensures in
    let count = (scene_facts _ c.scene.invariant.is_scene).armatures.count in
    omega arith

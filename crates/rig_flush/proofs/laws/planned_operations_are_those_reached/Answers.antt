use Rattle.std.proofs.Common.{sym, subst}
use Rattle.rig_scene.specs.FactsHold.{scene_facts}
use Rattle.rig_scene.specs.OneOfEach.{operations_once}
use Rattle.rig_scene.specs.Pairs.{NoneTwice}
use Rattle.rig_flush.specs.ReachByNumber.{planned_are_reached}
use Rattle.rig_flush.proofs.laws.planned_operations_are_those_reached.Goals as goal

pub returns : goal.returns
returns c s met ops links tables tags =
    planned_are_reached s ops links (subst (λ l. NoneTwice l) (sym tables.same) (operations_once s (scene_facts s met))) tables tags

use Rattle.std.proofs.Common.{◌≡◌, filter, take}
use Rattle.rig_scene.specs.Scene.{SceneRecord}
use Rattle.rig_flush.specs.Retag.{is_tagged_after}
use Rattle.rig_flush.specs.Tables.{AreTablesOf}
use Rattle.rig_flush.proofs.edited.retag.Given as goal

abbrev pub invariant-loop-n : goal.invariant-loop-n
invariant-loop-n l =
    (before after : SceneRecord) → AreTablesOf before l.old_nodes l.old_links → AreTablesOf after l.new_nodes l.new_links
    → l.new ≡ filter (is_tagged_after before after l.tags l.touched) (take l.n l.ops)

use Rattle.std.proofs.Common.{◌≡◌, length, take}
use Rattle.rig_scene.specs.Operations.{operations}
use Rattle.rig_flush.specs.ByNumber.{AreKept}
use Rattle.rig_flush.specs.Counted.{raised_by}
use Rattle.rig_flush.proofs.from_scratch.outputs.Given as goal

abbrev pub invariant-loop-n : goal.invariant-loop-n
invariant-loop-n g l =
    (length l.kept.items ≡ length (operations l.scene)) × AreKept l.scene l.mode l.frame l.kept.items (take l.n-index l.n-items)
    × (g.Y.Tally.count l.tally ≡ raised_by l.n-index (g.Y.Tally.count l.initial.tally))

use Rattle.std.proofs.Common.{◌↔◌, drop}
use Rattle.rig_modifiers.specs.Near.{AreNearStrokes}
use Rattle.rig_modifiers.proofs.near.are_near.Given as goal

abbrev pub invariant-loop-stroke : goal.invariant-loop-stroke
invariant-loop-stroke l = AreNearStrokes (drop l.stroke-index l.strokes) ↔ AreNearStrokes l.strokes

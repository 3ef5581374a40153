use Rattle.std.proofs.Common.{◌≡◌, ◌++◌, take}
use Rattle.rig_points.specs.Change.{point_under}
use Rattle.rig_scene.specs.Layer.{map_points}
use Rattle.rig_modifiers.proofs.near.append_near.Given as goal

abbrev pub invariant-loop-stroke : goal.invariant-loop-stroke
invariant-loop-stroke l = l.new.items ≡ l.initial.new.items ++ map_points (point_under l.shift) (take l.stroke-index l.strokes)

use Rattle.std.proofs.Common.{◌≡◌, ◌++◌, take}
use Rattle.rig_kernel.proofs.geometry.push_each.Given as goal

abbrev pub invariant-loop-stroke : goal.invariant-loop-stroke
invariant-loop-stroke l = l.new.items ≡ l.initial.new.items ++ take l.stroke-index l.strokes

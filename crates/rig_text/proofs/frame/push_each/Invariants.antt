use Rattle.std.proofs.Common.{◌≡◌, ◌++◌, drop}
use Rattle.std.specs.List.{flat_map}
use Rattle.rig_text.specs.Line.{spaced}
use Rattle.rig_text.proofs.frame.push_each.Given as goal

-- what was written and what is to come are all the numbers
abbrev pub invariant-loop-x : goal.invariant-loop-x
invariant-loop-x l = l.text.items ++ flat_map spaced (drop l.x-index l.numbers) ≡ l.fn.text.items ++ flat_map spaced l.numbers

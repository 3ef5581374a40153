use Rattle.std.proofs.Common.{◌≡◌, ◌++◌, drop}
use Rattle.rig_text.specs.History.{turn_lines}
use Rattle.rig_text.proofs.history.history_text.Given as goal

-- the lines so far and those of the turns to come are those of all
abbrev pub invariant-loop-i : goal.invariant-loop-i
invariant-loop-i l = l.text.items ++ turn_lines l.i (drop l.i l.turns) ≡ turn_lines 0 l.turns

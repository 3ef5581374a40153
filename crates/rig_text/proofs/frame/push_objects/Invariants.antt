use Rattle.std.proofs.Common.{◌≡◌, ◌++◌, drop}
use Rattle.rig_text.specs.Frame.{object_lines}
use Rattle.rig_text.proofs.frame.push_objects.Given as goal

-- the lines so far and those of the objects to come are those of all
abbrev pub invariant-loop-i : goal.invariant-loop-i
invariant-loop-i l =
    l.text.items ++ object_lines (drop l.i l.objects) (drop l.i l.worlds) ≡ l.fn.text.items ++ object_lines l.objects l.worlds

use Rattle.std.proofs.Common.{◌≡◌, ◌+◌, ◌*◌, ◌≤◌, ◌++◌, drop}
use Rattle.rig_scene.specs.declared.limits.TheConstants.{MAX_OBJECTS}
use Rattle.rig_play.specs.Made.{whole_text}
use Rattle.rig_play.specs.Output.{lines_from, ran_from, turns_from}
use Rattle.rig_play.proofs.play.play_steps.Given as goal

-- what was taken, printed and counted, with what is to come, is all of it
abbrev pub invariant-loop-i : goal.invariant-loop-i
invariant-loop-i g l = record {
  turns : l.output.turns.items ++ turns_from l.i l.engine (drop l.i l.steps) ≡ l.initial.output.turns.items ++ turns_from 0 l.initial.engine l.steps;
  lines : whole_text l.output.texts.items ++ lines_from l.mode l.i l.engine (drop l.i l.steps) ≡ whole_text l.initial.output.texts.items ++ lines_from l.mode 0 l.initial.engine l.steps;
  counted : g.Y.Tally.count l.tally + ran_from l.engine (drop l.i l.steps) ≡ g.Y.Tally.count l.initial.tally + ran_from l.initial.engine l.steps;
  rises : g.Y.Tally.count l.initial.tally ≤ g.Y.Tally.count l.tally;
  few : g.Y.Tally.count l.tally ≤ g.Y.Tally.count l.initial.tally + l.i * (1 + 3 * MAX_OBJECTS);
}

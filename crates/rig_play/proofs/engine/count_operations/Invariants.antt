use Rattle.std.proofs.Common.{◌≡◌, ◌+◌, ◌*◌, ◌≤◌, sum_by, drop}
use Rattle.rig_play.specs.Stands.{object_count}
use Rattle.rig_play.proofs.engine.count_operations.Given as goal

abbrev pub invariant-loop-object : goal.invariant-loop-object
invariant-loop-object l = record {
  counted : l.count + sum_by object_count (drop l.object-index l.object-items) ≡ sum_by object_count l.object-items + 1;
  few : l.count ≤ 3 * l.object-index + 1;
}

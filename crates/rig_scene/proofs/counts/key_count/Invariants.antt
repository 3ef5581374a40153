use Rattle.std.proofs.Common.{◌≡◌, ◌+◌, drop}
use Rattle.rig_scene.specs.WellFormed.{key_count}
use Rattle.rig_scene.proofs.counts.key_count.Given as goal

abbrev pub invariant-loop-action : goal.invariant-loop-action
invariant-loop-action l = l.count + key_count (drop l.action-index l.actions) ≡ key_count l.actions

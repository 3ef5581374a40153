use Rattle.std.proofs.Common.{◌≡◌, ◌+◌, drop}
use Rattle.rig_scene.specs.WellFormed.{layer_key_count}
use Rattle.rig_scene.proofs.counts.layer_key_count.Given as goal

abbrev pub invariant-loop-pencil : goal.invariant-loop-pencil
invariant-loop-pencil l = l.count + layer_key_count (drop l.pencil-index l.pencils) ≡ layer_key_count l.pencils

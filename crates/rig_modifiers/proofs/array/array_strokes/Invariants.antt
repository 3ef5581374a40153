use Rattle.std.proofs.Common.{◌≡◌, ◌-◌, ◌++◌}
use Rattle.std.specs.List.{flat_map, range_with_len}
use Rattle.rig_fixed.specs.Vector.{v3_sum}
use Rattle.rig_scene.specs.Layer.{map_points}
use Rattle.rig_scene.specs.Modify.{times, array_strokes}
use Rattle.rig_modifiers.proofs.array.array_strokes.Given as goal

abbrev pub invariant-loop-k : goal.invariant-loop-k
invariant-loop-k l =
    l.new.items ++ flat_map (λ k. map_points (λ p. v3_sum p (times k l.offset)) l.strokes) (range_with_len l.k (l.count - l.k))
    ≡ array_strokes l.count l.offset l.strokes

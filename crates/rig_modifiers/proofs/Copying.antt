-- One more copy of an array.
use Rattle.std.proofs.Common.{◌≡◌, ℕ, suc, ◌+◌, ◌-◌, ◌<◌, List, ◌++◌, sym, ◌∙◌, ap, append_assoc, arith}
use Rattle.std.specs.List.{flat_map, range_with_len}
use Rattle.rig_fixed.specs.Vector.{v3_sum}
use Rattle.rig_fixed.specs.declared.vector.V3.{V3}
use Rattle.rig_scene.specs.declared.pencil.Stroke.{Stroke}
use Rattle.rig_scene.specs.Layer.{map_points}

-- what is made so far and what is still to come stays all of it
pub one_more_copy : {X : Type 0} (copy : ℕ → List X) (k count : ℕ) (before after all : List X) → k < count → after ≡ before ++ copy k → before ++ flat_map copy (range_with_len k (count - k)) ≡ all → after ++ flat_map copy (range_with_len (k + 1) (count - (k + 1))) ≡ all
one_more_copy copy k count before after all within is whole =
    let rest = flat_map copy (range_with_len (k + 1) (count - (k + 1))) in
    let more : count - k ≡ suc (count - (k + 1)) = omega arith in
    ap (λ xs. xs ++ rest) is
    ∙ append_assoc before (copy k) rest
    ∙ sym (ap (λ n. before ++ flat_map copy (range_with_len k n)) more)
    ∙ whole

-- the points of a copy, by the offset that was computed
pub copy_by : (before after ss : List Stroke) (offset by : V3) → by ≡ offset → after ≡ before ++ map_points (λ p. v3_sum p by) ss → after ≡ before ++ map_points (λ p. v3_sum p offset) ss
copy_by before after ss offset by same is = is ∙ ap (λ offset. before ++ map_points (λ p. v3_sum p offset) ss) same

-- The row of a number among rows that a function gives for each number.
use Rattle.std.proofs.Common.{◌≡◌, ℕ, ◌<◌, map, Some, slice_get, sym, ap, ◌∙◌, arith}
use Rattle.std.specs.List.{range_with_len}
use Rattle.std.proofs.lemmas.List.FromFn.{length-map-range_with_len, get_or-map-range_with_len}
use Rattle.std.proofs.lemmas.Option.{get_or_from_slice_get}
use Rattle.rig_scene.specs.Found.{some_slice_get}

pub numbered_row : {A : Type 0} (f : ℕ → A) (count n : ℕ) → n < count → slice_get (map f (range_with_len 0 count)) n ≡ Some (f n)
numbered_row f count n h =
    let there = some_slice_get (map f (range_with_len 0 count)) n (let l = length-map-range_with_len f 0 count in omega arith) in
    there.1 ∙ ap Some (sym (get_or_from_slice_get (map f (range_with_len 0 count)) n there.0 (f n) there.1) ∙ get_or-map-range_with_len f 0 count n n (f n) h (omega arith))

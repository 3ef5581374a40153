use Rattle.std.proofs.Common.{bit_or}
use Rattle.rig_points.proofs.Bits.{left_below, right_below, both_below}
use Rattle.rig_points.proofs.near.raised_point.Goals as goal

pub returns : goal.returns
returns c =
    let x = c.raised_coordinate.result in
    let y = c.raised_coordinate-2.result in
    let z = c.raised_coordinate-3.result in (
      λ small.
          let front = left_below _ (bit_or x y) z small in
          (c.raised_coordinate.ensures.0 (left_below _ x y front), c.raised_coordinate-2.ensures.0 (right_below _ x y front), c.raised_coordinate-3.ensures.0 (right_below _ (bit_or x y) z small)),
      λ near. both_below (bit_or x y) z (both_below x y (c.raised_coordinate.ensures.1 near.0) (c.raised_coordinate-2.ensures.1 near.1)) (c.raised_coordinate-3.ensures.1 near.2),
    )

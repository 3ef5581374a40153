use Rattle.std.proofs.Common.{arith}
use Rattle.rig_io.proofs.Pieces.{Gave-at_most, Gave-one_more}
use Rattle.rig_io.proofs.whole.read_all.Goals as goal

pub returns-then-n-rest-clause-too_long : goal.returns-then-n-rest-clause-too_long
returns-then-n-rest-clause-too_long g c =
    λ _. Gave-one_more _ _ _ _ _ _ _ c.loop-n.invariant.came c.in-Bytes.ensures.gave (omega (arith, c.in-Bytes.ensures.some.1, c.in-Bytes.ensures.some.2, c.loop-n.bytes.ok.0)) (omega (arith, c.in-Bytes.ensures.some.1, c.in-Bytes.ensures.some.2, c.loop-n.bytes.ok.0))

pub returns-in_err-extend_from_slice-in-Bytes-clause-no_memory_within :
    goal.returns-in_err-extend_from_slice-in-Bytes-clause-no_memory_within
returns-in_err-extend_from_slice-in-Bytes-clause-no_memory_within g c =
    λ _. Gave-at_most _ _ _ _ _ _ _ c.loop-n.invariant.came c.in-Bytes.ensures.gave (omega (arith, c.in-Bytes.ensures.some.1, c.in-Bytes.ensures.some.2, c.loop-n.bytes.ok.0))

pub returns-in_err-grow_piece-in-Bytes-clause-no_memory_within :
    goal.returns-in_err-grow_piece-in-Bytes-clause-no_memory_within
returns-in_err-grow_piece-in-Bytes-clause-no_memory_within g c =
    λ _. Gave-at_most _ _ _ _ _ _ _ c.loop-n.invariant.came c.in-Bytes.ensures.gave (omega (arith, c.in-Bytes.ensures.some.1, c.in-Bytes.ensures.some.2, c.loop-n.bytes.ok.0))

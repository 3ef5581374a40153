-- Tallies of which the first has counted the operations that ran.
use Rattle.std.specs.Prelude.{◌^◌, sum_by, slice_set}
use Rattle.std.proofs.Common.{◌≡◌, ℕ, zero, suc, ◌+◌, ◌<◌, ◌≤◌, cond, List, length, get_or, refl, ap, ◌∙◌, arith}
use Rattle.std.proofs.lemmas.Bool.{lt-ltb}
use Rattle.std.proofs.lemmas.List.Sums.{sum_by-set}
use Rattle.rig_flush.specs.Counted.{raised_by}
use Rattle.rig_io.specs.Faults.{count_end, raised}

raised_below : (count : ℕ) → count < count_end → raised count ≡ suc count
raised_below count below = ap (λ b. cond b (suc count) count_end) (lt-ltb count count_end below)

-- a count far from the end of its type rises by each time
pub raised_few : (times count : ℕ) → count + times ≤ count_end → raised_by times count ≡ count + times
raised_few zero count fits = omega arith
raised_few (suc times) count fits =
    ap raised (raised_few times count (omega arith)) ∙ raised_below (count + times) (omega arith) ∙ plus_next
  where
    plus_next : suc (count + times) ≡ count + suc times
    plus_next = omega arith

-- the sum has risen by what the first counted
pub sum_after : {Y : Type 0} (count : Y → ℕ) (tallies : List Y) (ran : ℕ) (tally d : Y) → 0 < length tallies → count (get_or tallies 0 d) ≤ 2 ^ 62 → ran < 2 ^ 32
    → count tally ≡ raised_by ran (count (get_or tallies 0 d)) → sum_by count (slice_set tallies 0 tally) ≡ sum_by count tallies + ran
sum_after count tallies ran tally d some few short rose =
    omega (arith, sum_by-set count tallies 0 tally d some, rose ∙ raised_few ran (count (get_or tallies 0 d)) (omega arith))

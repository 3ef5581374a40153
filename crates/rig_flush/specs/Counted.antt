-- A count that rose several times.
use Rattle.std.specs.Prelude.{ℕ, zero, suc}
use Rattle.rig_io.specs.Faults.{raised}

-- a count that rose so many times: it stands still at the end of its type
abbrev pub raised_by : ℕ → ℕ → ℕ
raised_by zero count = count
raised_by (suc times) count = raised (raised_by times count)

-- Counts of faults: numbers that never fall and stand still at the end of their type.
use Rattle.std.specs.Prelude.{ℕ, suc, ◌==◌, ◌||◌, Bool, nat_lt, if◌then◌else◌}

-- where a 64-bit count stands still
abbrev pub count_end : ℕ
count_end = 18446744073709551615

-- one more, but for a count that stands at its end
abbrev pub raised : ℕ → ℕ
raised count = if nat_lt count count_end then suc count else count_end

-- whether the count rose in a call, or stands at its end, where a rise can't be seen
abbrev pub rose : ℕ → ℕ → Bool
rose before after = nat_lt before after || (after == count_end)

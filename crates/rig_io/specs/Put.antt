-- What a write took, by cases.
use Rattle.std.specs.Prelude.{ℕ, ◌==◌, if◌then◌else◌, Result, Ok, Err}
use Rattle.rig_io.specs.declared.sink.Put.{Put}
use Rattle.rig_io.specs.declared.sink.Put.TheVariants.{Took, Failed}

-- a fact about the number of bytes, where some were taken
abbrev pub OnTook : Put → (ℕ → Type 0) → Type 0
OnTook (Took n) P = P n
OnTook Failed P = Unit {0}

-- what the system's answer to a write means: a write that took nothing has failed
abbrev pub put_of : {E : Type 0} → Result ℕ E → Put
put_of (Ok n) = if n == 0 then Failed else Took n
put_of (Err e) = Failed

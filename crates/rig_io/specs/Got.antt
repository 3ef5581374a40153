-- What a read gave, by cases.
use Rattle.std.specs.Prelude.{◌≡◌, ℕ, ◌==◌, if◌then◌else◌, List, drop, Result, Ok, Err}
use Rattle.rig_io.specs.declared.source.Got.{Got}
use Rattle.rig_io.specs.declared.source.Got.TheVariants.{Bytes, End, Failed}

-- a fact about the number of bytes, where some came
abbrev pub OnBytes : Got → (ℕ → Type 0) → Type 0
OnBytes (Bytes n) P = P n
OnBytes End P = Unit {0}
OnBytes Failed P = Unit {0}

-- a buffer before and after a read: all but the bytes that came is unchanged
abbrev pub LeavesRest : Got → List ℕ → List ℕ → Type 0
LeavesRest (Bytes n) before after = drop n after ≡ drop n before
LeavesRest End before after = after ≡ before
LeavesRest Failed before after = after ≡ before

-- what the system's answer to a read means: 0 bytes are the end
abbrev pub got_of : {E : Type 0} → Result ℕ E → Got
got_of (Ok n) = if n == 0 then End else Bytes n
got_of (Err e) = Failed

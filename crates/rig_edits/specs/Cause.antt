-- The codes of causes.
use Rattle.std.specs.Prelude.{ℕ, List, codes}
use Rattle.rig_edits.specs.declared.cause.EditCause.{EditCause}
use Rattle.rig_edits.specs.declared.cause.EditCause.TheVariants.{UnknownId, WrongKind, UnknownPath, UnknownPart, OutOfRange, Duplicate, Absent, InUse, Full}

-- the code of a cause
abbrev pub cause_code : EditCause → List ℕ
cause_code UnknownId = codes "E1"
cause_code WrongKind = codes "E2"
cause_code UnknownPath = codes "E3"
cause_code UnknownPart = codes "E4"
cause_code OutOfRange = codes "E5"
cause_code Duplicate = codes "E6"
cause_code Absent = codes "E7"
cause_code InUse = codes "E8"
cause_code (Full count limit) = codes "E9"

-- the place of a cause in their order
abbrev pub rank_of : EditCause → ℕ
rank_of UnknownId = 1
rank_of WrongKind = 2
rank_of UnknownPath = 3
rank_of UnknownPart = 4
rank_of OutOfRange = 5
rank_of Duplicate = 6
rank_of Absent = 7
rank_of InUse = 8
rank_of (Full count limit) = 9

-- The codes of causes.
use Rattle.std.specs.Prelude.{ℕ, List, codes}
use Rattle.rig_scenejson.specs.declared.fault.Cause.{Cause}
use Rattle.rig_scenejson.specs.declared.fault.Cause.TheVariants as causes

-- the code of a cause
abbrev pub cause_code : Cause → List ℕ
cause_code causes.Missing = codes "S1"
cause_code causes.WrongKind = codes "S2"
cause_code causes.NotWhole = codes "S3"
cause_code causes.OutOfRange = codes "S4"
cause_code causes.BadName = codes "S5"
cause_code causes.Duplicate = codes "S6"
cause_code causes.UnknownRef = codes "S7"
cause_code causes.WrongIdKind = codes "S8"
cause_code causes.Unordered = codes "S9"
cause_code causes.Count = codes "S10"
cause_code causes.Version = codes "S11"

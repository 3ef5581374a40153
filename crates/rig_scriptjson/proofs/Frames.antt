-- Frames without a fault.
use Rattle.std.proofs.Common.{◌≡◌, Bool, true, false, ◌&&◌, [], Option, Some, None, refl, arith, ℤ, pos, int_le}
use Rattle.std.specs.Prelude.{unwrap_or, option_and_then}
use Rattle.std.specs.Option.{option_map_or}
use Rattle.std.specs.Int.{int_min, int_max}
use Rattle.std.proofs.lemmas.Bool.{and_parts}
use Rattle.std.proofs.lemmas.Int.{ints}
use Rattle.serde_json.specs.Data.{Data, Num}
use Rattle.serde_json.specs.Find.{as_number, as_i64}
use Rattle.rig_scenejson.specs.declared.fault.Cause.{Cause}
use Rattle.rig_scenejson.specs.declared.fault.Cause.TheVariants.{WrongKind, NotWhole, OutOfRange}
use Rattle.rig_scenejson.specs.Tests.{fault, unless}
use Rattle.rig_scenejson.specs.Value.{whole_of, whole_faults}

unless_none : (b : Bool) (c : Cause) → unless b c ≡ [] → b ≡ true
unless_none true c e = refl
unless_none false c e = cc

-- a whole number from the least to the most
pub whole_none : (least most : ℤ) (d : Data) → whole_faults least most d ≡ [] → (int_le least (whole_of d) ≡ true) × (int_le (whole_of d) most ≡ true)
whole_none least most d e = by (as_number d) e
  where
    whole : (o : Option ℤ) → option_map_or (λ z. unless (int_le least z && int_le z most) OutOfRange) o (fault NotWhole) ≡ []
        → (int_le least (unwrap_or o (pos 0)) ≡ true) × (int_le (unwrap_or o (pos 0)) most ≡ true)
    whole None e = cc
    whole (Some z) e = and_parts (int_le least z) (int_le z most) (unless_none (int_le least z && int_le z most) OutOfRange e)

    by : (o : Option Num) → option_map_or (λ n. option_map_or (λ z. unless (int_le least z && int_le z most) OutOfRange) (as_i64 n) (fault NotWhole)) o (fault WrongKind) ≡ []
        → (int_le least (unwrap_or (option_and_then as_i64 o) (pos 0)) ≡ true) × (int_le (unwrap_or (option_and_then as_i64 o) (pos 0)) most ≡ true)
    by None e = cc
    by (Some n) e = whole (as_i64 n) e

-- a number that is within limits is the nearest one within them
pub nearest : (least most z : ℤ) → int_le least z ≡ true → int_le z most ≡ true → int_max least (int_min z most) ≡ z
nearest least most z low high = grind (arith, ints)

-- Points so near 0 that a shift takes them to points within the limits.
use Rattle.std.specs.Prelude.{◌^◌, ℤ, pos, neg_ℤ, ◌≤ℤ◌, ◌<ℤ◌, List, All}
use Rattle.rig_fixed.specs.declared.vector.V3.{V3}

-- a number from -2^39 to below 2^39
abbrev pub IsNear : ℤ → Type 0
IsNear c = (neg_ℤ (pos (2 ^ 39)) ≤ℤ c) × (c <ℤ pos (2 ^ 39))

-- a point each of whose coordinates is near 0
abbrev pub IsNearPoint : V3 → Type 0
IsNearPoint p = IsNear p.x × IsNear p.y × IsNear p.z

-- points each of which is near 0
abbrev pub AreNear : List V3 → Type 0
AreNear points = All IsNearPoint points

-- Changes that take no near point beyond the limits.
use Rattle.std.specs.Prelude.{◌^◌, Bool, IsTrue, ℤ, pos, neg_ℤ, ◌-ℤ◌, ◌*ℤ◌, ◌≤ℤ◌}
use Rattle.rig_fixed.specs.Fixed.{highest}
use Rattle.rig_fixed.specs.declared.vector.V3.{V3}
use Rattle.rig_points.specs.declared.change.Axes.{Axes}
use Rattle.rig_points.specs.declared.change.PointMap.{PointMap}
use Rattle.rig_points.specs.declared.change.PointMap.TheVariants.{Translation, Deform, Scaling, Reflection}

-- how far a near coordinate can be moved, to either side
abbrev pub reach : ℤ
reach = highest -ℤ pos (2 ^ 39)

abbrev pub IsWithinReach : ℤ → Type 0
IsWithinReach z = (neg_ℤ reach ≤ℤ z) × (z ≤ℤ reach)

-- an offset that moves each coordinate no further
abbrev pub MovesWithinReach : V3 → Type 0
MovesWithinReach offset = IsWithinReach offset.x × IsWithinReach offset.y × IsWithinReach offset.z

-- a reflection at a centre that moves 0 no further, or none
abbrev pub ReflectsIfOn : Bool → ℤ → Type 0
ReflectsIfOn on centre = IsTrue on → IsWithinReach (pos 2 *ℤ centre)

-- a reflection that moves 0 no further along each axis that is on
abbrev pub ReflectsWithinReach : Axes → V3 → Type 0
ReflectsWithinReach axes centre =
    ReflectsIfOn axes.x centre.x × ReflectsIfOn axes.y centre.y × ReflectsIfOn axes.z centre.z

-- a translation or a reflection within reach
abbrev pub NeedsNoClamp : PointMap → Type 0
NeedsNoClamp (Translation offset) = MovesWithinReach offset
NeedsNoClamp (Deform offset transform) = ⊥
NeedsNoClamp (Scaling scale offset) = ⊥
NeedsNoClamp (Reflection axes centre) = ReflectsWithinReach axes centre

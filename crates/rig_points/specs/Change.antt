-- What is done to a point.
use Rattle.std.specs.Prelude.{Bool, if◌then◌else◌, ℤ, pos, ◌*ℤ◌, ◌-ℤ◌}
use Rattle.rig_fixed.specs.Fixed.{clamp}
use Rattle.rig_fixed.specs.Transform.{carry}
use Rattle.rig_fixed.specs.Vector.{v3_sum, v3_multiple}
use Rattle.rig_fixed.specs.declared.vector.V3.{V3}
use Rattle.rig_points.specs.declared.change.Axes.{Axes}
use Rattle.rig_points.specs.declared.change.PointMap.{PointMap}
use Rattle.rig_points.specs.declared.change.PointMap.TheVariants.{Translation, Deform, Scaling, Reflection}

-- a coordinate on the other side of a centre
abbrev pub reflection : ℤ → ℤ → ℤ
reflection centre c = clamp (pos 2 *ℤ centre -ℤ c)

-- a coordinate on the other side of a centre where its axis is on, else as it is
abbrev pub reflection_if : Bool → ℤ → ℤ → ℤ
reflection_if on centre c = if on then reflection centre c else c

-- a point on the other side of a centre along each axis that is on
abbrev pub reflection_over : Axes → V3 → V3 → V3
reflection_over axes centre p = record {
  x = reflection_if axes.x centre.x p.x;
  y = reflection_if axes.y centre.y p.y;
  z = reflection_if axes.z centre.z p.z;
}

-- a point after the change
abbrev pub point_under : PointMap → V3 → V3
point_under (Translation offset) p = v3_sum p offset
point_under (Deform offset transform) p = carry transform (v3_sum p offset)
point_under (Scaling scale offset) p = v3_sum (v3_multiple scale p) offset
point_under (Reflection axes centre) p = reflection_over axes centre p

-- Points and offsets in space: their coordinates in millionths, sums and multiples.
use Rattle.std.specs.Prelude.{ℤ, pos, ◌+ℤ◌, ◌-ℤ◌, ◌*ℤ◌}
use Rattle.rig_fixed.specs.Fixed.{unit, clamp}
use Rattle.rig_fixed.specs.Number.{rdiv}
use Rattle.rig_fixed.specs.declared.vector.V3.{V3}

-- the point at 0
abbrev pub origin : V3
origin = record { x = pos 0; y = pos 0; z = pos 0 }

-- a function of each coordinate
abbrev pub on_each : (ℤ → ℤ) → V3 → V3
on_each f v = record { x = f v.x; y = f v.y; z = f v.z }

-- a sum, each coordinate clamped
abbrev pub v3_sum : V3 → V3 → V3
v3_sum a b = record { x = clamp (a.x +ℤ b.x); y = clamp (a.y +ℤ b.y); z = clamp (a.z +ℤ b.z) }

-- a multiple by a scale, each coordinate rounded and clamped
abbrev pub v3_multiple : ℤ → V3 → V3
v3_multiple scale v = on_each (λ c. clamp (rdiv (scale *ℤ c) unit)) v

-- the cross product
abbrev pub cross : V3 → V3 → V3
cross a b = record {
  x = a.y *ℤ b.z -ℤ a.z *ℤ b.y;
  y = a.z *ℤ b.x -ℤ a.x *ℤ b.z;
  z = a.x *ℤ b.y -ℤ a.y *ℤ b.x;
}

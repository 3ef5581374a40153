-- Rotations as unit quaternions: those of four numbers of any length, products, and where they take a point.
use Rattle.std.specs.Prelude.{◌==◌, ◌&&◌, if◌then◌else◌, Bool, ℤ, pos, negsuc, ◌+ℤ◌, ◌-ℤ◌, ◌*ℤ◌, ◌≤ℤ◌, neg_ℤ, unsigned_abs}
use Rattle.rig_fixed.specs.Fixed.{unit, clamp}
use Rattle.rig_fixed.specs.Number.{rdiv, isqrt}
use Rattle.rig_fixed.specs.Vector.{cross}
use Rattle.rig_fixed.specs.declared.vector.V3.{V3}
use Rattle.rig_fixed.specs.declared.rotation.Raw.{Raw}

-- a rotation as a quaternion in millionths
pub record Rotation : Type 0 where
  pub w : ℤ
  pub x : ℤ
  pub y : ℤ
  pub z : ℤ

-- what a rounded unit quaternion's component is within
abbrev pub IsWithinUnit : ℤ → Type 0
IsWithinUnit c = (negsuc 1000000 ≤ℤ c) × (c ≤ℤ pos 1000001)

-- the rotation that turns nothing
abbrev pub no_rotation : Rotation
no_rotation = record { w = unit; x = pos 0; y = pos 0; z = pos 0 }

-- ---- of four numbers

-- the square of one whole unit
abbrev pub unit_square : ℤ
unit_square = pos 1000000000000

-- whether all four numbers are 0
abbrev pub is_zero : Rotation → Bool
is_zero q = (unsigned_abs q.w == 0) && (unsigned_abs q.x == 0) && (unsigned_abs q.y == 0) && (unsigned_abs q.z == 0)

-- the sum of the four squares
abbrev pub square_of : Rotation → ℤ
square_of q = q.w *ℤ q.w +ℤ q.x *ℤ q.x +ℤ q.y *ℤ q.y +ℤ q.z *ℤ q.z

-- a million times the length of four numbers, rounded down
abbrev pub length_of : Rotation → ℤ
length_of q = pos (isqrt (unsigned_abs (square_of q *ℤ unit_square)))

-- each of four numbers over a length, in millionths
abbrev pub over_length : ℤ → Rotation → Rotation
over_length size q = record {
  w = rdiv (q.w *ℤ unit_square) size;
  x = rdiv (q.x *ℤ unit_square) size;
  y = rdiv (q.y *ℤ unit_square) size;
  z = rdiv (q.z *ℤ unit_square) size;
}

-- four numbers of any length brought to the length of one unit. Four zeros turn nothing
unfoldable pub unit_rotation : Rotation → Rotation
unit_rotation q = if is_zero q then no_rotation else over_length (length_of q) q

-- the rotation of four numbers as they were given
abbrev pub normal : Raw → Rotation
normal raw = unit_rotation (record { w = raw.w; x = raw.x; y = raw.y; z = raw.z })

-- ---- one after another

-- Hamilton's product of two quaternions
abbrev pub quaternion_product : Rotation → Rotation → Rotation
quaternion_product p q = record {
  w = p.w *ℤ q.w -ℤ p.x *ℤ q.x -ℤ p.y *ℤ q.y -ℤ p.z *ℤ q.z;
  x = p.w *ℤ q.x +ℤ p.x *ℤ q.w +ℤ p.y *ℤ q.z -ℤ p.z *ℤ q.y;
  y = p.w *ℤ q.y -ℤ p.x *ℤ q.z +ℤ p.y *ℤ q.w +ℤ p.z *ℤ q.x;
  z = p.w *ℤ q.z +ℤ p.x *ℤ q.y -ℤ p.y *ℤ q.x +ℤ p.z *ℤ q.w;
}

-- the rotation that turns by the second, and then by the first
unfoldable pub product : Rotation → Rotation → Rotation
product p q = unit_rotation (quaternion_product p q)

-- the rotation back
abbrev pub conjugate : Rotation → Rotation
conjugate q = record { w = q.w; x = neg_ℤ q.x; y = neg_ℤ q.y; z = neg_ℤ q.z }

-- ---- of a point

-- the part of a rotation along the axes
abbrev pub axis_of : Rotation → V3
axis_of q = record { x = q.x; y = q.y; z = q.z }

-- how far a coordinate moves where u is the axis, once = u × v and twice = u × (u × v): 2 w (u × v) + 2 u × (u × v)
abbrev pub turn : ℤ → ℤ → ℤ → ℤ
turn w once twice = rdiv (pos 2 *ℤ w *ℤ once +ℤ pos 2 *ℤ twice) unit_square

-- a point turned about 0
unfoldable pub rotate : Rotation → V3 → V3
rotate q v =
    let once = cross (axis_of q) v in
    let twice = cross (axis_of q) once in
    record {
      x = clamp (v.x +ℤ turn q.w once.x twice.x);
      y = clamp (v.y +ℤ turn q.w once.y twice.y);
      z = clamp (v.z +ℤ turn q.w once.z twice.z);
    }

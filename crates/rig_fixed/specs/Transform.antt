-- Transforms: where they carry a point, one within the space of another, and the way back. Numbers are in millionths.
use Rattle.std.specs.Prelude.{ℤ, pos, ◌*ℤ◌, neg_ℤ}
use Rattle.std.specs.Int.{int_max}
use Rattle.rig_fixed.specs.Fixed.{unit, clamp}
use Rattle.rig_fixed.specs.Number.{rdiv}
use Rattle.rig_fixed.specs.Vector.{origin, on_each, v3_sum, v3_multiple}
use Rattle.rig_fixed.specs.Rotation.{Rotation, no_rotation, rotate, product, conjugate}
use Rattle.rig_fixed.specs.declared.vector.V3.{V3}

-- a location, a rotation and a uniform scale
pub record Transform : Type 0 where
  pub loc : V3
  pub rot : Rotation
  pub scale : ℤ

-- the transform that changes nothing
abbrev pub identity : Transform
identity = record { loc = origin; rot = no_rotation; scale = unit }

-- where a transform takes a point: scaled, then turned, then moved
unfoldable pub carry : Transform → V3 → V3
carry t v = v3_sum t.loc (rotate t.rot (v3_multiple t.scale v))

-- a scale that is computed: at least 1
abbrev pub scale_within : ℤ → ℤ
scale_within scale = clamp (int_max (pos 1) scale)

-- a transform within the space of another
unfoldable pub compose : Transform → Transform → Transform
compose parent child = record {
  loc = carry parent child.loc;
  rot = product parent.rot child.rot;
  scale = scale_within (rdiv (parent.scale *ℤ child.scale) unit);
}

-- the scale back
abbrev pub inverse_scale : ℤ → ℤ
inverse_scale scale = scale_within (rdiv (unit *ℤ unit) scale)

-- the transform back, as far as rounding lets it be
unfoldable pub inverse : Transform → Transform
inverse t = record {
  loc = on_each neg_ℤ (rotate (conjugate t.rot) (v3_multiple (inverse_scale t.scale) t.loc));
  rot = conjugate t.rot;
  scale = inverse_scale t.scale;
}

-- Short ways to write records in examples.
use Rattle.std.specs.Prelude.{ℤ, pos}
use Rattle.rig_fixed.specs.Fixed.{unit}
use Rattle.rig_fixed.specs.Vector.{origin}
use Rattle.rig_fixed.specs.Rotation.{Rotation, normal}
use Rattle.rig_fixed.specs.Transform.{Transform}
use Rattle.rig_fixed.specs.declared.vector.V3.{V3}
use Rattle.rig_fixed.specs.declared.rotation.Raw.{Raw}

abbrev pub v3_of : ℤ → ℤ → ℤ → V3
v3_of x y z = record { x = x; y = y; z = z }

abbrev pub raw_of : ℤ → ℤ → ℤ → ℤ → Raw
raw_of w x y z = record { w = w; x = x; y = y; z = z }

abbrev pub rotation_of : ℤ → ℤ → ℤ → ℤ → Rotation
rotation_of w x y z = record { w = w; x = x; y = y; z = z }

-- a quarter turn about the third axis
abbrev pub quarter_turn : Transform
quarter_turn = record { loc = origin; rot = normal (raw_of (pos 707107) (pos 0) (pos 0) (pos 707107)); scale = unit }

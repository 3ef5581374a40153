-- A transform by its three parts.
use Rattle.std.proofs.Common.{◌≡◌, ℤ}
use Rattle.rig_fixed.specs.Rotation.{Rotation}
use Rattle.rig_fixed.specs.Transform.{Transform}
use Rattle.rig_fixed.specs.declared.vector.V3.{V3}

abbrev pub of_parts : V3 → Rotation → ℤ → Transform
of_parts loc rot scale = record { loc = loc; rot = rot; scale = scale }

pub same_parts : (loc LOC : V3) (rot ROT : Rotation) (scale SCALE : ℤ) → loc ≡ LOC → rot ≡ ROT → scale ≡ SCALE → of_parts loc rot scale ≡ of_parts LOC ROT SCALE
same_parts loc LOC rot ROT scale SCALE el er es = cc

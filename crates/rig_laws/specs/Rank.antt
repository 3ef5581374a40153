-- How far a quantity stands above what it reads inside its own object or pencil.
use Rattle.std.specs.Prelude.{ℕ, ◌+◌}
use Rattle.rig_scene.specs.declared.quantity.Quantity.{Quantity}
use Rattle.rig_scene.specs.declared.quantity.Quantity.TheVariants.{Chan, Local, World, Bone, Layer, Geom}

-- channels are lowest; an object's transforms, the bones of an armature and the geometries of a stack stand in their order
abbrev pub rank : Quantity → ℕ
rank (Chan id path) = 0
rank (Local o) = 1
rank (World o) = 2
rank (Bone o b) = 1 + b
rank (Layer p l) = 1
rank (Geom o i) = 3 + i

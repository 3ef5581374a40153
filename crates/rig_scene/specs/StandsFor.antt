-- Which quantity an operation stands for. Time, animations, and what opens or ends a pose or ends a geometry stand for none.
use Rattle.std.specs.Prelude.{zero, suc, Option, Some, None}
use Rattle.rig_scene.specs.declared.operation.OpId.{OpId}
use Rattle.rig_scene.specs.declared.operation.OpId.TheVariants.{Time, Animation, Driver, Local, World, PoseInit, Bone, PoseDone, Layer, Geometry, ModifierOp, GeometryDone}
use Rattle.rig_scene.specs.declared.quantity.Quantity.{Quantity}
use Rattle.rig_scene.specs.declared.quantity.Quantity.TheVariants as quantity

-- modifiers are counted from 1, so that there is none of number 0
abbrev pub quantity_of : OpId → Option Quantity
quantity_of Time = None
quantity_of (Animation id) = None
quantity_of (Driver id path) = Some (quantity.Chan id path)
quantity_of (Local o) = Some (quantity.Local o)
quantity_of (World o) = Some (quantity.World o)
quantity_of (PoseInit o) = None
quantity_of (Bone o b) = Some (quantity.Bone o b)
quantity_of (PoseDone o) = None
quantity_of (Layer p l) = Some (quantity.Layer p l)
quantity_of (Geometry o) = Some (quantity.Geom o 0)
quantity_of (ModifierOp o zero) = None
quantity_of (ModifierOp o (suc i)) = Some (quantity.Geom o (suc i))
quantity_of (GeometryDone o) = None

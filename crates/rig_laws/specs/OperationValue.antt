-- The value of each operation of a scene at a frame, from scratch: that of the quantity that it stands for.
use Rattle.std.specs.Prelude.{[], length, ℤ}
use Rattle.std.specs.Option.{option_map_or}
use Rattle.rig_scene.specs.declared.id.AnimId.TheVariants as anim
use Rattle.rig_scene.specs.declared.modifier.Mode.{Mode}
use Rattle.rig_scene.specs.declared.operation.OpId.{OpId}
use Rattle.rig_scene.specs.declared.operation.OpId.TheVariants.{Time, Animation, Driver, Local, World, PoseInit, Bone, PoseDone, Layer, Geometry, ModifierOp, GeometryDone}
use Rattle.rig_scene.specs.declared.quantity.Quantity.TheVariants as quantity
use Rattle.rig_scene.specs.ChannelNumber.{id_numbers}
use Rattle.rig_scene.specs.Quantities.{modifiers_of}
use Rattle.rig_scene.specs.Scene.{SceneRecord, object_of}
use Rattle.rig_scene.specs.StandsFor.{quantity_of}
use Rattle.rig_scene.specs.Value.{Value, Numbers, val}
use Rattle.rig_laws.specs.Output.{time_value}

-- of an operation that stands for no quantity: the frame, what the curves of an id give, and the strokes after all modifiers
abbrev pub other_value : SceneRecord → Mode → ℤ → OpId → Value
other_value scene mode frame Time = time_value frame
other_value scene mode frame (Animation id) = Numbers (id_numbers scene frame id)
other_value scene mode frame (Driver id path) = Numbers []
other_value scene mode frame (Local o) = Numbers []
other_value scene mode frame (World o) = Numbers []
other_value scene mode frame (PoseInit o) = Numbers (id_numbers scene frame (anim.Object o))
other_value scene mode frame (Bone o b) = Numbers []
other_value scene mode frame (PoseDone o) = Numbers []
other_value scene mode frame (Layer p l) = Numbers []
other_value scene mode frame (Geometry o) = Numbers []
other_value scene mode frame (ModifierOp o i) = Numbers []
other_value scene mode frame (GeometryDone o) =
    option_map_or (λ object. val scene mode frame (quantity.Geom o (length (modifiers_of object.kind)))) (object_of scene o) (Numbers [])

-- the value of an operation of a scene at a frame
unfoldable pub operation_value : SceneRecord → Mode → ℤ → OpId → Value
operation_value scene mode frame op = option_map_or (val scene mode frame) (quantity_of op) (other_value scene mode frame op)

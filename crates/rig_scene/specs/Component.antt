-- The component of each operation.
use Rattle.rig_scene.specs.declared.operation.Component.{Component}
use Rattle.rig_scene.specs.declared.operation.Component.TheVariants as component
use Rattle.rig_scene.specs.declared.operation.OpId.{OpId}
use Rattle.rig_scene.specs.declared.operation.OpId.TheVariants.{Time, Animation, Driver, Local, World, PoseInit, Bone, PoseDone, Layer, Geometry, ModifierOp, GeometryDone}

abbrev pub component_of : OpId → Component
component_of Time = component.Time
component_of (Animation id) = component.Animation
component_of (Driver id path) = component.Parameters
component_of (Local o) = component.Transform
component_of (World o) = component.Transform
component_of (PoseInit o) = component.Pose
component_of (Bone o b) = component.Pose
component_of (PoseDone o) = component.Pose
component_of (Layer p l) = component.Geometry
component_of (Geometry o) = component.Geometry
component_of (ModifierOp o i) = component.Geometry
component_of (GeometryDone o) = component.Geometry

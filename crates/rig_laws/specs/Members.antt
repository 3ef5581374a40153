-- Which quantities and operations a scene has, told by what they name, and what they read and need.
use Rattle.std.specs.Prelude.{ℕ, ◌&&◌, length, slice_get, Bool, true, false, nat_lt, nat_le, Contains}
use Rattle.std.specs.Option.{option_map_or}
use Rattle.rig_scene.specs.declared.id.ObjectId.{ObjectId}
use Rattle.rig_scene.specs.declared.object.Kind.{Kind}
use Rattle.rig_scene.specs.declared.object.Kind.TheVariants as kind
use Rattle.rig_scene.specs.declared.quantity.Quantity.{Quantity}
use Rattle.rig_scene.specs.declared.quantity.Quantity.TheVariants as quantity
use Rattle.rig_scene.specs.declared.operation.OpId.{OpId}
use Rattle.rig_scene.specs.declared.operation.OpId.TheVariants.{Time, Animation, Driver, Local, World, PoseInit, Bone, PoseDone, Layer, Geometry, ModifierOp, GeometryDone}
use Rattle.rig_scene.specs.declared.quantity.Read.{Read}
use Rattle.rig_scene.specs.Operations.{InLink, operations, ins}
use Rattle.rig_scene.specs.Quantities.{quantities, reads}
use Rattle.rig_scene.specs.Scene.{SceneRecord, object_of}
use Rattle.rig_scene.specs.WellFormed.{has_object, has_bone}
use Rattle.rig_scene.specs.Drivers.{is_driven, has_action}

-- whether a pencil has the layer of a number
abbrev pub has_layer : SceneRecord → ℕ → ℕ → Bool
has_layer s p l = option_map_or (λ pencil. nat_lt l (length pencil.layers)) (slice_get s.pencils p) false

-- whether a kind is a pencil object's, with at least so many modifiers
abbrev pub has_modifiers : ℕ → Kind → Bool
has_modifiers count kind.Empty = false
has_modifiers count (kind.Armature armature pose) = false
has_modifiers count (kind.Pencil pencil modifiers) = nat_le count (length modifiers)

-- whether an object is a pencil object that has the geometry after so many modifiers
abbrev pub has_geometry : SceneRecord → ObjectId → ℕ → Bool
has_geometry s o count = option_map_or (λ object. has_modifiers count object.kind) (object_of s o) false

abbrev pub is_posed : Kind → Bool
is_posed kind.Empty = false
is_posed (kind.Armature armature pose) = true
is_posed (kind.Pencil pencil modifiers) = false

-- whether an object is an armature object
abbrev pub has_pose : SceneRecord → ObjectId → Bool
has_pose s o = option_map_or (λ object. is_posed object.kind) (object_of s o) false

-- whether a scene has what a quantity names
abbrev pub has_quantity : SceneRecord → Quantity → Bool
has_quantity s (quantity.Chan id path) = is_driven s id path
has_quantity s (quantity.Local o) = has_object s o
has_quantity s (quantity.World o) = has_object s o
has_quantity s (quantity.Bone o b) = has_bone s o b
has_quantity s (quantity.Layer p l) = has_layer s p l
has_quantity s (quantity.Geom o i) = has_geometry s o i

-- whether a scene has what an operation names
abbrev pub has_operation : SceneRecord → OpId → Bool
has_operation s Time = true
has_operation s (Animation id) = has_action s id
has_operation s (Driver id path) = is_driven s id path
has_operation s (Local o) = has_object s o
has_operation s (World o) = has_object s o
has_operation s (PoseInit o) = has_pose s o
has_operation s (Bone o b) = has_bone s o b
has_operation s (PoseDone o) = has_pose s o
has_operation s (Layer p l) = has_layer s p l
has_operation s (Geometry o) = has_geometry s o 0
has_operation s (ModifierOp o i) = nat_le 1 i && has_geometry s o i
has_operation s (GeometryDone o) = has_geometry s o 0

-- a read of a quantity of a scene
abbrev pub IsReadOf : SceneRecord → Quantity → Read → Type 0
IsReadOf s q r = Contains (quantities s) q × Contains (reads s q) r

-- an in-link of an operation of a scene
abbrev pub IsInLinkOf : SceneRecord → OpId → InLink → Type 0
IsInLinkOf s op link = Contains (operations s) op × Contains (ins s op) link

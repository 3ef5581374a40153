-- The operations of a scene in order, and the in-links of each.
use Rattle.std.specs.Prelude.{ℕ, zero, suc, ◌&&◌, List, [], ◌∷◌, ◌++◌, length, map, slice_get, Bool, false, option_and_then, if◌then◌else◌}
use Rattle.std.specs.Option.{option_map_or}
use Rattle.std.specs.List.{flat_map, range_with_len, enumerate_from}
use Rattle.rig_scene.specs.declared.id.AnimId.{AnimId}
use Rattle.rig_scene.specs.declared.id.AnimId.TheVariants as anim
use Rattle.rig_scene.specs.declared.id.ObjectId.{ObjectId}
use Rattle.rig_scene.specs.declared.pencil.PencilData.{PencilData}
use Rattle.rig_scene.specs.declared.object.Kind.{Kind}
use Rattle.rig_scene.specs.declared.object.Kind.TheVariants as kind
use Rattle.rig_scene.specs.declared.object.Object.{Object}
use Rattle.rig_scene.specs.declared.driver.Variable.{Variable}
use Rattle.rig_scene.specs.declared.driver.Variable.TheVariants as variable
use Rattle.rig_scene.specs.declared.quantity.Quantity.{Quantity}
use Rattle.rig_scene.specs.declared.quantity.Quantity.TheVariants as quantity
use Rattle.rig_scene.specs.declared.quantity.Read.{Read}
use Rattle.rig_scene.specs.declared.operation.OpId.{OpId}
use Rattle.rig_scene.specs.declared.operation.OpId.TheVariants.{Time, Animation, Driver, Local, World, PoseInit, Bone, PoseDone, Layer, Geometry, ModifierOp, GeometryDone}
use Rattle.rig_scene.specs.Scene.{SceneRecord, object_of}
use Rattle.rig_scene.specs.Drivers.{drivers_of, driver_of, is_driven, has_action}
use Rattle.rig_scene.specs.Quantities.{reads, space_quantity, reference_read, modifiers_of}
use Rattle.rig_scene.specs.Cut.{is_cut}

-- ---- the operations

abbrev pub animation_of : SceneRecord → AnimId → List OpId
animation_of scene id = if has_action scene id then Animation id ∷ [] else []

abbrev pub driver_operations : SceneRecord → AnimId → List OpId
driver_operations scene id = map (λ d. Driver d.id d.path) (drivers_of scene id)

-- the operations of the pencil of an index: its animation where it has an action, its drivers, its layers
abbrev pub pencil_operations : SceneRecord → ℕ → PencilData → List OpId
pencil_operations scene p pencil =
    animation_of scene (anim.Pencil p) ++ driver_operations scene (anim.Pencil p)
    ++ map (Layer p) (range_with_len 0 (length pencil.layers))

-- what an object's kind adds: the pose with its bones, or the geometry with its modifiers
abbrev pub kind_operations : ObjectId → Kind → List OpId
kind_operations o kind.Empty = []
kind_operations o (kind.Armature armature pose) = PoseInit o ∷ (map (Bone o) (range_with_len 0 (length pose)) ++ PoseDone o ∷ [])
kind_operations o (kind.Pencil pencil modifiers) =
    Geometry o ∷ (map (ModifierOp o) (range_with_len 1 (length modifiers)) ++ GeometryDone o ∷ [])

-- the operations of an object: its animation where it has an action, its drivers, its transforms, and what its kind adds
abbrev pub object_operations : SceneRecord → Object → List OpId
object_operations scene o =
    animation_of scene (anim.Object o.id) ++ driver_operations scene (anim.Object o.id)
    ++ Local o.id ∷ World o.id ∷ kind_operations o.id o.kind

-- the operations of a scene: the time, those of its pencils in order, then those of its objects
abbrev pub operations : SceneRecord → List OpId
operations scene =
    Time ∷ (flat_map (λ e. pencil_operations scene e.0 e.1) (enumerate_from 0 scene.pencils) ++ flat_map (object_operations scene) scene.objects)

-- ---- the in-links

-- an operation that another needs, and whether the link is cut
pub record InLink : Type 0 where
  pub op : OpId
  pub cut : Bool

-- a link that is never cut
abbrev pub kept_link : OpId → InLink
kept_link op = record { op = op; cut = false }

-- the operation that stands for a quantity
abbrev pub operation_of : Quantity → OpId
operation_of (quantity.Chan id path) = Driver id path
operation_of (quantity.Local o) = Local o
operation_of (quantity.World o) = World o
operation_of (quantity.Bone o b) = Bone o b
operation_of (quantity.Layer p l) = Layer p l
operation_of (quantity.Geom o zero) = Geometry o
operation_of (quantity.Geom o (suc i)) = ModifierOp o (suc i)

-- the link that stands for a read: cut exactly where that read is
abbrev pub link_of : SceneRecord → Quantity → Read → InLink
link_of scene reader r = record { op = operation_of r.source; cut = r.reference && is_cut scene r.source reader }

-- the links that stand for the reads of a quantity
abbrev pub links_of : SceneRecord → Quantity → List InLink
links_of scene q = map (link_of scene q) (reads scene q)

-- the link of a variable of a driver: the driver of a driven channel, else the animation of its id, or a transform
abbrev pub variable_links : SceneRecord → Quantity → Variable → List InLink
variable_links scene reader (variable.Property id path) =
    if is_driven scene id path then link_of scene reader (reference_read (quantity.Chan id path)) ∷ []
    else map kept_link (animation_of scene id)
variable_links scene reader (variable.Transform o space channel) = link_of scene reader (reference_read (space_quantity o space)) ∷ []

-- the time, for a layer with keys
abbrev pub layer_time : SceneRecord → ℕ → ℕ → List InLink
layer_time scene p l =
    option_map_or (λ layer. if_keys (length layer.keys))
    (option_and_then (λ pencil. slice_get pencil.layers l) (slice_get scene.pencils p)) []
  where
    if_keys : ℕ → List InLink
    if_keys zero = []
    if_keys (suc n) = kept_link Time ∷ []

-- the bones of an object of a kind
abbrev pub bone_links : ObjectId → Kind → List InLink
bone_links o kind.Empty = []
bone_links o (kind.Armature armature pose) = map (λ b. kept_link (Bone o b)) (range_with_len 0 (length pose))
bone_links o (kind.Pencil pencil modifiers) = []

-- the last of so many modifiers, or the geometry before them
abbrev pub last_geometry : ObjectId → ℕ → OpId
last_geometry o zero = Geometry o
last_geometry o (suc i) = ModifierOp o (suc i)

-- The in-links of an operation, in order. They are closed to proofs that don't say `unfolding ins`.
unfoldable pub ins : SceneRecord → OpId → List InLink
ins scene Time = []
ins scene (Animation id) = kept_link Time ∷ []
ins scene (Driver id path) =
    option_map_or (λ d. flat_map (variable_links scene (quantity.Chan id path)) d.variables) (driver_of scene id path) []
ins scene (Local o) = map kept_link (animation_of scene (anim.Object o)) ++ links_of scene (quantity.Local o)
ins scene (World o) = links_of scene (quantity.World o)
ins scene (PoseInit o) = map kept_link (animation_of scene (anim.Object o))
ins scene (Bone o b) = kept_link (PoseInit o) ∷ links_of scene (quantity.Bone o b)
ins scene (PoseDone o) = option_map_or (λ object. bone_links o object.kind) (object_of scene o) []
ins scene (Layer p l) = layer_time scene p l ++ map kept_link (animation_of scene (anim.Pencil p)) ++ links_of scene (quantity.Layer p l)
ins scene (Geometry o) = links_of scene (quantity.Geom o 0)
ins scene (ModifierOp o i) = links_of scene (quantity.Geom o i)
ins scene (GeometryDone o) =
    option_map_or (λ object. kept_link (last_geometry o (length (modifiers_of object.kind))) ∷ []) (object_of scene o) []

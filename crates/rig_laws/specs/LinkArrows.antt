-- The in-links of operations as reads between operations, before it is known which are cut.
use Rattle.std.specs.Prelude.{◌≡◌, ℕ, zero, suc, List, [], ◌∷◌, ◌++◌, length, map, filter, slice_get, not, true, false, option_and_then, if◌then◌else◌, Contains}
use Rattle.std.specs.Option.{option_map_or}
use Rattle.std.specs.List.{flat_map, range_with_len}
use Rattle.rig_cycles.specs.Cut.{Arrow}
use Rattle.rig_scene.specs.declared.id.AnimId.TheVariants as anim
use Rattle.rig_scene.specs.declared.id.ObjectId.{ObjectId}
use Rattle.rig_scene.specs.declared.object.Kind.{Kind}
use Rattle.rig_scene.specs.declared.object.Kind.TheVariants as kind
use Rattle.rig_scene.specs.declared.driver.Variable.{Variable}
use Rattle.rig_scene.specs.declared.driver.Variable.TheVariants.{Property, Transform}
use Rattle.rig_scene.specs.declared.quantity.Quantity.{Quantity}
use Rattle.rig_scene.specs.declared.quantity.Quantity.TheVariants as quantity
use Rattle.rig_scene.specs.declared.operation.OpId.{OpId}
use Rattle.rig_scene.specs.declared.operation.OpId.TheVariants.{Time, Animation, Driver, Local, World, PoseInit, Bone, PoseDone, Layer, Geometry, ModifierOp, GeometryDone}
use Rattle.rig_scene.specs.Scene.{SceneRecord, object_of}
use Rattle.rig_scene.specs.Drivers.{driver_of, is_driven}
use Rattle.rig_scene.specs.Quantities.{reads, space_quantity, modifiers_of}
use Rattle.rig_scene.specs.Operations.{animation_of, operations, operation_of, last_geometry}

-- a read of an operation by another that is never cut
abbrev pub inner_link : OpId → OpId → Arrow OpId
inner_link reader source = record { reader = reader; source = source; is_reference = false }

-- one that is cut where it would close a cycle
abbrev pub reference_link : OpId → OpId → Arrow OpId
reference_link reader source = record { reader = reader; source = source; is_reference = true }

-- the reads of a quantity, as those of an operation
abbrev pub read_links : SceneRecord → OpId → Quantity → List (Arrow OpId)
read_links scene op q = map (λ r. record { reader = op; source = operation_of r.source; is_reference = r.reference }) (reads scene q)

-- what a variable of a driver reads: the driver of a driven channel, else the animation of its id, or a transform
abbrev pub variable_arrows : SceneRecord → OpId → Variable → List (Arrow OpId)
variable_arrows scene op (Property id path) =
    if is_driven scene id path then reference_link op (Driver id path) ∷ [] else map (inner_link op) (animation_of scene id)
variable_arrows scene op (Transform o space channel) = reference_link op (operation_of (space_quantity o space)) ∷ []

-- the time, which an operation of a layer with keys reads
abbrev pub time_arrows : SceneRecord → OpId → ℕ → ℕ → List (Arrow OpId)
time_arrows scene op p l =
    option_map_or (λ layer. if_keys (length layer.keys))
    (option_and_then (λ pencil. slice_get pencil.layers l) (slice_get scene.pencils p)) []
  where
    if_keys : ℕ → List (Arrow OpId)
    if_keys zero = []
    if_keys (suc n) = inner_link op Time ∷ []

-- the bones of an object of a kind
abbrev pub bone_arrows : OpId → ObjectId → Kind → List (Arrow OpId)
bone_arrows op o kind.Empty = []
bone_arrows op o (kind.Armature armature pose) = map (λ b. inner_link op (Bone o b)) (range_with_len 0 (length pose))
bone_arrows op o (kind.Pencil pencil modifiers) = []

-- What an operation reads, in the order of its in-links. They are closed to proofs that don't say `unfolding link_arrows`.
unfoldable pub link_arrows : SceneRecord → OpId → List (Arrow OpId)
link_arrows scene Time = []
link_arrows scene (Animation id) = inner_link (Animation id) Time ∷ []
link_arrows scene (Driver id path) =
    option_map_or (λ d. flat_map (variable_arrows scene (Driver id path)) d.variables) (driver_of scene id path) []
link_arrows scene (Local o) =
    map (inner_link (Local o)) (animation_of scene (anim.Object o)) ++ read_links scene (Local o) (quantity.Local o)
link_arrows scene (World o) = read_links scene (World o) (quantity.World o)
link_arrows scene (PoseInit o) = map (inner_link (PoseInit o)) (animation_of scene (anim.Object o))
link_arrows scene (Bone o b) = inner_link (Bone o b) (PoseInit o) ∷ read_links scene (Bone o b) (quantity.Bone o b)
link_arrows scene (PoseDone o) = option_map_or (λ object. bone_arrows (PoseDone o) o object.kind) (object_of scene o) []
link_arrows scene (Layer p l) =
    time_arrows scene (Layer p l) p l ++ map (inner_link (Layer p l)) (animation_of scene (anim.Pencil p))
    ++ read_links scene (Layer p l) (quantity.Layer p l)
link_arrows scene (Geometry o) = read_links scene (Geometry o) (quantity.Geom o 0)
link_arrows scene (ModifierOp o i) = read_links scene (ModifierOp o i) (quantity.Geom o i)
link_arrows scene (GeometryDone o) =
    option_map_or (λ object. inner_link (GeometryDone o) (last_geometry o (length (modifiers_of object.kind))) ∷ []) (object_of scene o) []

-- all of a scene: by their readers in order, and in order for each
abbrev pub scene_arrows : SceneRecord → List (Arrow OpId)
scene_arrows scene = flat_map (link_arrows scene) (operations scene)

-- those that are never cut, and those that may be, in the order in which they are tested
abbrev pub inner_links : SceneRecord → List (Arrow OpId)
inner_links scene = filter (λ a. not a.is_reference) (scene_arrows scene)

abbrev pub reference_links : SceneRecord → List (Arrow OpId)
reference_links scene = filter (λ a. a.is_reference) (scene_arrows scene)

-- no two operations of a scene have the same name
abbrev pub IsNaming : SceneRecord → (OpId → ℕ) → Type 0
IsNaming scene name = (a b : OpId) → Contains (operations scene) a → Contains (operations scene) b → name a ≡ name b → a ≡ b

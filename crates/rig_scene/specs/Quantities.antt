-- The quantities of a scene in order, and the reads of each.
use Rattle.std.specs.Prelude.{ℕ, zero, suc, ◌+◌, ◌==◌, ◌&&◌, List, [], ◌∷◌, ◌++◌, length, map, slice_get, Bool, true, false, Option, Some, None, option_and_then, if◌then◌else◌}
use Rattle.std.specs.Option.{option_map_or}
use Rattle.std.specs.List.{flat_map, range_with_len, enumerate_from}
use Rattle.rig_scene.specs.declared.id.AnimId.{AnimId}
use Rattle.rig_scene.specs.declared.id.AnimId.TheVariants as anim
use Rattle.rig_scene.specs.declared.id.ObjectId.{ObjectId}
use Rattle.rig_scene.specs.declared.path.Path.{Path}
use Rattle.rig_scene.specs.declared.path.Path.TheVariants as path
use Rattle.rig_scene.specs.declared.armature.RestBone.{RestBone}
use Rattle.rig_scene.specs.declared.pencil.PencilData.{PencilData}
use Rattle.rig_scene.specs.declared.pencil.Layer.{Layer as LayerRecord}
use Rattle.rig_scene.specs.declared.modifier.Effect.{Effect}
use Rattle.rig_scene.specs.declared.modifier.Effect.TheVariants.{Offset, Mirror, Array}
use Rattle.rig_scene.specs.declared.modifier.Modifier.{Modifier}
use Rattle.rig_scene.specs.declared.object.Kind.{Kind}
use Rattle.rig_scene.specs.declared.object.Kind.TheVariants as kind
use Rattle.rig_scene.specs.declared.object.Parent.{Parent}
use Rattle.rig_scene.specs.declared.object.Object.{Object}
use Rattle.rig_scene.specs.declared.driver.Space.{Space}
use Rattle.rig_scene.specs.declared.driver.Space.TheVariants as space
use Rattle.rig_scene.specs.declared.driver.Variable.{Variable}
use Rattle.rig_scene.specs.declared.driver.Variable.TheVariants.{Property, Transform}
use Rattle.rig_scene.specs.declared.quantity.Quantity.{Quantity}
use Rattle.rig_scene.specs.declared.quantity.Quantity.TheVariants.{Chan, Local, World, Bone, Layer, Geom}
use Rattle.rig_scene.specs.declared.quantity.Read.{Read}
use Rattle.rig_scene.specs.Channel.{channels, axes}
use Rattle.rig_scene.specs.Drivers.{drivers_of, driver_of, is_driven, driven_paths}
use Rattle.rig_scene.specs.Id.{same_object, same_id}
use Rattle.rig_scene.specs.Path.{same_path}
use Rattle.rig_scene.specs.Scene.{SceneRecord, object_of}
use Rattle.rig_scene.specs.WellFormed.{bones_of}

-- whether two quantities are the same
abbrev pub same_quantity : Quantity → Quantity → Bool
same_quantity (Chan i p) (Chan j q) = same_id i j && same_path p q
same_quantity (Local a) (Local b) = same_object a b
same_quantity (World a) (World b) = same_object a b
same_quantity (Bone a i) (Bone b j) = same_object a b && (i == j)
same_quantity (Layer p i) (Layer q j) = (p == q) && (i == j)
same_quantity (Geom a i) (Geom b j) = same_object a b && (i == j)
same_quantity a b = false

-- ---- the quantities

-- the driven channels of an id, in the order of the drivers
abbrev pub chans_of : SceneRecord → AnimId → List Quantity
chans_of scene id = map (λ d. Chan d.id d.path) (drivers_of scene id)

-- the quantities of the pencil of an index: its driven channels, then its layers
abbrev pub pencil_quantities : SceneRecord → ℕ → PencilData → List Quantity
pencil_quantities scene p pencil = chans_of scene (anim.Pencil p) ++ map (Layer p) (range_with_len 0 (length pencil.layers))

-- what an object's kind adds: a bone for each bone of an armature, the geometry after 0, 1 and so on of its modifiers
abbrev pub kind_quantities : ObjectId → Kind → List Quantity
kind_quantities o kind.Empty = []
kind_quantities o (kind.Armature armature pose) = map (Bone o) (range_with_len 0 (length pose))
kind_quantities o (kind.Pencil pencil modifiers) = map (Geom o) (range_with_len 0 (length modifiers + 1))

-- the quantities of an object: its driven channels, its transforms, and what its kind adds
abbrev pub object_quantities : SceneRecord → Object → List Quantity
object_quantities scene o = chans_of scene (anim.Object o.id) ++ Local o.id ∷ World o.id ∷ kind_quantities o.id o.kind

-- the quantities of a scene: those of its pencils in order, then those of its objects
abbrev pub quantities : SceneRecord → List Quantity
quantities scene =
    flat_map (λ e. pencil_quantities scene e.0 e.1) (enumerate_from 0 scene.pencils) ++ flat_map (object_quantities scene) scene.objects

-- ---- the reads

-- a read that can't close a cycle
abbrev pub inner_read : Quantity → Read
inner_read q = record { source = q; reference = false }

-- a read that may
abbrev pub reference_read : Quantity → Read
reference_read q = record { source = q; reference = true }

-- the transform of an object that a space names
abbrev pub space_quantity : ObjectId → Space → Quantity
space_quantity o space.World = World o
space_quantity o space.Local = Local o
space_quantity o (space.Pose bone) = Bone o bone

-- what a variable reads: a driven channel, or a transform; a channel that isn't driven is read off the records
abbrev pub variable_reads : SceneRecord → Variable → List Read
variable_reads scene (Property id p) = if is_driven scene id p then reference_read (Chan id p) ∷ [] else []
variable_reads scene (Transform o space channel) = reference_read (space_quantity o space) ∷ []

-- the driven ones of an id's paths
abbrev pub driven_reads : SceneRecord → AnimId → List Path → List Read
driven_reads scene id paths = map (λ p. inner_read (Chan id p)) (driven_paths scene id paths)

-- what carries an object: its parent, and then the bone of the parent, where there are such
abbrev pub parent_reads : Option Parent → List Read
parent_reads None = []
parent_reads (Some parent) =
    reference_read (World parent.object) ∷ option_map_or (λ b. reference_read (Bone parent.object b) ∷ []) parent.bone []

-- the reads of a bone of an object: its driven channels, then its parent bone
abbrev pub bone_reads : SceneRecord → ObjectId → RestBone → List Read
bone_reads scene o bone =
    driven_reads scene (anim.Object o) (map (path.Bone bone.name) channels)
    ++ option_map_or (λ b. inner_read (Bone o b) ∷ []) bone.parent []

-- the reads of a layer of a pencil: its driven offsets, then the bone that it is bound to
abbrev pub layer_reads : SceneRecord → ℕ → LayerRecord → List Read
layer_reads scene p layer =
    driven_reads scene (anim.Pencil p) (map (path.Layer layer.name) axes)
    ++ option_map_or (λ b. reference_read (Bone b.object b.bone) ∷ []) layer.bound []

-- what a modifier of an object reads beside the strokes: for a mirror with a centre the world transform of the object, then
-- that of the centre
abbrev pub effect_reads : ObjectId → Effect → List Read
effect_reads o (Offset loc scale) = []
effect_reads o (Mirror mirror) = option_map_or (λ centre. inner_read (World o) ∷ reference_read (World centre) ∷ []) mirror.centre []
effect_reads o (Array count offset) = []

-- the modifiers of an object's kind
abbrev pub modifiers_of : Kind → List Modifier
modifiers_of kind.Empty = []
modifiers_of (kind.Armature armature pose) = []
modifiers_of (kind.Pencil pencil modifiers) = modifiers

-- the reads of an object's geometry: at first each layer of its pencil, after a modifier the geometry before it and what it reads
abbrev pub geometry_reads : SceneRecord → Object → ℕ → List Read
geometry_reads scene o zero =
    kind_layers scene.pencils o.kind
  where
    kind_layers : List PencilData → Kind → List Read
    kind_layers pencils kind.Empty = []
    kind_layers pencils (kind.Armature armature pose) = []
    kind_layers pencils (kind.Pencil p modifiers) =
        option_map_or (λ pencil. map (λ l. inner_read (Layer p l)) (range_with_len 0 (length pencil.layers))) (slice_get pencils p) []
geometry_reads scene o (suc i) =
    inner_read (Geom o.id i) ∷ option_map_or (λ m. effect_reads o.id m.effect) (slice_get (modifiers_of o.kind) i) []

-- the reads of a quantity, in order
abbrev pub reads : SceneRecord → Quantity → List Read
reads scene (Chan id p) = option_map_or (λ d. flat_map (variable_reads scene) d.variables) (driver_of scene id p) []
reads scene (Local o) = driven_reads scene (anim.Object o) (map path.Own channels)
reads scene (World o) = inner_read (Local o) ∷ option_map_or (λ object. parent_reads object.parent) (object_of scene o) []
reads scene (Bone o b) = option_map_or (bone_reads scene o) (option_and_then (λ bones. slice_get bones b) (bones_of scene o)) []
reads scene (Layer p l) =
    option_map_or (layer_reads scene p) (option_and_then (λ pencil. slice_get pencil.layers l) (slice_get scene.pencils p)) []
reads scene (Geom o i) = option_map_or (λ object. geometry_reads scene object i) (object_of scene o) []

-- The words of a quantity. A name that isn't found is the empty text.
use Rattle.std.specs.Prelude.{ℕ, List, [], ◌∷◌, ◌++◌, codes, slice_get, Option, option_and_then}
use Rattle.std.specs.Fmt.{decimal}
use Rattle.std.specs.Option.{option_map_or}
use Rattle.rig_scene.specs.declared.armature.RestBone.{RestBone}
use Rattle.rig_scene.specs.declared.id.AnimId.{AnimId}
use Rattle.rig_scene.specs.declared.id.AnimId.TheVariants as anim
use Rattle.rig_scene.specs.declared.id.ObjectId.{ObjectId}
use Rattle.rig_scene.specs.declared.path.Path.{Path}
use Rattle.rig_scene.specs.declared.path.Path.TheVariants as path
use Rattle.rig_scene.specs.declared.pencil.Layer.{Layer as LayerRecord}
use Rattle.rig_scene.specs.declared.quantity.Quantity.{Quantity}
use Rattle.rig_scene.specs.declared.quantity.Quantity.TheVariants.{Chan, Local, World, Bone, Layer, Geom}
use Rattle.rig_scene.specs.Channel.{channel_word, axis_word}
use Rattle.rig_scene.specs.Scene.{SceneRecord, object_of}
use Rattle.rig_scene.specs.WellFormed.{bones_of}

-- ---- names

-- the name of an object, by its id
abbrev pub object_name : SceneRecord → ObjectId → List ℕ
object_name scene id = option_map_or (λ o. o.name) (object_of scene id) []

-- a bone, by its index in the object's armature
abbrev pub bone_of : SceneRecord → ObjectId → ℕ → Option RestBone
bone_of scene id index = option_and_then (λ bones. slice_get bones index) (bones_of scene id)

abbrev pub bone_name : SceneRecord → ObjectId → ℕ → List ℕ
bone_name scene id index = option_map_or (λ b. b.name) (bone_of scene id index) []

-- the name of a pencil, by its index
abbrev pub pencil_name : SceneRecord → ℕ → List ℕ
pencil_name scene pencil = option_map_or (λ p. p.name) (slice_get scene.pencils pencil) []

-- a layer, by the indices of its pencil and its own
abbrev pub layer_of : SceneRecord → ℕ → ℕ → Option LayerRecord
layer_of scene pencil index = option_and_then (λ p. slice_get p.layers index) (slice_get scene.pencils pencil)

abbrev pub layer_name : SceneRecord → ℕ → ℕ → List ℕ
layer_name scene pencil index = option_map_or (λ l. l.name) (layer_of scene pencil index) []

-- ---- words

-- `object NAME` or `pencil NAME`
abbrev pub id_words : SceneRecord → AnimId → List ℕ
id_words scene (anim.Object o) = codes "object " ++ object_name scene o
id_words scene (anim.Pencil p) = codes "pencil " ++ pencil_name scene p

-- `CHANNEL`, `bone BONE CHANNEL` or `layer LAYER CHANNEL`
abbrev pub path_words : Path → List ℕ
path_words (path.Own channel) = channel_word channel
path_words (path.Bone bone channel) = codes "bone " ++ bone ++ 32 ∷ channel_word channel
path_words (path.Layer layer axis) = codes "layer " ++ layer ++ 32 ∷ axis_word axis

-- `channel object NAME ..` or `channel pencil NAME ..`
abbrev pub channel_words : SceneRecord → AnimId → Path → List ℕ
channel_words scene id path = codes "channel " ++ id_words scene id ++ 32 ∷ path_words path

-- the words of a channel, `local NAME`, `world NAME`, `bone NAME BONE`, `layer PENCIL LAYER` or `geometry NAME I`
abbrev pub quantity_words : SceneRecord → Quantity → List ℕ
quantity_words scene (Chan id path) = channel_words scene id path
quantity_words scene (Local o) = codes "local " ++ object_name scene o
quantity_words scene (World o) = codes "world " ++ object_name scene o
quantity_words scene (Bone o bone) = codes "bone " ++ object_name scene o ++ 32 ∷ bone_name scene o bone
quantity_words scene (Layer pencil layer) = codes "layer " ++ pencil_name scene pencil ++ 32 ∷ layer_name scene pencil layer
quantity_words scene (Geom o count) = codes "geometry " ++ object_name scene o ++ 32 ∷ decimal count

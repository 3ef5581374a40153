-- Which operations an edit touches: those whose value it can change by itself, with in-links that stay the same. What follows along
-- links, and operations or in-links that the edit changes, isn't named here.
use Rattle.std.specs.Prelude.{ℕ, ◌+◌, ◌-◌, ◌==◌, ◌&&◌, List, [], ◌∷◌, ◌++◌, length, map, filter, slice_get, Bool, false, Option, None, Some, option_and_then, ℤ, pos}
use Rattle.std.specs.Option.{option_map_or}
use Rattle.std.specs.List.{list_any, enumerate_from, position, range_with_len}
use Rattle.std.specs.Ordering.{int_eq}
use Rattle.rig_scene.specs.declared.driver.Variable.{Variable}
use Rattle.rig_scene.specs.declared.driver.Variable.TheVariants.{Property, Transform}
use Rattle.rig_scene.specs.declared.id.AnimId.{AnimId}
use Rattle.rig_scene.specs.declared.id.AnimId.TheVariants as anim
use Rattle.rig_scene.specs.declared.object.Kind.{Kind}
use Rattle.rig_scene.specs.declared.object.Kind.TheVariants.{Empty, Armature, Pencil}
use Rattle.rig_scene.specs.declared.object.Object.{Object}
use Rattle.rig_scene.specs.declared.operation.OpId.{OpId}
use Rattle.rig_scene.specs.declared.operation.OpId.TheVariants as op
use Rattle.rig_scene.specs.declared.path.Path.{Path}
use Rattle.rig_scene.specs.declared.path.Path.TheVariants as path
use Rattle.rig_scene.specs.declared.pencil.Layer.{Layer}
use Rattle.rig_scene.specs.Id.{same_id}
use Rattle.rig_scene.specs.Path.{same_path}
use Rattle.rig_scene.specs.Scene.{SceneRecord, object_of}
use Rattle.rig_scene.specs.Text.{same_text}
use Rattle.rig_edits.specs.declared.edit.Edit.{Edit}
use Rattle.rig_edits.specs.declared.edit.Edit.TheVariants.{SetValue, SetKey, DeleteKey, SetFlag, MovePoint, SetLayerKey, DeleteLayerKey, SetParent, SetDriver, ClearDriver, AddObject, RemoveObject, AddModifier, RemoveModifier}
use Rattle.rig_edits.specs.declared.edit.Flag.TheVariants.{Switch, Hidden}
use Rattle.rig_edits.specs.Named.{object_named, pencil_index, bone_index, id_of}
use Rattle.rig_edits.specs.Named.{modifiers_of}

-- ---- original numbers

-- the layer of a name, of the pencil of an index
abbrev pub layer_operations : SceneRecord → ℕ → List ℕ → List OpId
layer_operations s p name =
    option_map_or (λ l. op.Layer p l ∷ []) (option_and_then (λ pencil. position (λ l. same_text l.name name) pencil.layers) (slice_get s.pencils p)) []

-- the operation that has a channel's original number: a local transform, a bone or a layer
abbrev pub channel_operations : SceneRecord → AnimId → Path → List OpId
channel_operations s (anim.Object o) (path.Own channel) = op.Local o ∷ []
channel_operations s (anim.Object o) (path.Bone name channel) =
    option_map_or (λ b. op.Bone o b ∷ []) (option_and_then (λ object. bone_index s object.kind name) (object_of s o)) []
channel_operations s (anim.Object o) (path.Layer name axis) = []
channel_operations s (anim.Pencil p) (path.Own channel) = []
channel_operations s (anim.Pencil p) (path.Bone name channel) = []
channel_operations s (anim.Pencil p) (path.Layer name axis) = layer_operations s p name

-- whether a variable is the property of a channel
abbrev pub is_property : AnimId → Path → Variable → Bool
is_property id path (Property i p) = same_id i id && same_path p path
is_property id path (Transform object space channel) = false

-- the drivers with a property variable that names a channel, whether it is driven or not
abbrev pub property_readers : SceneRecord → AnimId → Path → List OpId
property_readers s id path = map (λ d. op.Driver d.id d.path) (filter (λ d. list_any (is_property id path) d.variables) s.drivers)

-- ---- actions

-- whether an id has the action of an index
abbrev pub uses_action : ℕ → Option ℕ → Bool
uses_action action None = false
uses_action action (Some index) = index == action

-- the animations of the ids that use an action: pencils, then objects
abbrev pub animations_of : SceneRecord → ℕ → List OpId
animations_of s action =
    map (λ e. op.Animation (anim.Pencil e.0)) (filter (λ e. uses_action action e.1.action) (enumerate_from 0 s.pencils))
    ++ map (λ o. op.Animation (anim.Object o.id)) (filter (λ o. uses_action action o.action) s.objects)

abbrev pub action_index : SceneRecord → List ℕ → Option ℕ
action_index s name = position (λ a. same_text a.name name) s.actions

abbrev pub animations_named : SceneRecord → List ℕ → List OpId
animations_named s action = option_map_or (animations_of s) (action_index s action) []

-- ---- pencils

-- whether an object is one of a pencil
abbrev pub has_pencil : ℕ → Kind → Bool
has_pencil p Empty = false
has_pencil p (Armature armature pose) = false
has_pencil p (Pencil pencil modifiers) = pencil == p

-- the geometries of the objects of a pencil
abbrev pub geometries_of : SceneRecord → ℕ → List OpId
geometries_of s p = map (λ o. op.Geometry o.id) (filter (λ o. has_pencil p o.kind) s.objects)

-- the layer of a name, of the pencil of a name
abbrev pub layers_named : SceneRecord → List ℕ → List ℕ → List OpId
layers_named s pencil layer = option_map_or (λ p. layer_operations s p layer) (pencil_index s pencil) []

-- whether a key of a layer has a drawing
abbrev pub shows_drawing : ℤ → Layer → Bool
shows_drawing drawing layer = list_any (λ k. int_eq (pos k.drawing) drawing) layer.keys

-- the layers of the pencil of an index with a key of a drawing
abbrev pub drawing_layers : SceneRecord → ℤ → ℕ → List OpId
drawing_layers s drawing p =
    option_map_or (λ pencil. map (λ e. op.Layer p e.0) (filter (λ e. shows_drawing drawing e.1) (enumerate_from 0 pencil.layers)))
    (slice_get s.pencils p) []

-- ---- modifiers

-- the place of a modifier in the stack of an object, counted from 0
abbrev pub modifier_place : Object → List ℕ → Option ℕ
modifier_place object name = position (λ m. same_text m.name name) (modifiers_of object.kind)

abbrev pub modifier_named : SceneRecord → List ℕ → List ℕ → List OpId
modifier_named s object name =
    option_map_or (λ o. option_map_or (λ i. op.ModifierOp o.id (i + 1) ∷ []) (modifier_place o name) []) (object_named s object) []

-- a modifier and all above it
abbrev pub modifiers_from : SceneRecord → List ℕ → List ℕ → List OpId
modifiers_from s object name =
    option_map_or (λ o. option_map_or (λ i. map (op.ModifierOp o.id) (range_with_len (i + 1) (length (modifiers_of o.kind) - i))) (modifier_place o name) [])
    (object_named s object) []

-- ---- edits

-- The operations that an edit touches, by the scene before it.
unfoldable pub touch : SceneRecord → Edit → List OpId
touch s (SetValue id path value) = option_map_or (λ a. channel_operations s a path ++ property_readers s a path) (id_of s id) []
touch s (SetKey action path frame value interp) = animations_named s action
touch s (DeleteKey action path frame) = animations_named s action
touch s (SetFlag (Switch object modifier mode) on) = modifier_named s object modifier
touch s (SetFlag (Hidden pencil layer) on) = option_map_or (geometries_of s) (pencil_index s pencil) []
touch s (MovePoint pencil drawing stroke point to) = option_map_or (drawing_layers s drawing) (pencil_index s pencil) []
touch s (SetLayerKey pencil layer frame drawing) = layers_named s pencil layer
touch s (DeleteLayerKey pencil layer frame) = layers_named s pencil layer
touch s (SetParent object parent) = option_map_or (λ o. op.World o.id ∷ []) (object_named s object) []
touch s (SetDriver id path driver) = option_map_or (λ a. op.Driver a path ∷ []) (id_of s id) []
touch s (ClearDriver id path) = []
touch s (AddObject name kind) = []
touch s (RemoveObject object) = []
touch s (AddModifier object name viewport render effect) = []
touch s (RemoveModifier object modifier) = modifiers_from s object modifier

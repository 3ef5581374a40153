-- What a name or a number of an edit means in a scene.
use Rattle.std.specs.Prelude.{ℕ, List, [], slice_get, slice_set, Bool, Option, None, option_map, ℤ, pos, negsuc}
use Rattle.std.specs.Option.{option_map_or}
use Rattle.std.specs.List.{find, position}
use Rattle.rig_scene.specs.declared.action.Action.{Action}
use Rattle.rig_scene.specs.declared.action.Curve.{Curve}
use Rattle.rig_scene.specs.declared.armature.RestBone.{RestBone}
use Rattle.rig_scene.specs.declared.id.AnimId.{AnimId}
use Rattle.rig_scene.specs.declared.id.AnimId.TheVariants as anim
use Rattle.rig_scene.specs.declared.modifier.Modifier.{Modifier}
use Rattle.rig_scene.specs.declared.object.Kind.{Kind}
use Rattle.rig_scene.specs.declared.object.Kind.TheVariants.{Empty, Armature, Pencil}
use Rattle.rig_scene.specs.declared.object.Object.{Object}
use Rattle.rig_scene.specs.declared.path.Path.{Path}
use Rattle.rig_scene.specs.declared.pencil.Layer.{Layer}
use Rattle.rig_scene.specs.declared.pencil.PencilData.{PencilData}
use Rattle.rig_scene.specs.Path.{same_path}
use Rattle.rig_scene.specs.Scene.{SceneRecord, armature_of}
use Rattle.rig_scene.specs.Text.{same_text}
use Rattle.rig_edits.specs.declared.edit.IdName.{IdName}
use Rattle.rig_edits.specs.declared.edit.IdName.TheVariants as named

-- ---- records by their names

abbrev pub action_named : SceneRecord → List ℕ → Option Action
action_named s name = find (λ a. same_text a.name name) s.actions

abbrev pub object_named : SceneRecord → List ℕ → Option Object
object_named s name = find (λ o. same_text o.name name) s.objects

abbrev pub pencil_named : SceneRecord → List ℕ → Option PencilData
pencil_named s name = find (λ p. same_text p.name name) s.pencils

-- the index of the pencil, or of the armature, of a name
abbrev pub pencil_index : SceneRecord → List ℕ → Option ℕ
pencil_index s name = position (λ p. same_text p.name name) s.pencils

abbrev pub armature_index : SceneRecord → List ℕ → Option ℕ
armature_index s name = position (λ a. same_text a.name name) s.armatures

-- ---- their parts

abbrev pub curve_of : Action → Path → Option Curve
curve_of action path = find (λ c. same_path c.path path) action.curves

abbrev pub layer_named : PencilData → List ℕ → Option Layer
layer_named pencil name = find (λ l. same_text l.name name) pencil.layers

-- the bones of an object of a kind, none where it is no armature object
abbrev pub bones_of_kind : SceneRecord → Kind → List RestBone
bones_of_kind s kind = option_map_or (λ a. a.bones) (armature_of s kind) []

-- the index of the bone of a name, of an object of a kind
abbrev pub bone_index : SceneRecord → Kind → List ℕ → Option ℕ
bone_index s kind name = position (λ b. same_text b.name name) (bones_of_kind s kind)

-- the stack of modifiers of a kind
abbrev pub modifiers_of : Kind → List Modifier
modifiers_of Empty = []
modifiers_of (Armature armature pose) = []
modifiers_of (Pencil pencil modifiers) = modifiers

abbrev pub modifier_named : Kind → List ℕ → Option Modifier
modifier_named kind name = find (λ m. same_text m.name name) (modifiers_of kind)

-- the element of a list at a number, none where that is negative
abbrev pub at_number : {A : Type 0} → List A → ℤ → Option A
at_number xs (pos n) = slice_get xs n
at_number xs (negsuc n) = None

-- ---- ids

-- the id that a name means
abbrev pub id_of : SceneRecord → IdName → Option AnimId
id_of s (named.Object name) = option_map (λ o. anim.Object o.id) (object_named s name)
id_of s (named.Pencil name) = option_map (λ p. anim.Pencil p) (pencil_index s name)

-- ---- lists with one element changed

-- the element at an index changed
abbrev pub update_at : {A : Type 0} → (A → A) → ℕ → List A → List A
update_at change index xs = option_map_or (λ x. slice_set xs index (change x)) (slice_get xs index) xs

-- the first element that passes a test changed
abbrev pub update_first : {A : Type 0} → (A → Bool) → (A → A) → List A → List A
update_first test change xs = option_map_or (λ index. update_at change index xs) (position test xs) xs

-- the element at a number changed
abbrev pub update_at_number : {A : Type 0} → (A → A) → ℤ → List A → List A
update_at_number change (pos n) xs = update_at change n xs
update_at_number change (negsuc n) xs = xs

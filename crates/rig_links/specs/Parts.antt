-- The links of an operation, by what the records say of it.
use Rattle.std.specs.Prelude.{ℕ, zero, suc, List, [], ◌∷◌, ◌++◌, map, length, true, false, Option, Some, None, if◌then◌else◌}
use Rattle.std.specs.Option.{option_map_or}
use Rattle.std.specs.List.{flat_map, range_with_len}
use Rattle.rig_cut.specs.declared.links.Link.{Link}
use Rattle.rig_scene.specs.declared.armature.RestBone.{RestBone}
use Rattle.rig_scene.specs.declared.id.AnimId.{AnimId}
use Rattle.rig_scene.specs.declared.id.AnimId.TheVariants as anim
use Rattle.rig_scene.specs.declared.id.ObjectId.{ObjectId}
use Rattle.rig_scene.specs.declared.driver.Variable.{Variable}
use Rattle.rig_scene.specs.declared.driver.Variable.TheVariants.{Property, Transform}
use Rattle.rig_scene.specs.declared.modifier.Effect.{Effect}
use Rattle.rig_scene.specs.declared.modifier.Effect.TheVariants.{Offset, Mirror, Array}
use Rattle.rig_scene.specs.declared.object.Parent.{Parent}
use Rattle.rig_scene.specs.declared.operation.OpId.{OpId}
use Rattle.rig_scene.specs.declared.operation.OpId.TheVariants as op
use Rattle.rig_scene.specs.declared.path.Path.{Path}
use Rattle.rig_scene.specs.declared.path.Path.TheVariants as path
use Rattle.rig_scene.specs.declared.pencil.Layer.{Layer}
use Rattle.rig_scene.specs.Channel.{channels, axes}
use Rattle.rig_scene.specs.Drivers.{is_driven}
use Rattle.rig_scene.specs.Operations.{operation_of, last_geometry}
use Rattle.rig_scene.specs.Quantities.{space_quantity}
use Rattle.rig_scene.specs.Scene.{SceneRecord}
use Rattle.rig_laws.specs.Members.{has_operation}
use Rattle.rig_links.specs.Numbers.{link_to}

module _ (s : SceneRecord) (reader : ℕ) where
  -- a link that is never cut, and one that may be
  abbrev pub inner : OpId → Link
  inner o = link_to s reader false o

  abbrev pub reference : OpId → Link
  reference o = link_to s reader true o

  -- a link that is never cut, where the scene has the operation
  abbrev pub if_there : OpId → List Link
  if_there o = if has_operation s o then inner o ∷ [] else []

  -- the drivers of those of an id's paths that are driven
  abbrev pub driven : AnimId → List Path → List Link
  driven id paths = flat_map (λ p. if_there (op.Driver id p)) paths

  -- what a variable of a driver reads
  abbrev pub of_variable : Variable → List Link
  of_variable (Property id p) = if is_driven s id p then reference (op.Driver id p) ∷ [] else if_there (op.Animation id)
  of_variable (Transform o space channel) = reference (operation_of (space_quantity o space)) ∷ []

  -- the parent of an object, and the bone that it is parented to
  abbrev pub of_parent : Option Parent → List Link
  of_parent None = []
  of_parent (Some parent) = reference (op.World parent.object) ∷ option_map_or (λ b. reference (op.Bone parent.object b) ∷ []) parent.bone []

  -- a local transform
  abbrev pub of_local : ObjectId → List Link
  of_local o = if_there (op.Animation (anim.Object o)) ++ driven (anim.Object o) (map path.Own channels)

  -- a world transform
  abbrev pub of_world : ObjectId → Option Parent → List Link
  of_world o parent = inner (op.Local o) ∷ of_parent parent

  -- a bone
  abbrev pub of_bone : ObjectId → RestBone → List Link
  of_bone o bone =
      inner (op.PoseInit o)
      ∷ (driven (anim.Object o) (map (path.Bone bone.name) channels) ++ option_map_or (λ b. inner (op.Bone o b) ∷ []) bone.parent [])

  -- all bones of an object
  abbrev pub of_bones : ObjectId → ℕ → List Link
  of_bones o count = map (λ b. inner (op.Bone o b)) (range_with_len 0 count)

  -- the time, for a layer with keys
  abbrev pub of_keys : ℕ → List Link
  of_keys zero = []
  of_keys (suc n) = inner op.Time ∷ []

  -- a layer of a pencil
  abbrev pub of_layer : ℕ → Layer → List Link
  of_layer p layer =
      of_keys (length layer.keys) ++ if_there (op.Animation (anim.Pencil p))
      ++ (driven (anim.Pencil p) (map (path.Layer layer.name) axes)
      ++ option_map_or (λ b. reference (op.Bone b.object b.bone) ∷ []) layer.bound [])

  -- the layers of the pencil of an index
  abbrev pub of_geometry : ℕ → ℕ → List Link
  of_geometry p count = map (λ l. inner (op.Layer p l)) (range_with_len 0 count)

  -- what a modifier needs beside the strokes
  abbrev pub of_effect : ObjectId → Effect → List Link
  of_effect o (Offset loc scale) = []
  of_effect o (Mirror mirror) = option_map_or (λ centre. inner (op.World o) ∷ reference (op.World centre) ∷ []) mirror.centre []
  of_effect o (Array count offset) = []

  -- the modifier behind so many others
  abbrev pub of_modifier : ObjectId → ℕ → Effect → List Link
  of_modifier o i effect = inner (last_geometry o i) ∷ of_effect o effect

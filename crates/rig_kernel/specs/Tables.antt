-- What evaluation looks up by table: the paths of each action's curves, the bones of each armature at rest and by name, and the
-- operation of each driver. No edit changes any but the last.
use Rattle.std.specs.Prelude.{◌≡◌, ℕ, List, map, position, slice_get, Option, option_map, option_and_then}
use Rattle.std.specs.HashMap.{HashMap}
use Rattle.indexmap.specs.IndexMap.{get}
use Rattle.rig_kernel.specs.declared.action_curves.ActionCurves.{ActionCurves}
use Rattle.rig_kernel.specs.declared.bones_at_rest.BoneAtRest.{BoneAtRest}
use Rattle.rig_kernel.specs.declared.tables.SceneTables.{SceneTables}
use Rattle.rig_kernel.specs.ChannelCurves.{channel_curve, axis_curve}
use Rattle.rig_scene.specs.declared.armature.RestBone.{RestBone}
use Rattle.rig_scene.specs.declared.operation.OpId.{OpId}
use Rattle.rig_scene.specs.declared.operation.OpId.TheVariants.{Driver}
use Rattle.rig_scene.specs.declared.path.Path.{Path}
use Rattle.rig_scene.specs.declared.path.Path.TheVariants.{Own, Bone, Layer}
use Rattle.rig_scene.specs.Path.{same_path}
use Rattle.rig_scene.specs.Pose.{transform_of, rest_chain}
use Rattle.rig_scene.specs.Scene.{SceneRecord}
use Rattle.rig_scene.specs.Text.{same_text}

-- ---- what the tables are made of

pub record TableParts : Type 0 where
  pub paths : List (List Path)
  pub bones : List (List RestBone)
  pub drivers : List OpId

abbrev pub table_parts : SceneRecord → TableParts
table_parts scene = record {
  paths = map (λ a. map (λ c. c.path) a.curves) scene.actions;
  bones = map (λ a. a.bones) scene.armatures;
  drivers = map (λ d. Driver d.id d.path) scene.drivers;
}

-- ---- what the tables give

-- the index of the curve of a path, in the table of an action
abbrev pub curve_in : ActionCurves → Path → Option ℕ
curve_in curves (Own channel) = channel_curve curves.own channel
curve_in curves (Bone name channel) = option_and_then (λ c. channel_curve c channel) (get same_text curves.bones name)
curve_in curves (Layer name axis) = option_and_then (λ c. axis_curve c axis) (get same_text curves.layers name)

-- the index of the curve of a path in an action
abbrev pub curve_at : SceneTables → ℕ → Path → Option ℕ
curve_at tables action path = option_and_then (λ curves. curve_in curves path) (slice_get tables.actions action)

-- a bone of an armature at rest
abbrev pub rest_at : SceneTables → ℕ → ℕ → Option BoneAtRest
rest_at tables armature bone = option_and_then (λ bones. slice_get bones bone) (slice_get tables.armatures armature)

-- the index of the bone of a name in an armature
abbrev pub bone_number_at : SceneTables → ℕ → List ℕ → Option ℕ
bone_number_at tables armature name = option_and_then (λ names. get same_text names name) (slice_get tables.bone_names armature)

-- ---- that they are right

-- a bone's own rest, and its rest in the armature's space
abbrev pub bone_at_rest : List RestBone → ℕ → Option BoneAtRest
bone_at_rest bones index =
    option_map (λ bone. record { rest = transform_of bone.rest; chain = rest_chain bones index }) (slice_get bones index)

-- whether the table of an action gives the first curve of each of its paths
abbrev pub AreCurvesOf : ActionCurves → List Path → Type 0
AreCurvesOf curves paths = (path : Path) → curve_in curves path ≡ position (λ p. same_path p path) paths

-- whether the table of an armature gives each of its bones at rest
abbrev pub AreBonesOf : List BoneAtRest → List RestBone → Type 0
AreBonesOf at_rest bones = (index : ℕ) → slice_get at_rest index ≡ bone_at_rest bones index

-- the first bone of a name
abbrev pub bone_named : List ℕ → List RestBone → Option ℕ
bone_named name bones = position (λ b. same_text b.name name) bones

-- whether the table of an armature gives the first bone of each name
abbrev pub AreNamesOf : {S : Type 0} → HashMap (List ℕ) ℕ S → List RestBone → Type 0
AreNamesOf names bones = (name : List ℕ) → get same_text names name ≡ bone_named name bones

-- whether tables give what the parts say: the first curve of each path, each bone at rest and by name, and the drivers in order
pub record AreTables (tables : SceneTables) (parts : TableParts) : Type 0 where
  pub curves : (action : ℕ) (path : Path)
      → curve_at tables action path ≡ option_and_then (position (λ p. same_path p path)) (slice_get parts.paths action)
  pub bones : (armature bone : ℕ)
      → rest_at tables armature bone ≡ option_and_then (λ bones. bone_at_rest bones bone) (slice_get parts.bones armature)
  pub names : (armature : ℕ) (name : List ℕ) → bone_number_at tables armature name ≡ option_and_then (bone_named name) (slice_get parts.bones armature)
  pub drivers : tables.drivers ≡ parts.drivers

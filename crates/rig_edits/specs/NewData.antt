-- The data of a new object, by indices.
use Rattle.std.proofs.Common.{◌≡◌, ◌≤◌, ℕ, [], replicate, Option, None, Some}
use Rattle.rig_scene.specs.declared.limits.TheConstants.{MAX_BONES, MAX_PENCIL_OBJECTS, MAX_POSE_BONES}
use Rattle.rig_scene.specs.declared.object.Kind.{Kind}
use Rattle.rig_scene.specs.declared.object.Kind.TheVariants.{Empty, Armature, Pencil}
use Rattle.rig_scene.specs.Scene.{SceneRecord}
use Rattle.rig_edits.specs.declared.cause.EditCause.{EditCause}
use Rattle.rig_edits.specs.declared.edit.NewKind.{NewKind}
use Rattle.rig_edits.specs.declared.object.Data.{Data}
use Rattle.rig_edits.specs.declared.object.Data.TheVariants as block
use Rattle.rig_edits.specs.Conditions.{full_at, full_of_kind, pencil_object_count, pose_bone_count}
use Rattle.rig_edits.specs.Edited.{at_rest, kind_of}

-- the kind of a new object of the data
abbrev pub kind_with : Data → Kind
kind_with block.Nothing = Empty
kind_with (block.Armature armature bones) = Armature armature (replicate bones at_rest)
kind_with (block.Pencil pencil) = Pencil pencil []

-- no room for an object of the data, whatever room there is for objects
abbrev pub full_with : SceneRecord → Data → Option EditCause
full_with s block.Nothing = None
full_with s (block.Armature armature bones) = full_at (pose_bone_count s) bones MAX_POSE_BONES
full_with s (block.Pencil pencil) = full_at (pencil_object_count s) 1 MAX_PENCIL_OBJECTS

-- how many bones the data have
abbrev pub bones_with : Data → ℕ
bones_with block.Nothing = 0
bones_with (block.Armature armature bones) = bones
bones_with (block.Pencil pencil) = 0

-- the data that a new kind names
pub record IsDataOf (s : SceneRecord) (kind : NewKind) (block : Data) : Type 0 where
  pub is_kind : kind_of s kind ≡ Some (kind_with block)
  pub is_full : full_of_kind s kind ≡ full_with s block
  pub bones_fit : bones_with block ≤ MAX_BONES

-- The bones of armature objects: that they are there, and their transforms by the tables and the inputs.
use Rattle.std.proofs.Common.{◌≡◌, ℕ, suc, ◌+◌, ◌<◌, List, [], ◌∷◌, length, map, drop, Option, Some, None, ℤ, refl, sym, ap, ◌∙◌, arith}
use Rattle.std.specs.Prelude.{◌==◌, ◌&&◌, IsTrue, IsSome, is_some, slice_get, option_map, option_and_then, Contains}
use Rattle.std.specs.Option.{option_map_or}
use Rattle.std.proofs.lemmas.List.Elements.{All-contains}
use Rattle.std.proofs.lemmas.Option.{same_Some, slice_get-map}
use Rattle.rig_fixed.specs.Transform.{Transform as TransformRecord}
use Rattle.rig_scene.specs.declared.armature.ArmatureData.{ArmatureData}
use Rattle.rig_scene.specs.declared.armature.RestBone.{RestBone}
use Rattle.rig_scene.specs.declared.channel.Channels.{Channels}
use Rattle.rig_scene.specs.declared.id.AnimId.TheVariants as anim
use Rattle.rig_scene.specs.declared.id.ObjectId.{ObjectId}
use Rattle.rig_scene.specs.declared.modifier.Mode.{Mode}
use Rattle.rig_scene.specs.declared.object.Kind.TheVariants as kind
use Rattle.rig_scene.specs.declared.object.Object.{Object}
use Rattle.rig_scene.specs.declared.operation.OpId.TheVariants.{Bone, PoseInit}
use Rattle.rig_scene.specs.declared.path.Path.TheVariants as paths
use Rattle.rig_scene.specs.declared.channel.Channel.{Channel}
use Rattle.rig_scene.specs.declared.modifier.Modifier.{Modifier}
use Rattle.rig_scene.specs.Channel.{channels, channel_of, same_channel}
use Rattle.rig_scene.specs.Drivers.{action_index}
use Rattle.rig_scene.specs.Facts.{HasBone, ObjectFacts}
use Rattle.rig_scene.specs.FactsHold.{bone_is_there, scene_facts}
use Rattle.rig_scene.specs.Found.{some_slice_get}
use Rattle.rig_scene.specs.Operations.{operations, ins}
use Rattle.rig_scene.specs.Pose.{transform_of, bone_transform, rest_chain}
use Rattle.rig_scene.specs.Path.{same_path}
use Rattle.rig_scene.specs.Same.{same_text-itself}
use Rattle.rig_scene.specs.Scene.{SceneRecord, object_of, armature_of}
use Rattle.rig_scene.specs.Value.{Transform}
use Rattle.rig_scene.specs.WellFormed.{is_scene, bones_of}
use Rattle.rig_laws.specs.FoundObject.{found_object}
use Rattle.rig_laws.specs.HasOperation.{operation_has}
use Rattle.rig_kernel.specs.declared.bones_at_rest.BoneAtRest.{BoneAtRest}
use Rattle.rig_kernel.specs.declared.tables.SceneTables.{SceneTables}
use Rattle.rig_kernel.specs.Driven.{driver_count, channel_place, channels_from}
use Rattle.rig_laws.specs.Kernel.{kernel, bone_output, pose_transform}
use Rattle.rig_laws.specs.Output.{Output, link_of, numbers_at, transform_at}
use Rattle.rig_kernel.specs.Tables.{AreTables, table_parts, curve_at, rest_at, bone_at_rest}
use Rattle.rig_kernel.proofs.Animated.{animated_is}
use Rattle.rig_kernel.proofs.DrivenPaths.{BeginsWithout}
use Rattle.rig_kernel.proofs.LinkOps.{behind, bone_ops, parent_op}
use Rattle.rig_kernel.proofs.NumbersOf.{channels_same, drivers, number_here}
use Rattle.rig_kernel.proofs.SamePlace.{same_channel_place}

-- ---- that they are there

-- a bone of an index, and a pose for it
pub record PosedBone (s : SceneRecord) (index b : ℕ) (pose : List Channels) : Type 0 where
  pub armature : ArmatureData
  pub is_armature : slice_get s.armatures index ≡ Some armature
  pub bone : RestBone
  pub is_bone : slice_get armature.bones b ≡ Some bone
  pub here : b < length armature.bones
  pub posed : b < length pose

module _ (s : SceneRecord) (met : IsTrue (is_scene s)) (o : ObjectId) (b : ℕ) (within : Contains (operations s) (Bone o b)) (object : Object) (found : object_of s o ≡ Some object) where
  has : HasBone s o b
  has = bone_is_there s o b (operation_has s met (Bone o b) within)

  kind_is : object.kind ≡ kind.Armature has.index has.pose
  kind_is = ap (λ (o : Object). o.kind) (same_Some object has.object (sym found ∙ has.is_object)) ∙ has.is_kind

  pub posed_bone : (index : ℕ) (pose : List Channels) → object.kind ≡ kind.Armature index pose → PosedBone s index b pose
  posed_bone index pose is =
      let there = has in
      let same : kind.Armature there.index there.pose ≡ kind.Armature index pose = sym kind_is ∙ is in
      let same_index : there.index ≡ index = cc in
      let is_armature : slice_get s.armatures index ≡ Some there.armature = ap (slice_get s.armatures) (sym same_index) ∙ there.is_armature in
      let bone = some_slice_get there.armature.bones b there.bone_is_there in
      let facts = (All-contains (ObjectFacts s) s.objects object (scene_facts s met).objects.each (found_object s o object found)).armature index pose is in
      let long : length pose ≡ length there.armature.bones =
      facts.poses ∙ ap (λ (a : ArmatureData). length a.bones) (same_Some facts.armature there.armature (sym facts.is_armature ∙ is_armature)) in
      let here : b < length there.armature.bones = there.bone_is_there in
      record { armature = there.armature; is_armature = is_armature; bone = bone.0; is_bone = bone.1; here = here; posed = omega arith }

  pub not_empty : object.kind ≡ kind.Empty → ⊥
  not_empty is = let k = kind_is in cc

  pub not_pencil : (p : ℕ) (modifiers : List Modifier) → object.kind ≡ kind.Pencil p modifiers → ⊥
  not_pencil p modifiers is = let k = kind_is in cc

-- ---- at rest

module _ (s : SceneRecord) (tables : SceneTables) (are : AreTables tables (table_parts s)) (index b : ℕ) (armature : ArmatureData) (is_armature : slice_get s.armatures index ≡ Some armature)
    (bone : RestBone) (is_bone : slice_get armature.bones b ≡ Some bone) where
  rest_is : rest_at tables index b ≡ Some (record { rest = transform_of bone.rest; chain = rest_chain armature.bones b })
  rest_is =
      are.bones index b
      ∙ ap (option_and_then (λ bones. bone_at_rest bones b)) (slice_get-map (λ (a : ArmatureData). a.bones) s.armatures index ∙ ap (option_map (λ (a : ArmatureData). a.bones)) is_armature)
      ∙ ap (option_map (λ (bone : RestBone). record { rest = transform_of bone.rest; chain = rest_chain armature.bones b })) is_bone

  pub at_rest : IsSome (rest_at tables index b)
  at_rest = ap is_some rest_is

  pub same_rest : (rest : TransformRecord) → option_map (λ b. b.rest) (rest_at tables index b) ≡ Some rest → rest ≡ transform_of bone.rest
  same_rest rest is = same_Some rest (transform_of bone.rest) (sym is ∙ ap (option_map (λ (b : BoneAtRest). b.rest)) rest_is)

  pub same_chain : (chain : TransformRecord) → option_map (λ b. b.chain) (rest_at tables index b) ≡ Some chain → chain ≡ rest_chain armature.bones b
  same_chain chain is = same_Some chain (rest_chain armature.bones b) (sym is ∙ ap (option_map (λ (b : BoneAtRest). b.chain)) rest_is)

-- ---- posed

-- the channels of a bone are told apart by their places
bone_place : (name : List ℕ) (a c : Channel) → same_path (paths.Bone name a) (paths.Bone name c) ≡ (channel_place c == channel_place a)
bone_place name a c = ap (λ b. b && same_channel a c) (same_text-itself name) ∙ same_channel_place a c

-- the parent bone is no driver
no_driver : (o : ObjectId) (bone : RestBone) → BeginsWithout (parent_op o bone)
no_driver o bone = by bone.parent
  where
    by : (parent : Option ℕ) → BeginsWithout (option_map_or (λ p. Bone o p ∷ []) parent [])
    by None = tt
    by (Some p) = (refl, λ k number later. refl)

pub behind_one : (outs : List Output) (k : ℕ) → transform_at outs (1 + k) ≡ transform_at (drop 1 outs) k
behind_one [] k = refl
behind_one (o ∷ os) k = ap (transform_at (o ∷ os)) {x = 1 + k} {y = suc k} (omega arith)

module _ (s : SceneRecord) (tables : SceneTables) (are : AreTables tables (table_parts s)) (o : ObjectId) (object : Object) (found : object_of s o ≡ Some object)
    (b : ℕ) (bone : RestBone) (is : option_and_then (λ bones. slice_get bones b) (bones_of s o) ≡ Some bone) (outs : List Output) (links : map link_of outs ≡ ins s (Bone o b)) where
  -- its transform, by its rest
  pub pose_is : (pose : Channels)
      → bone_transform (option_map (λ b. transform_at (drop 1 outs) (driver_count 8 (drop 1 outs))) bone.parent) bone.rest
      (channels_from (λ channel. option_and_then (λ a. curve_at tables a (paths.Bone bone.name channel)) object.action) (numbers_at outs 0) (driver_count 8 (drop 1 outs)) (drop 1 outs) pose)
      ≡ pose_transform s o bone pose outs
  unfolding pose_transform
  pose_is pose =
      let id = anim.Object o in
      let action : action_index s id ≡ object.action = ap (option_and_then (λ (object : Object). object.action)) found in
      let tail = behind (PoseInit o ∷ []) _ outs (bone_ops s o b bone is outs links) in
      (λ i. bone_transform (option_map (λ b. transform_at (drop 1 outs)
      (drivers (paths.Bone bone.name) channel_place (bone_place bone.name) s id channels (parent_op o bone) (no_driver o bone) (drop 1 outs) 8 (omega arith) tail i)) bone.parent) bone.rest
      (channels_same _ _ (λ channel. number_here (paths.Bone bone.name) channel_place (bone_place bone.name) s id channels (parent_op o bone) (no_driver o bone) (drop 1 outs) 8 (omega arith) tail
      (numbers_at outs 0) (option_and_then (λ a. curve_at tables a (paths.Bone bone.name channel)) object.action) (channel_of pose channel) channel
      (animated_is s tables are id (paths.Bone bone.name channel) (numbers_at outs 0) object.action action)) i))

module _ (s : SceneRecord) (o : ObjectId) (object : Object) (found : object_of s o ≡ Some object) (index : ℕ) (pose : List Channels) (is_kind : object.kind ≡ kind.Armature index pose)
    (armature : ArmatureData) (is_armature : slice_get s.armatures index ≡ Some armature) (b : ℕ) (bone : RestBone) (is_bone : slice_get armature.bones b ≡ Some bone) where
  -- the bone of an index is that of its object's armature
  pub bone_found : option_and_then (λ bones. slice_get bones b) (bones_of s o) ≡ Some bone
  bone_found =
      ap (λ (found : Option Object). option_and_then (λ bones. slice_get bones b) (option_and_then (λ (o : Object). option_map (λ (a : ArmatureData). a.bones) (armature_of s o.kind)) found)) found
      ∙ ap (λ k. option_and_then (λ bones. slice_get bones b) (option_map (λ (a : ArmatureData). a.bones) (armature_of s k))) is_kind
      ∙ ap (λ (a : Option ArmatureData). option_and_then (λ bones. slice_get bones b) (option_map (λ (a : ArmatureData). a.bones) a)) is_armature
      ∙ is_bone

  -- what its operation gives
  pub bone_gives : (own : Channels) → slice_get pose b ≡ Some own → (mode : Mode) (frame : ℤ) (outs : List Output)
      → kernel s mode frame (Bone o b) outs ≡ Some (Transform (pose_transform s o bone own outs))
  unfolding kernel
  bone_gives own is_own mode frame outs =
      ap (option_and_then (λ (object : Object). bone_output s o b object.kind outs)) found
      ∙ ap (λ k. bone_output s o b k outs) is_kind
      ∙ ap (option_and_then (λ (armature : ArmatureData). option_and_then (λ bone. option_map (λ pose. Transform (pose_transform s o bone pose outs)) (slice_get pose b)) (slice_get armature.bones b))) is_armature
      ∙ ap (option_and_then (λ bone. option_map (λ pose. Transform (pose_transform s o bone pose outs)) (slice_get pose b))) is_bone
      ∙ ap (option_map (λ pose. Transform (pose_transform s o bone pose outs))) is_own

pub has_posed_object : (s : SceneRecord) → IsTrue (is_scene s) → (o : ObjectId) (b : ℕ) → Contains (operations s) (Bone o b) → IsSome (object_of s o)
has_posed_object s met o b within = ap is_some (bone_is_there s o b (operation_has s met (Bone o b) within)).is_object

-- The kernel of each kind of operation that stands for a quantity, over what is taken at the sources of its reads, is the value
-- of that quantity over what these sources give.
use Rattle.std.specs.Prelude.{◌≡◌, ◌<◌, ◌+◌, Contains, ℕ, zero, suc, List, [], ◌∷◌, ◌++◌, length, map, drop, slice_get, filter, not, Bool, false, Option, Some, None, option_map, option_and_then, ℤ}
use Rattle.std.specs.Option.{option_map_or}
use Rattle.std.specs.List.{range_with_len, enumerate_from}
use Rattle.std.proofs.Common.{refl, sym, ap, arith, ◌∙◌}
use Rattle.std.proofs.lemmas.List.{map-append, append-nil}
use Rattle.std.proofs.lemmas.List.Elements.{All-filter}
use Rattle.std.proofs.lemmas.Option.{slice_get_within}
use Rattle.rig_fixed.specs.Transform.{identity, carry, inverse}
use Rattle.rig_fixed.specs.Vector.{origin}
use Rattle.rig_fixed.specs.declared.vector.V3.{V3}
use Rattle.rig_scene.specs.declared.armature.ArmatureData.{ArmatureData}
use Rattle.rig_scene.specs.declared.armature.RestBone.{RestBone}
use Rattle.rig_scene.specs.declared.channel.Axis.{Axis}
use Rattle.rig_scene.specs.declared.channel.Channel.{Channel}
use Rattle.rig_scene.specs.declared.channel.Channel.TheVariants.{LocX, LocY, LocZ, RotW, RotX, RotY, RotZ, Scale}
use Rattle.rig_scene.specs.declared.channel.Axis.TheVariants.{X, Y, Z}
use Rattle.rig_scene.specs.declared.channel.Channels.{Channels}
use Rattle.rig_scene.specs.declared.id.AnimId.{AnimId}
use Rattle.rig_scene.specs.declared.id.AnimId.TheVariants as anim
use Rattle.rig_scene.specs.declared.id.ObjectId.{ObjectId}
use Rattle.rig_scene.specs.declared.limits.TheConstants.{MAX_RESULT_POINTS}
use Rattle.rig_scene.specs.declared.modifier.Effect.{Effect}
use Rattle.rig_scene.specs.declared.modifier.Effect.TheVariants.{Offset, Mirror, Array}
use Rattle.rig_scene.specs.declared.modifier.Mode.{Mode}
use Rattle.rig_scene.specs.declared.modifier.Modifier.{Modifier}
use Rattle.rig_scene.specs.declared.object.Object.{Object}
use Rattle.rig_scene.specs.declared.object.Parent.{Parent}
use Rattle.rig_scene.specs.declared.path.Path.{Path}
use Rattle.rig_scene.specs.declared.path.Path.TheVariants as paths
use Rattle.rig_scene.specs.declared.pencil.BoneRef.{BoneRef}
use Rattle.rig_scene.specs.declared.pencil.Layer.{Layer as LayerRecord}
use Rattle.rig_scene.specs.declared.pencil.PencilData.{PencilData}
use Rattle.rig_scene.specs.declared.quantity.Quantity.{Quantity}
use Rattle.rig_scene.specs.declared.quantity.Quantity.TheVariants.{Chan, Local, World, Bone, Layer, Geom}
use Rattle.rig_scene.specs.Channel.{channels, axes, channel_of, channels_by, coordinate_of, v3_by}
use Rattle.rig_scene.specs.ChannelNumber.{pose_of, id_numbers}
use Rattle.rig_scene.specs.Drivers.{driven_paths}
use Rattle.rig_scene.specs.Layer.{held_drawing, layer_strokes, joined_within}
use Rattle.rig_scene.specs.Modify.{is_on}
use Rattle.rig_scene.specs.Pose.{transform_of, carried_by, parent_space, bone_transform, rest_chain}
use Rattle.rig_scene.specs.Quantities.{inner_read, reference_read, driven_reads, parent_reads, bone_reads, layer_reads, effect_reads}
use Rattle.rig_scene.specs.Scene.{SceneRecord, armature_of}
use Rattle.rig_scene.specs.Value.{Value, Transform, Strokes, transform_in, strokes_in, inputs_at, deform_unless, modify_if, bone_value, geometry_value}
use Rattle.rig_scene.specs.Value as over
use Rattle.rig_scene.specs.WellFormed.{bones_of}
use Rattle.rig_laws.specs.Lists.{All-numbered, map_same}
use Rattle.rig_laws.specs.Kernel.{curve_numbers, after_animation, channel_number, local_transform, parent_transform, world_transform, bone_paths, pose_transform, layer_paths, bound_deform, bound_place, layer_shown, visible_layers, mirror_centre, modified_strokes, bone_output}
use Rattle.rig_laws.specs.Output.{Output, transform_at, strokes_at}
use Rattle.rig_laws.specs.Taken.{taken, all_taken, slice_get-behind, channel_taken}

-- ---- channels

path_of_channel : (to : Channel → Path) (c : Channel) → Contains (map to channels) (to c)
path_of_channel to LocX = (0, omega arith, refl)
path_of_channel to LocY = (1, omega arith, refl)
path_of_channel to LocZ = (2, omega arith, refl)
path_of_channel to RotW = (3, omega arith, refl)
path_of_channel to RotX = (4, omega arith, refl)
path_of_channel to RotY = (5, omega arith, refl)
path_of_channel to RotZ = (6, omega arith, refl)
path_of_channel to Scale = (7, omega arith, refl)

path_of_axis : (to : Axis → Path) (a : Axis) → Contains (map to axes) (to a)
path_of_axis to X = (0, omega arith, refl)
path_of_axis to Y = (1, omega arith, refl)
path_of_axis to Z = (2, omega arith, refl)

module _ (s : SceneRecord) (frame : ℤ) (cut : Quantity → Bool) (get : Quantity → Value) where
  -- the eight numbers of an object or a bone
  eight_taken : (id : AnimId) (numbers : List (Option ℤ)) → numbers ≡ id_numbers s frame id → (to : Channel → Path) (more : List Output) (originals : Channels) → channels_by (λ c. channel_number s id numbers (map to channels) (all_taken cut get (driven_reads s id (map to channels)) ++ more) (to c) (channel_of originals c)) ≡ channels_by (λ c. over.number_at s (inputs_at s frame) get id (to c) (channel_of originals c))
  eight_taken id numbers curves to more originals =
      λ i. channels_by (λ c. channel_taken s frame cut get id numbers curves (map to channels) more (to c) (path_of_channel to c) (channel_of originals c) i)

  -- the three of a layer's offset
  three_taken : (id : AnimId) (numbers : List (Option ℤ)) → numbers ≡ id_numbers s frame id → (to : Axis → Path) (more : List Output) (originals : V3) → v3_by (λ a. channel_number s id numbers (map to axes) (all_taken cut get (driven_reads s id (map to axes)) ++ more) (to a) (coordinate_of originals a)) ≡ v3_by (λ a. over.number_at s (inputs_at s frame) get id (to a) (coordinate_of originals a))
  three_taken id numbers curves to more originals =
      λ i. v3_by (λ a. channel_taken s frame cut get id numbers curves (map to axes) more (to a) (path_of_axis to a) (coordinate_of originals a) i)

  -- ---- transforms

  pub local_taken : (object : Object) (inputs : List Output) → curve_numbers s (anim.Object object.id) inputs ≡ id_numbers s frame (anim.Object object.id) → after_animation s (anim.Object object.id) inputs ≡ all_taken cut get (driven_reads s (anim.Object object.id) (map paths.Own channels)) → local_transform s object inputs ≡ over.local_transform s (inputs_at s frame) get object
  unfolding local_transform over.local_transform
  local_taken object inputs curves after =
      ap (λ rest. transform_of (channels_by (λ c. channel_number s (anim.Object object.id) (curve_numbers s (anim.Object object.id) inputs) (map paths.Own channels) rest (paths.Own c) (channel_of object.own c))))
      (after ∙ sym (append-nil (all_taken cut get (driven_reads s (anim.Object object.id) (map paths.Own channels)))))
      ∙ ap transform_of (eight_taken (anim.Object object.id) (curve_numbers s (anim.Object object.id) inputs) curves paths.Own [] object.own)

  parent_taken : (first : Output) (parent : Option Parent) → option_map (λ p. parent_transform p (drop 1 (first ∷ all_taken cut get (parent_reads parent)))) parent ≡ option_map (over.parent_transform get) parent
  parent_taken first None = refl
  parent_taken first (Some parent) = by parent.bone
    where
      by : (bone : Option ℕ) → Some (parent_space (transform_in (get (World parent.object))) (option_map (λ b. transform_at (taken cut get (World parent.object) ∷ all_taken cut get (option_map_or (λ b. reference_read (Bone parent.object b) ∷ []) bone [])) 1) bone)) ≡ Some (parent_space (transform_in (get (World parent.object))) (option_map (λ b. transform_in (get (Bone parent.object b))) bone))
      by None = refl
      by (Some b) = refl

  pub world_taken : (object : Object) → world_transform object (taken cut get (Local object.id) ∷ all_taken cut get (parent_reads object.parent)) ≡ over.world_transform get object
  unfolding world_transform over.world_transform
  world_taken object = ap (λ p. carried_by p (transform_in (get (Local object.id)))) (parent_taken (taken cut get (Local object.id)) object.parent)

  -- the parent bone, behind the driven channels
  parent_bone_taken : (o : ObjectId) (driven : List Path) (first : Output) (parent : Option ℕ) → option_map (λ p. transform_at (drop 1 (first ∷ all_taken cut get (map (λ p. inner_read (Chan (anim.Object o) p)) driven) ++ all_taken cut get (option_map_or (λ b. inner_read (Bone o b) ∷ []) parent []))) (length driven)) parent ≡ option_map (λ p. transform_in (get (Bone o p))) parent
  parent_bone_taken o driven first None = refl
  parent_bone_taken o driven first (Some p) =
      ap (λ i. Some (transform_in (option_map_or (λ i. i.value) i (over.Numbers []))))
      (slice_get-behind (λ r. taken cut get r.source) (λ p. inner_read (Chan (anim.Object o) p)) driven (taken cut get (Bone o p) ∷ []))

  pose_taken : (o : ObjectId) (bone : RestBone) (pose : Channels) (first : Output) → over.numbers_in first.value ≡ id_numbers s frame (anim.Object o) → pose_transform s o bone pose (first ∷ all_taken cut get (bone_reads s o bone)) ≡ over.pose_transform s (inputs_at s frame) get o bone pose
  unfolding pose_transform over.pose_transform
  pose_taken o bone pose first curves =
      let driven = all_taken cut get (driven_reads s (anim.Object o) (bone_paths bone)) in
      let parent = all_taken cut get (option_map_or (λ b. inner_read (Bone o b) ∷ []) bone.parent []) in
      ap (λ rest. pose_transform s o bone pose (first ∷ rest)) (map-append (λ r. taken cut get r.source) (driven_reads s (anim.Object o) (bone_paths bone)) (option_map_or (λ b. inner_read (Bone o b) ∷ []) bone.parent []))
      ∙ (λ i. bone_transform (parent_bone_taken o (driven_paths s (anim.Object o) (bone_paths bone)) first bone.parent i) bone.rest
      (eight_taken (anim.Object o) (over.numbers_in first.value) curves (paths.Bone bone.name) parent pose i))

  pub bone_taken : (o : ObjectId) (b : ℕ) (first : Output) → over.numbers_in first.value ≡ id_numbers s frame (anim.Object o) → (found : Option Object) → option_and_then (λ object. bone_output s o b object.kind (first ∷ all_taken cut get (option_map_or (bone_reads s o) (option_and_then (λ bones. slice_get bones b) (option_and_then (λ o. option_map (λ a. a.bones) (armature_of s o.kind)) found)) []))) found ≡ option_and_then (λ object. bone_value s (inputs_at s frame) get o b object.kind) found
  bone_taken o b first curves None = refl
  bone_taken o b first curves (Some object) = by_armature (armature_of s object.kind)
    where
      by_pose : (bone : RestBone) (pose : Option Channels) → option_map (λ pose. Transform (pose_transform s o bone pose (first ∷ all_taken cut get (bone_reads s o bone)))) pose ≡ option_map (λ pose. Transform (over.pose_transform s (inputs_at s frame) get o bone pose)) pose
      by_pose bone None = refl
      by_pose bone (Some pose) = ap (λ t. Some (Transform t)) (pose_taken o bone pose first curves)

      by_bone : (found : Option RestBone) → option_and_then (λ bone. option_map (λ pose. Transform (pose_transform s o bone pose (first ∷ all_taken cut get (option_map_or (bone_reads s o) found [])))) (pose_of object.kind b)) found ≡ option_and_then (λ bone. option_map (λ pose. Transform (over.pose_transform s (inputs_at s frame) get o bone pose)) (pose_of object.kind b)) found
      by_bone None = refl
      by_bone (Some bone) = by_pose bone (pose_of object.kind b)

      by_armature : (a : Option ArmatureData) → option_and_then (λ armature. option_and_then (λ bone. option_map (λ pose. Transform (pose_transform s o bone pose (first ∷ all_taken cut get (option_map_or (bone_reads s o) (option_and_then (λ bones. slice_get bones b) (option_map (λ a. a.bones) a)) [])))) (pose_of object.kind b)) (slice_get armature.bones b)) a ≡ option_and_then (λ armature. option_and_then (λ bone. option_map (λ pose. Transform (over.pose_transform s (inputs_at s frame) get o bone pose)) (pose_of object.kind b)) (slice_get armature.bones b)) a
      by_armature None = refl
      by_armature (Some armature) = by_bone (slice_get armature.bones b)

  -- ---- strokes

  bound_taken : (id : AnimId) (driven : List Path) (bound : Option BoneRef) → option_map (λ b. bound_deform s b (all_taken cut get (map (λ p. inner_read (Chan id p)) driven) ++ all_taken cut get (option_map_or (λ b. reference_read (Bone b.object b.bone) ∷ []) bound [])) (length driven)) bound ≡ option_map (over.bound_deform s cut get) bound
  bound_taken id driven None = refl
  bound_taken id driven (Some b) =
      ap (λ i. Some (deform_unless (option_map_or (λ i. i.is_rest) i false) (transform_in (option_map_or (λ i. i.value) i (over.Numbers []))) (option_map_or (λ bones. rest_chain bones b.bone) (bones_of s b.object) identity)))
      (slice_get-behind (λ r. taken cut get r.source) (λ p. inner_read (Chan id p)) driven (taken cut get (Bone b.object b.bone) ∷ []))

  pub layer_taken : (p : ℕ) (pencil : PencilData) (layer : LayerRecord) (held : ℤ) (inputs : List Output) → held_drawing layer.keys held ≡ held_drawing layer.keys frame → curve_numbers s (anim.Pencil p) inputs ≡ id_numbers s frame (anim.Pencil p) → after_animation s (anim.Pencil p) inputs ≡ all_taken cut get (layer_reads s p layer) → layer_shown s p pencil layer held inputs ≡ over.shown_layer s (inputs_at s frame) cut get p pencil layer
  unfolding layer_shown over.shown_layer
  layer_taken p pencil layer held inputs same curves after =
      let driven = all_taken cut get (driven_reads s (anim.Pencil p) (layer_paths layer)) in
      let bone = all_taken cut get (option_map_or (λ b. reference_read (Bone b.object b.bone) ∷ []) layer.bound []) in
      let parts : after_animation s (anim.Pencil p) inputs ≡ driven ++ bone = after ∙ map-append (λ r. taken cut get r.source) (driven_reads s (anim.Pencil p) (layer_paths layer)) (option_map_or (λ b. reference_read (Bone b.object b.bone) ∷ []) layer.bound []) in
      let offset = three_taken (anim.Pencil p) (curve_numbers s (anim.Pencil p) inputs) curves (paths.Layer layer.name) bone layer.offset in
      let bound = bound_taken (anim.Pencil p) (driven_paths s (anim.Pencil p) (layer_paths layer)) layer.bound in
      ap (λ rest. layer_strokes (option_and_then (slice_get pencil.drawings) (held_drawing layer.keys held))
      (v3_by (λ a. channel_number s (anim.Pencil p) (curve_numbers s (anim.Pencil p) inputs) (layer_paths layer) rest (paths.Layer layer.name a) (coordinate_of layer.offset a)))
      (option_map (λ b. bound_deform s b rest (bound_place s p layer)) layer.bound)) parts
      ∙ (λ i. layer_strokes (option_and_then (slice_get pencil.drawings) (same i)) (offset i) (bound i))

  -- the layers of a pencil, by their numbers
  slice_get-layers : (p : ℕ) (a n k : ℕ) → k < n → slice_get (all_taken cut get (map (λ l. inner_read (Layer p l)) (range_with_len a n))) k ≡ Some (taken cut get (Layer p (a + k)))
  slice_get-layers p a zero k l = absurd (omega arith)
  slice_get-layers p a (suc n) zero l = ap (λ j. Some (taken cut get (Layer p j))) (omega arith)
  slice_get-layers p a (suc n) (suc k) l = slice_get-layers p (a + 1) n k (omega arith) ∙ ap (λ j. Some (taken cut get (Layer p j))) (omega arith)

  pub joined_taken : (p : ℕ) (pencil : PencilData) → joined_within MAX_RESULT_POINTS (visible_layers pencil (all_taken cut get (map (λ l. inner_read (Layer p l)) (range_with_len 0 (length pencil.layers))))) ≡ over.joined_layers get p pencil
  unfolding over.joined_layers
  joined_taken p pencil =
      let inputs = all_taken cut get (map (λ l. inner_read (Layer p l)) (range_with_len 0 (length pencil.layers))) in
      ap (joined_within MAX_RESULT_POINTS)
      (map_same (λ l. strokes_at inputs l.0) (λ l. strokes_in (get (Layer p l.0))) (filter (λ l. not l.1.hidden) (enumerate_from 0 pencil.layers))
      (All-filter (λ l. not l.1.hidden) (λ l. strokes_at inputs l.0 ≡ strokes_in (get (Layer p l.0))) (enumerate_from 0 pencil.layers)
      (All-numbered (λ l. strokes_at inputs l.0 ≡ strokes_in (get (Layer p l.0))) pencil.layers
      (λ k layer e.
      ap (λ i. strokes_in (option_map_or (λ i. i.value) i (over.Numbers []))) (slice_get-layers p 0 (length pencil.layers) k (slice_get_within pencil.layers k layer e))
      ∙ ap (λ j. strokes_in (get (Layer p j))) {x = 0 + k} (omega arith)))))

  centre_taken : (o : ObjectId) (first : Output) (effect : Effect) → mirror_centre effect (drop 1 (first ∷ all_taken cut get (effect_reads o effect))) ≡ over.mirror_centre get o effect
  centre_taken o first (Offset loc scale) = refl
  centre_taken o first (Mirror mirror) = by mirror.centre
    where
      by : (c : Option ObjectId) → option_map_or (λ centre. carry (inverse (transform_at (all_taken cut get (option_map_or (λ centre. inner_read (World o) ∷ reference_read (World centre) ∷ []) c [])) 0)) (transform_at (all_taken cut get (option_map_or (λ centre. inner_read (World o) ∷ reference_read (World centre) ∷ []) c [])) 1).loc) c origin ≡ option_map_or (λ centre. carry (inverse (transform_in (get (World o)))) (transform_in (get (World centre))).loc) c origin
      by None = refl
      by (Some centre) = refl
  centre_taken o first (Array count offset) = refl

  pub modified_taken : (mode : Mode) (o : ObjectId) (before : ℕ) (m : Modifier) → modified_strokes mode m (taken cut get (Geom o before) ∷ all_taken cut get (effect_reads o m.effect)) ≡ over.modified_strokes mode get o before m
  unfolding modified_strokes over.modified_strokes
  modified_taken mode o before m =
      ap (λ c. modify_if (is_on mode m) m.effect c (strokes_in (get (Geom o before)))) (centre_taken o (taken cut get (Geom o before)) m.effect)

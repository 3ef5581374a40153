-- The driven channels of an object's bones are no more than the object's drivers.
use Rattle.std.specs.Prelude.{◌≡◌, ◌≢◌, ℕ, ◌≤◌, List, map, length, true, IsTrue, Option, Some, None, Contains, All, AllPairs}
use Rattle.std.specs.List.{flat_map}
use Rattle.std.proofs.Common.{refl, ap, subst, arith}
use Rattle.std.proofs.lemmas.List.{length-map}
use Rattle.std.proofs.lemmas.List.Elements.{All-map, All-filter, All-weaker, filter_passes}
use Rattle.rig_cycles.specs.Elements.{element_map, element_kept}
use Rattle.rig_scene.specs.declared.armature.RestBone.{RestBone}
use Rattle.rig_scene.specs.declared.channel.Channel.{Channel}
use Rattle.rig_scene.specs.declared.channel.Channel.TheVariants.{LocX}
use Rattle.rig_scene.specs.declared.id.AnimId.{AnimId}
use Rattle.rig_scene.specs.declared.path.Path.{Path}
use Rattle.rig_scene.specs.declared.path.Path.TheVariants as path
use Rattle.rig_scene.specs.Channel.{channels, same_channel}
use Rattle.rig_scene.specs.Drivers.{drivers_of, is_driven, driven_paths}
use Rattle.rig_scene.specs.Id.{same_id}
use Rattle.rig_scene.specs.Pairs.{NoneTwice, NoneTwice-flat_map, AllPairs-map, AllPairs-filter, AllPairs-weaker, none_twice, All-flat_map}
use Rattle.rig_scene.specs.Path.{same_path}
use Rattle.rig_scene.specs.Same.{same_id-Decides, same_path-Decides, same_channel-Decides}
use Rattle.rig_scene.specs.Scene.{SceneRecord}
use Rattle.rig_scene.specs.WellFormed.{is_scene}
use Rattle.rig_laws.specs.HasQuantity.{driver_found}
use Rattle.rig_laws.specs.Lengths.{no_longer}
use Rattle.rig_laws.specs.Lists.{All-of_any}

abbrev channel_in : Path → Channel
channel_in (path.Own channel) = channel
channel_in (path.Bone name channel) = channel
channel_in (path.Layer name axis) = LocX

abbrev name_in : Path → Option (List ℕ)
name_in (path.Own channel) = None
name_in (path.Bone name channel) = Some name
name_in (path.Layer name axis) = None

-- the driven channels of a bone
abbrev pub bone_paths : SceneRecord → AnimId → RestBone → List Path
bone_paths s id bone = driven_paths s id (map (path.Bone bone.name) channels)

channels_once : NoneTwice channels
channels_once = none_twice same_channel (λ c. (same_channel-Decides c c).1 refl) channels refl

module _ (s : SceneRecord) (id : AnimId) where
  paths_once : (bone : RestBone) → NoneTwice (bone_paths s id bone)
  paths_once bone =
      AllPairs-filter (λ p q. p ≢ q) (is_driven s id) (map (path.Bone bone.name) channels)
      (AllPairs-map (λ p q. p ≢ q) (path.Bone bone.name) channels
      (AllPairs-weaker (λ c d. c ≢ d) (λ c d. path.Bone bone.name c ≢ path.Bone bone.name d) (λ c d ne e. ne (ap channel_in e)) channels channels_once))

  paths_named : (bone : RestBone) → All (λ p. name_in p ≡ Some bone.name) (bone_paths s id bone)
  paths_named bone =
      All-filter (is_driven s id) (λ p. name_in p ≡ Some bone.name) (map (path.Bone bone.name) channels)
      (All-map (λ p. name_in p ≡ Some bone.name) (path.Bone bone.name) channels (All-of_any (λ c. name_in (path.Bone bone.name c) ≡ Some bone.name) channels (λ c. refl)))

  all_once : (bones : List RestBone) → AllPairs (λ b c. b.name ≢ c.name) bones → NoneTwice (flat_map (bone_paths s id) bones)
  all_once bones once =
      NoneTwice-flat_map (bone_paths s id) name_in (λ bone. Some bone.name) paths_once paths_named bones
      (AllPairs-weaker (λ b c. b.name ≢ c.name) (λ b c. Some b.name ≢ Some c.name) (λ b c ne e. ne (cc)) bones once)

  module _ (met : IsTrue (is_scene s)) where
    path_of_driver : (p : Path) → is_driven s id p ≡ true → Contains (map (λ d. d.path) (drivers_of s id)) p
    path_of_driver p h =
        let d = driver_found s met id p h in
        subst (Contains (map (λ d. d.path) (drivers_of s id))) d.3
        (element_map (λ d. d.path) (drivers_of s id) d.0 (element_kept (λ d. same_id d.id id) s.drivers d.0 d.1 ((same_id-Decides d.0.id id).1 d.2)))

    -- the driven channels of all bones of distinct names
    pub bones_driven : (bones : List RestBone) → AllPairs (λ b c. b.name ≢ c.name) bones → length (flat_map (bone_paths s id) bones) ≤ length (drivers_of s id)
    bones_driven bones once =
        let few = no_longer same_path same_path-Decides (flat_map (bone_paths s id) bones) (map (λ d. d.path) (drivers_of s id)) (all_once bones once)
        (All-flat_map (Contains (map (λ d. d.path) (drivers_of s id))) (bone_paths s id) bones
        (All-of_any (λ bone. All (Contains (map (λ d. d.path) (drivers_of s id))) (bone_paths s id bone)) bones
        (λ bone. All-weaker (λ p. is_driven s id p ≡ true) (Contains (map (λ d. d.path) (drivers_of s id))) path_of_driver (bone_paths s id bone) (filter_passes (is_driven s id) (map (path.Bone bone.name) channels))))) in
        omega (arith, length-map (drivers_of s id) (λ d. d.path))

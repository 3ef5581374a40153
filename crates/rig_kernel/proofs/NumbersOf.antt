-- The numbers of the channels of an object, a bone or a layer, as the code finds them and as the definition has them.
use Rattle.std.proofs.Common.{◌≡◌, ℕ, ◌≤◌, List, [], ◌++◌, length, map, drop, Option, Some, ℤ, sym, ap, ◌∙◌, arith, cond}
use Rattle.std.specs.Prelude.{◌==◌, is_some, option_and_then}
use Rattle.std.specs.Option.{option_map_or}
use Rattle.std.proofs.lemmas.List.Elements.{All-filter, All-map}
use Rattle.rig_laws.specs.Lengths.{filter_length}
use Rattle.rig_laws.specs.Lists.{All-of_any}
use Rattle.rig_scene.specs.declared.channel.Channel.{Channel}
use Rattle.rig_scene.specs.declared.id.AnimId.{AnimId}
use Rattle.rig_scene.specs.declared.id.AnimId.TheVariants as anim
use Rattle.rig_scene.specs.declared.id.ObjectId.{ObjectId}
use Rattle.rig_scene.specs.declared.object.Object.{Object}
use Rattle.rig_scene.specs.declared.operation.OpId.{OpId}
use Rattle.rig_scene.specs.declared.operation.OpId.TheVariants.{Driver, Local}
use Rattle.rig_scene.specs.declared.path.Path.{Path}
use Rattle.rig_scene.specs.declared.path.Path.TheVariants as paths
use Rattle.rig_scene.specs.Channel.{channels, channels_by, channel_of}
use Rattle.rig_scene.specs.ChannelNumber.{number_by, animated_number}
use Rattle.rig_scene.specs.Drivers.{driven_paths, is_driven, action_index}
use Rattle.rig_scene.specs.Operations.{animation_of, ins}
use Rattle.rig_scene.specs.Path.{same_path}
use Rattle.rig_scene.specs.Pose.{transform_of}
use Rattle.rig_scene.specs.Scene.{SceneRecord, object_of}
use Rattle.rig_laws.specs.FoundObject.{found_id}
use Rattle.rig_kernel.specs.declared.tables.SceneTables.{SceneTables}
use Rattle.rig_kernel.specs.Driven.{driven_among, driver_count, path_place, channel_place, curve_number, channels_from}
use Rattle.rig_laws.specs.Kernel.{channel_number, driven_number, curve_numbers, after_animation, local_transform}
use Rattle.rig_laws.specs.Output.{Output, link_of, numbers_at}
use Rattle.rig_kernel.specs.Tables.{AreTables, table_parts, curve_at}
use Rattle.rig_kernel.proofs.Animated.{animated_is}
use Rattle.rig_kernel.proofs.DrivenPaths.{BeginsWithout, driven_is, count_is}
use Rattle.rig_kernel.proofs.LinkOps.{ops_of, local_ops, behind, animation_count}
use Rattle.rig_kernel.proofs.SamePlace.{same_channel_place}

-- eight numbers are the same where each is
pub channels_same : (f g : Channel → ℤ) → ((channel : Channel) → f channel ≡ g channel) → channels_by f ≡ channels_by g
channels_same f g h = ap channels_by (λ i channel. h channel i)

-- Things with places, each with a path: the paths of two are the same where their places are.
module _ {A : Type 0} (path : A → Path) (place : A → ℕ) (agree : (a b : A) → same_path (path a) (path b) ≡ (path_place (path b) == place a)) where
  -- Some of them whose driven ones stand first among some inputs.
  module _ (s : SceneRecord) (id : AnimId) (things : List A) (rest : List OpId) (none : BeginsWithout rest) (outs : List Output)
      (most : ℕ) (few : length (map path things) ≤ most)
      (is : ops_of outs ≡ map (Driver id) (driven_paths s id (map path things)) ++ rest) where
    few_driven : length (driven_paths s id (map path things)) ≤ most
    few_driven = let fewer = filter_length (is_driven s id) (map path things) in omega arith

    pub drivers : driver_count most outs ≡ length (driven_paths s id (map path things))
    drivers = count_is id rest none (driven_paths s id (map path things)) outs most few_driven is

    driven_here : (a : A) → driven_among (driver_count most outs) outs (place a) ≡ driven_number s id (map path things) outs (path a)
    driven_here a =
        let enough : length (driven_paths s id (map path things)) ≤ driver_count most outs = let count = drivers in omega arith in
        driven_is id rest none (same_path (path a)) (place a) (driven_paths s id (map path things)) outs (driver_count most outs) enough
        (All-filter (is_driven s id) (λ p. same_path (path a) p ≡ (path_place p == place a)) (map path things)
        (All-map (λ p. same_path (path a) p ≡ (path_place p == place a)) path things (All-of_any (λ b. same_path (path a) (path b) ≡ (path_place (path b) == place a)) things (agree a))))
        is

    -- the number of each
    pub number_here : (numbers : List (Option ℤ)) (curve : Option ℕ) (original : ℤ) (a : A) → curve_number numbers curve ≡ animated_number s (λ other. numbers) id (path a)
        → number_by (driven_among (driver_count most outs) outs (place a)) (curve_number numbers curve) original
        ≡ channel_number s id numbers (map path things) outs (path a) original
    number_here numbers curve original a animated = λ i. number_by (driven_here a i) (animated i) original

-- ---- an object's own channels

pub local_is : (s : SceneRecord) (tables : SceneTables) → AreTables tables (table_parts s) → (o : ObjectId) (object : Object) → object_of s o ≡ Some object
    → (outs : List Output) → map link_of outs ≡ ins s (Local o)
    → (numbers : List (Option ℤ)) → numbers ≡ cond (is_some object.action) (numbers_at outs 0) []
    → (from : ℕ) → from ≡ option_map_or (λ a. 1) object.action 0
    → transform_of (channels_from (λ channel. option_and_then (λ a. curve_at tables a (paths.Own channel)) object.action) numbers (driver_count 8 (drop from outs)) (drop from outs) object.own)
    ≡ local_transform s object outs
unfolding local_transform
local_is s tables are o object found outs is numbers numbers_are from from_is =
    let same : object.id ≡ o = found_id s o object found in
    let id = anim.Object object.id in
    let links : map link_of outs ≡ ins s (Local object.id) = is ∙ ap (λ o. ins s (Local o)) (sym same) in
    let here : object_of s object.id ≡ Some object = ap (object_of s) same ∙ found in
    let action : action_index s id ≡ object.action = ap (option_and_then (λ (object : Object). object.action)) here in
    let count : length (animation_of s id) ≡ from = animation_count s id object.action action ∙ sym from_is in
    let curves : numbers ≡ curve_numbers s id outs = numbers_are ∙ ap (λ a. cond (is_some a) (numbers_at outs 0) []) (sym action) in
    let tail : ops_of (after_animation s id outs) ≡ map (Driver id) (driven_paths s id (map paths.Own channels)) ++ [] =
    behind (animation_of s id) _ outs (local_ops s object.id outs links) in
    ap transform_of
    ((λ i. channels_from (λ channel. option_and_then (λ a. curve_at tables a (paths.Own channel)) object.action) (curves i)
    (driver_count 8 (drop (sym count i) outs)) (drop (sym count i) outs) object.own)
    ∙ channels_same _ _
    (λ channel. number_here paths.Own channel_place same_channel_place s id channels [] tt (after_animation s id outs) 8 (omega arith) tail
    (curve_numbers s id outs) (option_and_then (λ a. curve_at tables a (paths.Own channel)) object.action) (channel_of object.own channel) channel
    (animated_is s tables are id (paths.Own channel) (curve_numbers s id outs) object.action action)))

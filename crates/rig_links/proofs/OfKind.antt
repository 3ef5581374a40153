-- What the kind of an object of a scene promises.
use Rattle.std.proofs.Common.{◌≡◌, ℕ, ◌<◌, ◌≤◌, ◌^◌, List, length, slice_get, Some, sym, ap, ◌∙◌, arith}
use Rattle.std.specs.Prelude.{IsTrue}
use Rattle.std.specs.Option.{option_map}
use Rattle.std.proofs.lemmas.List.Elements.{All-contains}
use Rattle.std.proofs.lemmas.Option.{same_Some, slice_get_within}
use Rattle.rig_scene.specs.declared.armature.ArmatureData.{ArmatureData}
use Rattle.rig_scene.specs.declared.channel.Channels.{Channels}
use Rattle.rig_scene.specs.declared.limits.TheConstants.{MAX_MODIFIERS}
use Rattle.rig_scene.specs.declared.modifier.Modifier.{Modifier}
use Rattle.rig_scene.specs.declared.object.Kind.TheVariants.{Armature, Pencil}
use Rattle.rig_scene.specs.declared.object.Object.{Object}
use Rattle.rig_scene.specs.Facts.{ObjectFacts}
use Rattle.rig_scene.specs.FactsHold.{scene_facts}
use Rattle.rig_scene.specs.Scene.{SceneRecord, object_of}
use Rattle.rig_scene.specs.WellFormed.{is_scene, pose_count}
use Rattle.rig_laws.specs.FoundObject.{found_object}

module _ (s : SceneRecord) (met : IsTrue (is_scene s)) (o : Object) (at : object_of s o.id ≡ Some o) where
  facts : ObjectFacts s o
  facts = All-contains (ObjectFacts s) s.objects o (scene_facts s met).objects.each (found_object s o.id o at)

  module _ (index : ℕ) (pose : List Channels) (is : o.kind ≡ Armature index pose) where
    pub armature_within : index < length s.armatures
    armature_within = let kind = facts.armature index pose is in slice_get_within s.armatures index kind.armature kind.is_armature

    module _ (a : ArmatureData) (got : slice_get s.armatures index ≡ Some a) where
      pub poses_are : length pose ≡ length a.bones
      poses_are =
          let kind = facts.armature index pose is in
          kind.poses ∙ ap (λ (a : ArmatureData). length a.bones) (same_Some kind.armature a (sym kind.is_armature ∙ got))

      pub pose_is : option_map (λ (o : Object). pose_count o.kind) (object_of s o.id) ≡ Some (length a.bones)
      pose_is = ap (option_map (λ (o : Object). pose_count o.kind)) at ∙ ap Some (ap pose_count is ∙ poses_are)

  module _ (index : ℕ) (modifiers : List Modifier) (is : o.kind ≡ Pencil index modifiers) where
    pub pencil_within : index < length s.pencils
    pencil_within = (facts.pencil index modifiers is).pencil_is_there

    pub few_modifiers : length modifiers < 2 ^ 32
    few_modifiers = let count : length modifiers ≤ MAX_MODIFIERS = (facts.pencil index modifiers is).count in omega arith

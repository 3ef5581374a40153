-- What a channel means in a scene, once the object, the bone, the pencil and the layer of its names are found.
use Rattle.std.proofs.Common.{◌≡◌, ℕ, ◌<◌, ℤ, Bool, false, not, List, [], length, slice_get, Option, Some, None, refl, sym, ap, ◌∙◌, subst}
use Rattle.std.specs.Prelude.{IsTrue, is_none, is_some, option_map, option_and_then}
use Rattle.std.specs.List.{position, list_any}
use Rattle.std.specs.Option.{option_map_or, option_or}
use Rattle.std.proofs.lemmas.Option.{same_Some, slice_get_within}
use Rattle.rig_scene.specs.declared.armature.ArmatureData.{ArmatureData}
use Rattle.rig_scene.specs.declared.armature.RestBone.{RestBone}
use Rattle.rig_scene.specs.declared.channel.Axis.{Axis}
use Rattle.rig_scene.specs.declared.channel.Channel.{Channel}
use Rattle.rig_scene.specs.declared.channel.Channels.{Channels}
use Rattle.rig_scene.specs.declared.id.AnimId.TheVariants as anim
use Rattle.rig_scene.specs.declared.object.Kind.{Kind}
use Rattle.rig_scene.specs.declared.object.Kind.TheVariants.{Empty, Armature, Pencil}
use Rattle.rig_scene.specs.declared.object.Object.{Object}
use Rattle.rig_scene.specs.declared.path.Path.TheVariants.{Own, Bone, Layer}
use Rattle.rig_scene.specs.declared.pencil.Layer.{Layer as LayerRecord}
use Rattle.rig_scene.specs.declared.pencil.PencilData.{PencilData}
use Rattle.rig_scene.specs.Channel.{with_channel, with_coordinate}
use Rattle.rig_scene.specs.Facts.{ArmatureKindFacts, ObjectFacts}
use Rattle.rig_scene.specs.FactsHold.{scene_facts}
use Rattle.rig_scene.specs.Scene.{SceneRecord, object_of, armature_of}
use Rattle.rig_scene.specs.Text.{same_text}
use Rattle.rig_scene.specs.WellFormed.{has_path, is_scene}
use Rattle.rig_edits.specs.declared.cause.EditCause.{EditCause}
use Rattle.rig_edits.specs.declared.cause.EditCause.TheVariants.{UnknownId, WrongKind, UnknownPath}
use Rattle.rig_edits.specs.declared.edit.IdName.TheVariants as named
use Rattle.rig_edits.specs.declared.slot.Slot.TheVariants as slot
use Rattle.rig_edits.specs.Conditions.{when, is_armature_kind}
use Rattle.rig_edits.specs.Edited.{with_object, with_layer, pose_changed}
use Rattle.rig_edits.specs.Named.{bone_index, bones_of_kind, update_at, update_first}
use Rattle.rig_edits.specs.NamedFacts.{named_by_id}
use Rattle.rig_edits.specs.Lists.{position_within}
use Rattle.rig_edits.specs.Replaced.{All-slice_get}
use Rattle.rig_edits.proofs.FirstPassing.{list_any-find, is_none-position, updated_first, updated_alike}
use Rattle.rig_edits.specs.Slots.{channel_cause, pose_changed_at, IsSlotOf}
use Rattle.rig_edits.specs.Steps.{FoundAt, FoundNowhere}

-- ---- the object at an index

module _ (s : SceneRecord) (is : IsTrue (is_scene s)) (index : ℕ) (o : Object) (at : slice_get s.objects index ≡ Some o)
    (armature : ℕ) (pose : List Channels) (kind : o.kind ≡ Armature armature pose) where
  -- the armature of an armature object is there, with a bone for each of its poses
  pub armature_facts_at : ArmatureKindFacts s armature pose
  armature_facts_at = (All-slice_get (ObjectFacts s) s.objects index o at (scene_facts s is).objects.each).armature armature pose kind

  pub armature_within : armature < length s.armatures
  armature_within = slice_get_within s.armatures armature armature_facts_at.armature armature_facts_at.is_armature

  -- there is a pose for a bone of a name
  pub pose_within : (name : List ℕ) (bone : ℕ) → bone_index s o.kind name ≡ Some bone → bone < length pose
  pose_within name bone e =
      let facts = armature_facts_at in
      let within : bone < length (bones_of_kind s o.kind) = position_within (λ (b : RestBone). same_text b.name name) (bones_of_kind s o.kind) bone e in
      let bones : bones_of_kind s o.kind ≡ facts.armature.bones =
      ap (bones_of_kind s) kind ∙ ap (λ (r : Option ArmatureData). option_map_or (λ a. a.bones) r []) facts.is_armature in
      subst (λ n. bone < n) (ap length bones ∙ sym facts.poses) within

-- ---- channels of the object of a name

module _ (s : SceneRecord) (is : IsTrue (is_scene s)) (name : List ℕ) (index : ℕ) (at : FoundAt (λ (o : Object). same_text o.name name) s.objects index) where
  by_id : object_of s at.element.id ≡ Some at.element
  by_id = named_by_id s (scene_facts s is) name at.element at.is_found

  -- the causes against a channel of an object's own, and of a bone, by the object that is found
  abbrev own_cause_by : Channel → Option Object → Option EditCause
  own_cause_by channel r =
      option_or (when UnknownId (is_none (option_map (λ (o : Object). anim.Object o.id) r)))
      (when UnknownPath (not (option_map_or (λ a. has_path s a (Own channel)) (option_map (λ (o : Object). anim.Object o.id) r) false)))

  abbrev bone_cause_by : List ℕ → Channel → Option Object → Option EditCause
  bone_cause_by bone channel r =
      option_or (when UnknownId (is_none (option_map (λ (o : Object). anim.Object o.id) r)))
      (option_or (when WrongKind (not (option_map_or (λ (o : Object). is_armature_kind o.kind) r false)))
      (when UnknownPath (not (option_map_or (λ a. has_path s a (Bone bone channel)) (option_map (λ (o : Object). anim.Object o.id) r) false))))

  pub own_cause : (channel : Channel) → channel_cause s (named.Object name) (Own channel) ≡ None
  own_cause channel = ap (own_cause_by channel) at.is_found ∙ ap (λ (r : Option Object). when UnknownPath (not (is_some r))) by_id

  pub bone_cause : (bone : List ℕ) (channel : Channel)
      → channel_cause s (named.Object name) (Bone bone channel)
      ≡ option_or (when WrongKind (not (is_armature_kind at.element.kind))) (when UnknownPath (is_none (bone_index s at.element.kind bone)))
  bone_cause bone channel =
      ap (bone_cause_by bone channel) at.is_found
      ∙ ap (λ b. option_or (when WrongKind (not (is_armature_kind at.element.kind))) (when UnknownPath b))
      (ap (λ (r : Option Object). not (option_map_or (λ bones. list_any is_named bones)
      (option_and_then (λ (o : Object). option_map (λ (a : ArmatureData). a.bones) (armature_of s o.kind)) r) false)) by_id
      ∙ by (armature_of s at.element.kind))
    where
      is_named : RestBone → Bool
      is_named b = same_text b.name bone

      by : (r : Option ArmatureData) → not (option_map_or (λ bones. list_any is_named bones) (option_map (λ (a : ArmatureData). a.bones) r) false)
          ≡ is_none (position is_named (option_map_or (λ (a : ArmatureData). a.bones) r []))
      by None = refl
      by (Some a) = sym (is_none-position is_named a.bones)

  -- the object is changed at its index
  object_changed : (change : Object → Object) → with_object s name change ≡ record s { objects = update_at change index s.objects }
  object_changed change =
      ap (λ objects. record s { objects = objects }) (updated_first (λ (o : Object). same_text o.name name) change s.objects index at.is_position)

  pub own_slot : (channel : Channel) → IsSlotOf s (named.Object name) (Own channel) (slot.Own index channel)
  own_slot channel = (at.within, λ value. object_changed (λ o. record o { own = with_channel o.own channel value }))

  -- the poses that are changed by the name of a bone are changed at its index
  pose_changed_by : (name : List ℕ) (bone : ℕ) (change : Channels → Channels) (kind : Kind) → bone_index s kind name ≡ Some bone
      → pose_changed s name change kind ≡ pose_changed_at change bone kind
  pose_changed_by name bone change Empty e = refl
  pose_changed_by name bone change (Armature armature pose) e = ap (λ r. Armature armature (option_map_or (λ i. update_at change i pose) r pose)) e
  pose_changed_by name bone change (Pencil pencil modifiers) e = refl

  pub pose_slot : (name_of_bone : List ℕ) (channel : Channel) (bone : ℕ) → bone_index s at.element.kind name_of_bone ≡ Some bone
      → IsSlotOf s (named.Object name) (Bone name_of_bone channel) (slot.Pose index bone channel)
  pose_slot name_of_bone channel bone e = ((at.within, there), set)
    where
      there : (o : Object) (armature : ℕ) (pose : List Channels) → slice_get s.objects index ≡ Some o → o.kind ≡ Armature armature pose → bone < length pose
      there o armature pose here kind =
          pose_within s is index o here armature pose kind name_of_bone bone
          (ap (λ (q : Object). bone_index s q.kind name_of_bone) (same_Some o at.element (sym here ∙ at.is_at)) ∙ e)

      set : (value : ℤ) → with_object s name (λ o. record o { kind = pose_changed s name_of_bone (λ pose. with_channel pose channel value) o.kind })
          ≡ record s { objects = update_at (λ o. record o { kind = pose_changed_at (λ pose. with_channel pose channel value) bone o.kind }) index s.objects }
      set value =
          object_changed (λ o. record o { kind = pose_changed s name_of_bone (λ pose. with_channel pose channel value) o.kind })
          ∙ ap (λ objects. record s { objects = objects })
          (updated_alike (λ o. record o { kind = pose_changed s name_of_bone (λ pose. with_channel pose channel value) o.kind })
          (λ o. record o { kind = pose_changed_at (λ pose. with_channel pose channel value) bone o.kind }) index s.objects at.element at.is_at
          (ap (λ k. record at.element { kind = k }) (pose_changed_by name_of_bone bone (λ pose. with_channel pose channel value) at.element.kind e)))

-- ---- channels of the pencil of a name

module _ (s : SceneRecord) (name : List ℕ) (index : ℕ) (at : FoundAt (λ (p : PencilData). same_text p.name name) s.pencils index)
    (p : PencilData) (here : slice_get s.pencils index ≡ Some p) (layer : List ℕ) (axis : Axis) where
  abbrev is_named : LayerRecord → Bool
  is_named l = same_text l.name layer

  layer_cause : channel_cause s (named.Pencil name) (Layer layer axis) ≡ when UnknownPath (not (list_any is_named p.layers))
  layer_cause =
      ap (λ (r : Option ℕ). option_or (when UnknownId (is_none (option_map (λ i. anim.Pencil i) r)))
      (when UnknownPath (not (option_map_or (λ a. has_path s a (Layer layer axis)) (option_map (λ i. anim.Pencil i) r) false)))) at.is_position
      ∙ ap (λ (r : Option PencilData). when UnknownPath (not (option_map_or (λ q. list_any is_named q.layers) r false))) here

  pub no_layer : FoundNowhere is_named p.layers → channel_cause s (named.Pencil name) (Layer layer axis) ≡ Some UnknownPath
  no_layer none = layer_cause ∙ ap (λ b. when UnknownPath (not b)) (list_any-find is_named p.layers ∙ ap is_some none.is_found)

  module _ (number : ℕ) (found_layer : FoundAt is_named p.layers number) where
    pub known_layer : channel_cause s (named.Pencil name) (Layer layer axis) ≡ None
    known_layer = layer_cause ∙ ap (λ b. when UnknownPath (not b)) (list_any-find is_named p.layers ∙ ap is_some found_layer.is_found)

    pub layer_slot : IsSlotOf s (named.Pencil name) (Layer layer axis) (slot.Layer index number axis)
    layer_slot = ((at.within, there), set)
      where
        there : (q : PencilData) → slice_get s.pencils index ≡ Some q → number < length q.layers
        there q e = subst (λ (r : PencilData). number < length r.layers) (same_Some p q (sym here ∙ e)) found_layer.within

        set : (value : ℤ) → with_layer s name layer (λ l. record l { offset = with_coordinate l.offset axis value })
            ≡ record s {
              pencils = update_at (λ q. record q {
                layers = update_at (λ l. record l { offset = with_coordinate l.offset axis value }) number q.layers;
              }) index s.pencils;
            }
        set value =
            ap (λ pencils. record s { pencils = pencils })
            (updated_first (λ (q : PencilData). same_text q.name name) by_name s.pencils index at.is_position
            ∙ updated_alike by_name by_number index s.pencils p here
            (ap (λ layers. record p { layers = layers }) (updated_first is_named change p.layers number found_layer.is_position)))
          where
            change : LayerRecord → LayerRecord
            change l = record l { offset = with_coordinate l.offset axis value }

            by_name : PencilData → PencilData
            by_name q = record q { layers = update_first is_named change q.layers }

            by_number : PencilData → PencilData
            by_number q = record q { layers = update_at change number q.layers }

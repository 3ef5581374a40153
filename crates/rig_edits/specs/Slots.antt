-- Where the original number of a channel stands, by indices.
use Rattle.std.specs.Prelude.{◌≡◌, ℕ, ◌<◌, not, List, length, slice_get, Option, Some, ℤ}
use Rattle.std.specs.Option.{option_or}
use Rattle.rig_scene.specs.declared.channel.Channels.{Channels}
use Rattle.rig_scene.specs.declared.object.Kind.{Kind}
use Rattle.rig_scene.specs.declared.object.Kind.TheVariants.{Empty, Armature, Pencil}
use Rattle.rig_scene.specs.declared.object.Object.{Object}
use Rattle.rig_scene.specs.declared.path.Path.{Path}
use Rattle.rig_scene.specs.declared.pencil.PencilData.{PencilData}
use Rattle.rig_scene.specs.Channel.{with_channel, with_coordinate}
use Rattle.rig_scene.specs.Scene.{SceneRecord}
use Rattle.rig_edits.specs.declared.cause.EditCause.{EditCause}
use Rattle.rig_edits.specs.declared.cause.EditCause.TheVariants.{UnknownId, WrongKind, UnknownPath}
use Rattle.rig_edits.specs.declared.edit.IdName.{IdName}
use Rattle.rig_edits.specs.declared.slot.Slot.{Slot}
use Rattle.rig_edits.specs.declared.slot.Slot.TheVariants as slot
use Rattle.rig_edits.specs.Conditions.{when, lacks_id, can_have, lacks_path}
use Rattle.rig_edits.specs.Edited.{set_value}
use Rattle.rig_edits.specs.Named.{update_at}

-- the first cause against a channel
abbrev pub channel_cause : SceneRecord → IdName → Path → Option EditCause
channel_cause s id path =
    option_or (when UnknownId (lacks_id s id)) (option_or (when WrongKind (not (can_have s id path))) (when UnknownPath (lacks_path s id path)))

-- the pose of the bone of an index changed
abbrev pub pose_changed_at : (Channels → Channels) → ℕ → Kind → Kind
pose_changed_at change bone Empty = Empty
pose_changed_at change bone (Armature armature pose) = Armature armature (update_at change bone pose)
pose_changed_at change bone (Pencil pencil modifiers) = Pencil pencil modifiers

-- the number at a slot set
abbrev pub slot_set : SceneRecord → Slot → ℤ → SceneRecord
slot_set s (slot.Own object channel) value =
    record s { objects = update_at (λ o. record o { own = with_channel o.own channel value }) object s.objects }
slot_set s (slot.Pose object bone channel) value =
    record s { objects = update_at (λ o. record o { kind = pose_changed_at (λ c. with_channel c channel value) bone o.kind }) object s.objects }
slot_set s (slot.Layer pencil layer axis) value =
    record s {
      pencils = update_at (λ p. record p {
        layers = update_at (λ l. record l { offset = with_coordinate l.offset axis value }) layer p.layers;
      }) pencil s.pencils;
    }

-- the object at an index has a pose of the bone of an index, where it is an armature object
abbrev pub HasPose : List Object → ℕ → ℕ → Type 0
HasPose objects object bone =
    (object < length objects)
    × ((o : Object) (armature : ℕ) (pose : List Channels) → slice_get objects object ≡ Some o → o.kind ≡ Armature armature pose → bone < length pose)

-- the pencil at an index has a layer of an index
abbrev pub HasLayer : List PencilData → ℕ → ℕ → Type 0
HasLayer pencils pencil layer =
    (pencil < length pencils) × ((p : PencilData) → slice_get pencils pencil ≡ Some p → layer < length p.layers)

-- the slot is there
abbrev pub IsSlot : SceneRecord → Slot → Type 0
IsSlot s (slot.Own object channel) = object < length s.objects
IsSlot s (slot.Pose object bone channel) = HasPose s.objects object bone
IsSlot s (slot.Layer pencil layer axis) = HasLayer s.pencils pencil layer

-- the slot is that of a channel
abbrev pub IsSlotOf : SceneRecord → IdName → Path → Slot → Type 0
IsSlotOf s id path at = IsSlot s at × ((value : ℤ) → set_value s id path value ≡ slot_set s at value)

-- Where a modifier stands, by indices, and the causes against a modifier.
use Rattle.std.specs.Prelude.{◌≡◌, ℕ, ◌<◌, not, List, length, slice_get, Option, None, Some, is_none, option_map, option_and_then}
use Rattle.std.specs.List.{find}
use Rattle.std.specs.Option.{option_or}
use Rattle.rig_scene.specs.declared.id.ObjectId.{ObjectId}
use Rattle.rig_scene.specs.declared.limits.TheConstants.{MAX_MODIFIERS}
use Rattle.rig_scene.specs.declared.modifier.Effect.{Effect}
use Rattle.rig_scene.specs.declared.modifier.Effect.TheVariants as effect
use Rattle.rig_scene.specs.declared.modifier.Modifier.{Modifier}
use Rattle.rig_scene.specs.declared.object.Kind.{Kind}
use Rattle.rig_scene.specs.declared.object.Kind.TheVariants.{Pencil}
use Rattle.rig_scene.specs.declared.object.Object.{Object}
use Rattle.rig_scene.specs.Scene.{SceneRecord}
use Rattle.rig_scene.specs.Text.{same_text}
use Rattle.rig_scene.specs.WellFormed.{is_pencil_kind}
use Rattle.rig_edits.specs.declared.cause.EditCause.{EditCause}
use Rattle.rig_edits.specs.declared.cause.EditCause.TheVariants.{UnknownId, WrongKind, UnknownPart, OutOfRange, Duplicate}
use Rattle.rig_edits.specs.declared.edit.NewEffect.{NewEffect}
use Rattle.rig_edits.specs.declared.edit.NewEffect.TheVariants.{Offset, Mirror, Array}
use Rattle.rig_edits.specs.Conditions.{lacks_object, lacks_centre, lacks_modifier, is_pencil_object, is_effect_in_range, full_at, when}
use Rattle.rig_edits.specs.Edited.{natural, v3_of, stack_changed, effect_of}
use Rattle.rig_edits.specs.Named.{object_named, modifiers_of, modifier_named, update_at}
use Rattle.rig_edits.specs.Steps.{FoundAt}

-- ---- a modifier of a name

-- the first cause against a modifier of an object
abbrev pub modifier_cause : SceneRecord → List ℕ → List ℕ → Option EditCause
modifier_cause s object modifier =
    option_or (when UnknownId (lacks_object s object))
    (option_or (when WrongKind (not (is_pencil_object s object))) (when UnknownPart (lacks_modifier s object modifier)))

-- the first cause against a modifier of a kind of object
abbrev pub stack_cause : Kind → List ℕ → Option EditCause
stack_cause kind name =
    option_or (when WrongKind (not (is_pencil_kind kind))) (when UnknownPart (is_none (modifier_named kind name)))

-- the modifier of a name of the object of a name stands at an index of the stack of the object at an index
pub record ModifierAt (s : SceneRecord) (object modifier : List ℕ) (object_index index : ℕ) : Type 0 where
  pub in_objects : FoundAt (λ o. same_text o.name object) s.objects object_index
  pub in_stack : FoundAt (λ m. same_text m.name modifier) (modifiers_of in_objects.element.kind) index

-- the object at an index with its stack changed
abbrev pub stack_changed_at : (List Modifier → List Modifier) → ℕ → List Object → List Object
stack_changed_at change = update_at (λ o. record o { kind = stack_changed change o.kind })

-- the object at an index has a modifier of an index, where it is a pencil object
abbrev pub HasModifier : List Object → ℕ → ℕ → Type 0
HasModifier objects object index =
    (object < length objects)
    × ((o : Object) (pencil : ℕ) (modifiers : List Modifier) → slice_get objects object ≡ Some o → o.kind ≡ Pencil pencil modifiers → index < length modifiers)

-- ---- a new modifier

-- the object that a new effect names as its centre
abbrev pub centre_named : SceneRecord → NewEffect → Option ObjectId
centre_named s (Offset loc scale) = None
centre_named s (Mirror x y z object) = option_and_then (λ name. option_map (λ o. o.id) (object_named s name)) object
centre_named s (Array count offset) = None

-- what an effect by names does, with its centre
abbrev pub effect_about : Option ObjectId → NewEffect → Effect
effect_about centre (Offset loc scale) = effect.Offset (v3_of loc) scale
effect_about centre (Mirror x y z object) = effect.Mirror (record { x = x; y = y; z = z; centre = centre })
effect_about centre (Array count offset) = effect.Array (natural count) (v3_of offset)

-- the first cause against one more modifier of a stack
abbrev pub room_cause : List Modifier → List ℕ → Option EditCause
room_cause modifiers name =
    option_or (when Duplicate (not (is_none (find (λ m. same_text m.name name) modifiers)))) (full_at (length modifiers) 1 MAX_MODIFIERS)

-- the first cause against a new modifier of an object
abbrev pub adding_cause : SceneRecord → List ℕ → List ℕ → NewEffect → Option EditCause
adding_cause s object name effect =
    option_or (when UnknownId (lacks_object s object)) (option_or (when UnknownId (lacks_centre s effect))
    (option_or (when WrongKind (not (is_pencil_object s object))) (option_or (when OutOfRange (not (is_effect_in_range effect)))
    (option_or (when Duplicate (not (lacks_modifier s object name)))
    (option_and_then (λ o. full_at (length (modifiers_of o.kind)) 1 MAX_MODIFIERS) (object_named s object))))))

-- the object of a name stands at an index, and an effect is what the effect by names does
pub record NewModifierAt (s : SceneRecord) (object : List ℕ) (effect : NewEffect) (index : ℕ) (does : Effect) : Type 0 where
  pub in_objects : FoundAt (λ o. same_text o.name object) s.objects index
  pub is_effect : does ≡ effect_of s effect

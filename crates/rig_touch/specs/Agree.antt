-- What two scenes have in common for an operation: all that its value is made of beside its inputs.
use Rattle.std.specs.Prelude.{◌≡◌, ℕ, zero, suc, List, [], ◌∷◌, map, slice_get, Bool, false, Option, None, Some, option_map, option_and_then, is_some, ℤ}
use Rattle.std.specs.Option.{option_map_or}
use Rattle.std.specs.List.{All}
use Rattle.std.proofs.Common.{refl, sym, ap, ◌∙◌}
use Rattle.std.proofs.lemmas.Option.{same_Some}
use Rattle.rig_scene.specs.declared.action.Action.{Action}
use Rattle.rig_scene.specs.declared.armature.RestBone.{RestBone}
use Rattle.rig_scene.specs.declared.channel.Channels.{Channels}
use Rattle.rig_scene.specs.declared.driver.Driver.{Driver as DriverRecord}
use Rattle.rig_scene.specs.declared.driver.Variable.{Variable}
use Rattle.rig_scene.specs.declared.driver.Variable.TheVariants as variable
use Rattle.rig_scene.specs.declared.id.AnimId.{AnimId}
use Rattle.rig_scene.specs.declared.id.AnimId.TheVariants as anim
use Rattle.rig_scene.specs.declared.id.ObjectId.{ObjectId}
use Rattle.rig_scene.specs.declared.modifier.Modifier.{Modifier}
use Rattle.rig_scene.specs.declared.operation.OpId.{OpId}
use Rattle.rig_scene.specs.declared.operation.OpId.TheVariants.{Time, Animation, Driver, Local, World, PoseInit, Bone, PoseDone, Layer, Geometry, ModifierOp, GeometryDone}
use Rattle.rig_scene.specs.declared.path.Path.{Path}
use Rattle.rig_scene.specs.declared.path.Path.TheVariants as paths
use Rattle.rig_scene.specs.declared.pencil.Drawing.{Drawing}
use Rattle.rig_scene.specs.declared.pencil.Layer.{Layer as LayerRecord}
use Rattle.rig_scene.specs.Channel.{channels}
use Rattle.rig_scene.specs.ChannelNumber.{pose_of, action_of, animated_number, original_number}
use Rattle.rig_scene.specs.Drivers.{driver_of, is_driven, driven_paths, has_action}
use Rattle.rig_scene.specs.Layer.{held_drawing}
use Rattle.rig_scene.specs.Quantities.{modifiers_of}
use Rattle.rig_scene.specs.Scene.{SceneRecord, object_of, armature_of, pencil_of}
use Rattle.rig_scene.specs.WellFormed.{bones_of}
use Rattle.rig_laws.specs.Kernel.{bone_paths, layer_paths}

-- ---- what is read of a scene

-- a bone of an object, with its original pose
abbrev pub posed_bone : SceneRecord → ObjectId → ℕ → Option (RestBone × Channels)
posed_bone s o b =
    option_and_then (λ object. option_and_then (λ armature. option_and_then (λ bone. option_map (λ pose. (bone, pose))
    (pose_of object.kind b)) (slice_get armature.bones b)) (armature_of s object.kind)) (object_of s o)

-- a layer of a pencil
abbrev pub layer_at : SceneRecord → ℕ → ℕ → Option LayerRecord
layer_at s p l = option_and_then (λ pencil. slice_get pencil.layers l) (slice_get s.pencils p)

-- the drawing that a layer of a pencil holds at a frame
abbrev pub drawing_at : SceneRecord → ℕ → ℕ → ℤ → Option Drawing
drawing_at s p l frame =
    option_and_then (λ pencil. option_and_then (λ layer. option_and_then (slice_get pencil.drawings) (held_drawing layer.keys frame))
    (slice_get pencil.layers l)) (slice_get s.pencils p)

-- which layers of an object's pencil are hidden
abbrev pub hidden_layers : SceneRecord → ObjectId → Option (List Bool)
hidden_layers s o =
    option_and_then (λ object. option_map (λ pencil. map (λ l. l.hidden) pencil.layers) (pencil_of s object.kind)) (object_of s o)

-- the modifier of a number, counted from 1
abbrev pub modifier_at : SceneRecord → ObjectId → ℕ → Option Modifier
modifier_at s o zero = None
modifier_at s o (suc i) = option_and_then (λ object. slice_get (modifiers_of object.kind) i) (object_of s o)

-- ---- what two scenes have in common

module _ (s t : SceneRecord) where
  -- what the numbers of an id's curves make of each channel
  pub record SameCurves (id : AnimId) : Type 0 where
    pub action : has_action s id ≡ has_action t id
    pub curves : (numbers : List (Option ℤ)) (path : Path) →
        animated_number s (λ (other : AnimId). numbers) id path ≡ animated_number t (λ (other : AnimId). numbers) id path

  -- what a variable makes of its input
  abbrev pub SameVariable : Variable → Type 0
  SameVariable (variable.Property id path) =
      SameCurves id × (original_number s id path ≡ original_number t id path) × (is_driven s id path ≡ is_driven t id path)
  SameVariable (variable.Transform object space channel) = Unit {0}

  pub record SameDriver (id : AnimId) (path : Path) : Type 0 where
    pub driver : driver_of s id path ≡ driver_of t id path
    pub variables : All SameVariable (option_map_or (λ d. d.variables) (driver_of s id path) [])

  pub record SameLocal (o : ObjectId) : Type 0 where
    pub own : option_map (λ object. object.own) (object_of s o) ≡ option_map (λ object. object.own) (object_of t o)
    pub curves : SameCurves (anim.Object o)
    pub driven : driven_paths s (anim.Object o) (map paths.Own channels) ≡ driven_paths t (anim.Object o) (map paths.Own channels)

  pub record SameBone (o : ObjectId) (b : ℕ) : Type 0 where
    pub posed : posed_bone s o b ≡ posed_bone t o b
    pub curves : SameCurves (anim.Object o)
    pub driven : (bone : RestBone) → option_map (λ posed. posed.0) (posed_bone s o b) ≡ Some bone →
        driven_paths s (anim.Object o) (bone_paths bone) ≡ driven_paths t (anim.Object o) (bone_paths bone)

  -- two layers that may differ in whether they are hidden
  pub record SameLayer (layer other : LayerRecord) : Type 0 where
    pub name : layer.name ≡ other.name
    pub offset : layer.offset ≡ other.offset
    pub bound : layer.bound ≡ other.bound
    pub keys : layer.keys ≡ other.keys

  pub record SameShown (p l : ℕ) : Type 0 where
    pub there : is_some (layer_at s p l) ≡ is_some (layer_at t p l)
    pub layers : (layer other : LayerRecord) → layer_at s p l ≡ Some layer → layer_at t p l ≡ Some other → SameLayer layer other
    pub drawing : (frame : ℤ) → drawing_at s p l frame ≡ drawing_at t p l frame
    pub curves : SameCurves (anim.Pencil p)
    pub driven : (layer : LayerRecord) → layer_at s p l ≡ Some layer →
        driven_paths s (anim.Pencil p) (layer_paths layer) ≡ driven_paths t (anim.Pencil p) (layer_paths layer)
    pub bones : (layer : LayerRecord) → layer_at s p l ≡ Some layer → All (λ bound. bones_of s bound.object ≡ bones_of t bound.object)
        (option_map_or (λ bound. bound ∷ []) layer.bound [])

  -- all that an operation's value is made of beside its inputs
  abbrev pub Agree : OpId → Type 0
  Agree Time = Unit {0}
  Agree (Animation id) = action_of s id ≡ action_of t id
  Agree (Driver id path) = SameDriver id path
  Agree (Local o) = SameLocal o
  Agree (World o) = option_map (λ object. object.parent) (object_of s o) ≡ option_map (λ object. object.parent) (object_of t o)
  Agree (PoseInit o) = (is_some (object_of s o) ≡ is_some (object_of t o)) × SameCurves (anim.Object o)
  Agree (Bone o b) = SameBone o b
  Agree (PoseDone o) = is_some (object_of s o) ≡ is_some (object_of t o)
  Agree (Layer p l) = SameShown p l
  Agree (Geometry o) = hidden_layers s o ≡ hidden_layers t o
  Agree (ModifierOp o i) = modifier_at s o i ≡ modifier_at t o i
  Agree (GeometryDone o) = is_some (object_of s o) ≡ is_some (object_of t o)

-- ---- two scenes of which a part is the same

-- a layer without its switch
abbrev pub bare : LayerRecord → LayerRecord
bare l = record l { hidden = false }

-- two layers that are the same without it
pub same_bare : (s t : SceneRecord) (layer other : LayerRecord) → bare layer ≡ bare other → SameLayer s t layer other
same_bare s t layer other e = record {
  name = ap (λ (l : LayerRecord). l.name) e;
  offset = ap (λ (l : LayerRecord). l.offset) e;
  bound = ap (λ (l : LayerRecord). l.bound) e;
  keys = ap (λ (l : LayerRecord). l.keys) e;
}

-- a layer that is found alike in both
pub one_layer : (s t : SceneRecord) (found : Option LayerRecord) (layer other : LayerRecord) → found ≡ Some layer → found ≡ Some other
    → SameLayer s t layer other
one_layer s t found layer other old new = same_bare s t layer other (ap bare (same_Some layer other (sym old ∙ new)))

-- an original number is read of no action and no driver
pub other_original : (s : SceneRecord) (actions : List Action) (drivers : List DriverRecord) (id : AnimId) (path : Path)
    → original_number s id path ≡ original_number (record s { actions = actions; drivers = drivers }) id path
unfolding original_number
other_original s actions drivers (anim.Object o) (paths.Own channel) = refl
other_original s actions drivers (anim.Object o) (paths.Bone name channel) = refl
other_original s actions drivers (anim.Object o) (paths.Layer name axis) = refl
other_original s actions drivers (anim.Pencil p) (paths.Own channel) = refl
other_original s actions drivers (anim.Pencil p) (paths.Bone name channel) = refl
other_original s actions drivers (anim.Pencil p) (paths.Layer name axis) = refl

-- One object of a scene changed, which keeps its id, its action, its armature and its pencil: two scenes have the rest in common.
use Rattle.std.proofs.Common.{◌≡◌, ℕ, zero, suc, List, [], ◌∷◌, map, Option, Some, refl, sym, ap, ap₂, subst}
use Rattle.std.specs.Prelude.{ℤ, Contains, is_some, slice_get, option_map, option_and_then}
use Rattle.std.specs.Option.{option_map_or}
use Rattle.std.specs.List.{All, position}
use Rattle.std.proofs.Math.Path.{fun_ext}
use Rattle.std.proofs.lemmas.List.Elements.{All-weaker}
use Rattle.rig_scene.specs.declared.action.Action.{Action}
use Rattle.rig_scene.specs.declared.armature.ArmatureData.{ArmatureData}
use Rattle.rig_scene.specs.declared.armature.RestBone.{RestBone}
use Rattle.rig_scene.specs.declared.channel.Axis.{Axis}
use Rattle.rig_scene.specs.declared.channel.Channel.{Channel}
use Rattle.rig_scene.specs.declared.channel.Channels.{Channels}
use Rattle.rig_scene.specs.declared.driver.Variable.{Variable}
use Rattle.rig_scene.specs.declared.driver.Variable.TheVariants as variable
use Rattle.rig_scene.specs.declared.id.AnimId.{AnimId}
use Rattle.rig_scene.specs.declared.id.AnimId.TheVariants as anim
use Rattle.rig_scene.specs.declared.id.ObjectId.{ObjectId}
use Rattle.rig_scene.specs.declared.object.Object.{Object}
use Rattle.rig_scene.specs.declared.operation.OpId.{OpId}
use Rattle.rig_scene.specs.declared.operation.OpId.TheVariants.{Time, Animation, Driver, Local, World, PoseInit, Bone, PoseDone, Layer, Geometry, ModifierOp, GeometryDone}
use Rattle.rig_scene.specs.declared.path.Path.{Path}
use Rattle.rig_scene.specs.declared.path.Path.TheVariants.{Own}
use Rattle.rig_scene.specs.declared.path.Path.TheVariants as paths
use Rattle.rig_scene.specs.declared.pencil.BoneRef.{BoneRef}
use Rattle.rig_scene.specs.declared.pencil.Layer.{Layer as LayerRecord}
use Rattle.rig_scene.specs.declared.pencil.PencilData.{PencilData}
use Rattle.rig_scene.specs.Channel.{channel_of}
use Rattle.rig_scene.specs.ChannelNumber.{action_of, number_among, animated_number, original_number, pose_of, pose_named}
use Rattle.rig_scene.specs.Drivers.{driver_of}
use Rattle.rig_scene.specs.Quantities.{modifiers_of}
use Rattle.rig_scene.specs.Scene.{SceneRecord, object_of, armature_of, pencil_of}
use Rattle.rig_scene.specs.Text.{same_text}
use Rattle.rig_scene.specs.WellFormed.{bones_of}
use Rattle.rig_laws.specs.Lists.{All-of_any}
use Rattle.rig_edits.specs.Edited.{with_object}
use Rattle.rig_edits.specs.Named.{object_named}
use Rattle.rig_touch.specs.Agree.{SameCurves, SameVariable, layer_at, one_layer, posed_bone, modifier_at, hidden_layers, Agree}
use Rattle.rig_touch.specs.OneObject.{viewed, viewed_then, still_there}

-- what isn't touched of what an object of a name touches
pub untouched_of : (f : Object → List OpId) (r : Option Object) (x : Object) (op : OpId) → r ≡ Some x
    → (Contains (option_map_or f r []) op → ⊥)
    → Contains (f x) op → ⊥
untouched_of f r x op e h c = h (subst (λ r. Contains (option_map_or f r []) op) (sym e) c)

-- what the object that a change makes of another has in common with it
pub record Keeps (s : SceneRecord) (old new : Object) : Type 0 where
  pub id : new.id ≡ old.id
  pub action : new.action ≡ old.action
  pub armature : armature_of s new.kind ≡ armature_of s old.kind
  pub pencil : pencil_of s new.kind ≡ pencil_of s old.kind

module _ (s : SceneRecord) (name : List ℕ) (change : Object → Object) (x : Object) (named : object_named s name ≡ Some x)
    (keeps : Keeps s x (change x)) where
  -- the scene with the object changed
  abbrev changed : SceneRecord
  changed = with_object s name change

  action_still : (id : AnimId) → action_of s id ≡ action_of changed id
  action_still (anim.Object o) =
      viewed_then s name change x named keeps.id (λ (x : Object). option_and_then (slice_get s.actions) x.action)
      (ap (option_and_then (slice_get s.actions)) keeps.action) o
  action_still (anim.Pencil p) = refl

  animated_still : (id : AnimId) (numbers : List (Option ℤ)) (path : Path)
      → animated_number s (λ (other : AnimId). numbers) id path ≡ animated_number changed (λ (other : AnimId). numbers) id path
  unfolding animated_number
  animated_still id numbers path = ap (option_and_then (λ (action : Action). number_among action numbers path)) (action_still id)

  curves_still : (id : AnimId) → SameCurves s changed id
  curves_still (anim.Object o) = record {
    action = ap is_some (viewed_then s name change x named keeps.id (λ (x : Object). x.action) keeps.action o);
    curves = animated_still (anim.Object o);
  }
  curves_still (anim.Pencil p) = record { action = refl; curves = animated_still (anim.Pencil p) }

  bones_still : (o : ObjectId) → bones_of s o ≡ bones_of changed o
  bones_still o =
      viewed_then s name change x named keeps.id (λ (x : Object). option_map (λ (a : ArmatureData). a.bones) (armature_of s x.kind))
      (ap (option_map (λ (a : ArmatureData). a.bones)) keeps.armature) o

  hidden_still : (o : ObjectId) → hidden_layers s o ≡ hidden_layers changed o
  hidden_still o =
      viewed_then s name change x named keeps.id
      (λ (x : Object). option_map (λ (p : PencilData). map (λ (l : LayerRecord). l.hidden) p.layers) (pencil_of s x.kind))
      (ap (option_map (λ (p : PencilData). map (λ (l : LayerRecord). l.hidden) p.layers)) keeps.pencil) o

  -- the variables of a driver read the same original numbers
  abbrev pub SameOriginal : Variable → Type 0
  SameOriginal (variable.Property id path) = original_number s id path ≡ original_number changed id path
  SameOriginal (variable.Transform object space channel) = Unit {0}

  -- what is left to show of an operation
  abbrev pub Rest : OpId → Type 0
  Rest (Driver id path) = All SameOriginal (option_map_or (λ d. d.variables) (driver_of s id path) [])
  Rest (Local o) = option_map (λ object. object.own) (object_of s o) ≡ option_map (λ object. object.own) (object_of changed o)
  Rest (World o) = option_map (λ object. object.parent) (object_of s o) ≡ option_map (λ object. object.parent) (object_of changed o)
  Rest (Bone o b) = posed_bone s o b ≡ posed_bone changed o b
  Rest (ModifierOp o i) = modifier_at s o i ≡ modifier_at changed o i
  Rest op = Unit {0}

  variable_still : (v : Variable) → SameOriginal v → SameVariable s changed v
  variable_still (variable.Property id path) h = (curves_still id, h, refl)
  variable_still (variable.Transform object space channel) h = tt

  -- the rest is all
  pub agree_rest : (op : OpId) → Rest op → Agree s changed op
  agree_rest Time h = tt
  agree_rest (Animation id) h = action_still id
  agree_rest (Driver id path) h = record {
    driver = refl;
    variables = All-weaker SameOriginal (SameVariable s changed) variable_still (option_map_or (λ d. d.variables) (driver_of s id path) []) h;
  }
  agree_rest (Local o) h = record { own = h; curves = curves_still (anim.Object o); driven = refl }
  agree_rest (World o) h = h
  agree_rest (PoseInit o) h = (still_there s name change x named keeps.id o, curves_still (anim.Object o))
  agree_rest (Bone o b) h = record { posed = h; curves = curves_still (anim.Object o); driven = λ bone e. refl }
  agree_rest (PoseDone o) h = still_there s name change x named keeps.id o
  agree_rest (Layer p l) h = record {
    there = refl;
    layers = one_layer s changed (layer_at s p l);
    drawing = λ frame. refl;
    curves = curves_still (anim.Pencil p);
    driven = λ layer e. refl;
    bones = λ layer e. All-of_any (λ (b : BoneRef). bones_of s b.object ≡ bones_of changed b.object)
        (option_map_or (λ bound. bound ∷ []) layer.bound []) (λ b. bones_still b.object);
  }
  agree_rest (Geometry o) h = hidden_still o
  agree_rest (ModifierOp o i) h = h
  agree_rest (GeometryDone o) h = still_there s name change x named keeps.id o

  -- ---- what a change that keeps more leaves

  pub own_still : ((change x).own ≡ x.own) → (o : ObjectId) → Rest (Local o)
  own_still own o = viewed s name change x named keeps.id (λ (x : Object). x.own) own o

  pub parent_still : ((change x).parent ≡ x.parent) → (o : ObjectId) → Rest (World o)
  parent_still parent o = viewed s name change x named keeps.id (λ (x : Object). x.parent) parent o

  -- the pose of a bone, with the bone
  abbrev bone_posed : ℕ → Option ArmatureData → Option Channels → Option (RestBone × Channels)
  bone_posed b a p =
      option_and_then (λ (a : ArmatureData). option_and_then (λ (bone : RestBone). option_map (λ (pose : Channels). (bone, pose)) p)
      (slice_get a.bones b)) a

  pub bone_still : (b : ℕ) → (pose_of (change x).kind b ≡ pose_of x.kind b) → (o : ObjectId) → Rest (Bone o b)
  bone_still b pose o =
      viewed_then s name change x named keeps.id (λ (x : Object). bone_posed b (armature_of s x.kind) (pose_of x.kind b))
      (ap₂ (bone_posed b) keeps.armature pose) o

  pub modifier_still : (modifiers_of (change x).kind ≡ modifiers_of x.kind) → (o : ObjectId) (i : ℕ) → Rest (ModifierOp o i)
  modifier_still modifiers o zero = refl
  modifier_still modifiers o (suc i) =
      viewed_then s name change x named keeps.id (λ (x : Object). slice_get (modifiers_of x.kind) i) (ap (λ ms. slice_get ms i) modifiers) o

  -- a number of an object's own channels
  pub own_number_still : (channel : Channel) → (channel_of (change x).own channel ≡ channel_of x.own channel) → (o : ObjectId)
      → original_number s (anim.Object o) (Own channel) ≡ original_number changed (anim.Object o) (Own channel)
  unfolding original_number
  own_number_still channel own o = viewed s name change x named keeps.id (λ (x : Object). channel_of x.own channel) own o

  -- a number of a bone's pose
  pub bone_number_still : (bone : List ℕ) (channel : Channel)
      → (option_map (λ pose. channel_of pose channel) (pose_named s (change x).kind bone)
      ≡ option_map (λ pose. channel_of pose channel) (pose_named s x.kind bone))
      → (o : ObjectId) → original_number s (anim.Object o) (paths.Bone bone channel)
      ≡ original_number changed (anim.Object o) (paths.Bone bone channel)
  unfolding original_number
  bone_number_still bone channel pose o =
      viewed_then s name change x named keeps.id
      (λ (x : Object). option_map (λ pose. channel_of pose channel) (pose_named s x.kind bone)) pose o

  -- a number of a pencil
  pub pencil_number_still : (p : ℕ) (path : Path) → original_number s (anim.Pencil p) path ≡ original_number changed (anim.Pencil p) path
  unfolding original_number
  pencil_number_still p (Own channel) = refl
  pencil_number_still p (paths.Bone bone channel) = refl
  pencil_number_still p (paths.Layer layer axis) = refl

  -- a number of another object
  pub other_number_still : (o : ObjectId) (path : Path) → object_of s o ≡ object_of changed o
      → original_number s (anim.Object o) path ≡ original_number changed (anim.Object o) path
  unfolding original_number
  other_number_still o (Own channel) e = ap (option_map (λ (q : Object). channel_of q.own channel)) e
  other_number_still o (paths.Bone bone channel) e =
      ap (option_and_then (λ (q : Object). option_map (λ pose. channel_of pose channel) (pose_named s q.kind bone))) e
  other_number_still o (paths.Layer layer axis) e = refl

  -- a path of no object
  pub no_number_still : (o : ObjectId) (layer : List ℕ) (axis : Axis)
      → original_number s (anim.Object o) (paths.Layer layer axis) ≡ original_number changed (anim.Object o) (paths.Layer layer axis)
  unfolding original_number
  no_number_still o layer axis = refl

  -- the pose of a bone of a name
  pose_named_still : ((b : ℕ) → pose_of (change x).kind b ≡ pose_of x.kind b) → (bone : List ℕ)
      → pose_named s (change x).kind bone ≡ pose_named s x.kind bone
  pose_named_still pose bone =
      ap₂ (λ (f : ℕ → Option Channels) (a : Option ArmatureData). option_and_then f
      (option_and_then (λ (a : ArmatureData). position (λ (b : RestBone). same_text b.name bone) a.bones) a))
      (fun_ext pose) keeps.armature

  -- every original number
  pub number_still : ((change x).own ≡ x.own) → ((b : ℕ) → pose_of (change x).kind b ≡ pose_of x.kind b)
      → (id : AnimId) (path : Path) → original_number s id path ≡ original_number changed id path
  number_still own pose (anim.Object o) (Own channel) = own_number_still channel (ap (λ c. channel_of c channel) own) o
  number_still own pose (anim.Object o) (paths.Bone bone channel) =
      bone_number_still bone channel (ap (option_map (λ pose. channel_of pose channel)) (pose_named_still pose bone)) o
  number_still own pose (anim.Object o) (paths.Layer layer axis) = no_number_still o layer axis
  number_still own pose (anim.Pencil p) path = pencil_number_still p path

  pub originals_still : ((change x).own ≡ x.own) → ((b : ℕ) → pose_of (change x).kind b ≡ pose_of x.kind b)
      → (id : AnimId) (path : Path) → Rest (Driver id path)
  originals_still own pose id path = All-of_any SameOriginal (option_map_or (λ d. d.variables) (driver_of s id path) []) each
    where
      each : (v : Variable) → SameOriginal v
      each (variable.Property id path) = number_still own pose id path
      each (variable.Transform object space channel) = tt

-- Other objects and drivers in a scene: two scenes have in common what names only objects that both find alike.
use Rattle.std.proofs.Common.{◌≡◌, ℕ, zero, suc, Bool, List, [], ◌∷◌, map, filter, Option, refl, ap, ◌∙◌, subst}
use Rattle.std.specs.Prelude.{ℤ, IsTrue, is_some, slice_get, option_map, option_and_then}
use Rattle.std.specs.Option.{option_map_or}
use Rattle.std.specs.List.{All}
use Rattle.std.proofs.Math.Path.{fun_ext}
use Rattle.std.proofs.lemmas.List.Elements.{All-weaker}
use Rattle.rig_scene.specs.declared.action.Action.{Action}
use Rattle.rig_scene.specs.declared.armature.ArmatureData.{ArmatureData}
use Rattle.rig_scene.specs.declared.armature.RestBone.{RestBone}
use Rattle.rig_scene.specs.declared.channel.Channels.{Channels}
use Rattle.rig_scene.specs.declared.driver.Driver.{Driver as DriverRecord}
use Rattle.rig_scene.specs.declared.driver.Variable.{Variable}
use Rattle.rig_scene.specs.declared.driver.Variable.TheVariants as variable
use Rattle.rig_scene.specs.declared.id.AnimId.{AnimId}
use Rattle.rig_scene.specs.declared.id.AnimId.TheVariants as anim
use Rattle.rig_scene.specs.declared.id.ObjectId.{ObjectId}
use Rattle.rig_scene.specs.declared.object.Object.{Object}
use Rattle.rig_scene.specs.declared.operation.OpId.{OpId}
use Rattle.rig_scene.specs.declared.operation.OpId.TheVariants.{Time, Animation, Driver, Local, World, PoseInit, Bone, PoseDone, Layer, Geometry, ModifierOp, GeometryDone}
use Rattle.rig_scene.specs.declared.path.Path.{Path}
use Rattle.rig_scene.specs.declared.path.Path.TheVariants as paths
use Rattle.rig_scene.specs.declared.pencil.BoneRef.{BoneRef}
use Rattle.rig_scene.specs.declared.pencil.Layer.{Layer as LayerRecord}
use Rattle.rig_scene.specs.declared.pencil.PencilData.{PencilData}
use Rattle.rig_scene.specs.Channel.{channels, channel_of}
use Rattle.rig_scene.specs.ChannelNumber.{action_of, number_among, animated_number, original_number, pose_of, pose_named}
use Rattle.rig_scene.specs.Drivers.{driver_of, driven_paths}
use Rattle.rig_scene.specs.Quantities.{modifiers_of}
use Rattle.rig_scene.specs.Scene.{SceneRecord, object_of, armature_of, pencil_of}
use Rattle.rig_scene.specs.WellFormed.{has_object, bones_of}
use Rattle.rig_laws.specs.Kernel.{bone_paths, layer_paths}
use Rattle.rig_scene.specs.WellFormed.{has_object, bones_of}
use Rattle.rig_laws.specs.Kernel.{bone_paths, layer_paths}
use Rattle.rig_edits.specs.Carried.{with_others}
use Rattle.rig_touch.specs.Agree.{SameCurves, SameVariable, Agree, layer_at, one_layer}
use Rattle.rig_touch.specs.NamesThere.{IdThere, ReadThere, NamesThere}

module _ (s : SceneRecord) (objects : List Object) (drivers : List DriverRecord) (next : ℕ) where
  abbrev changed : SceneRecord
  changed = with_others s objects drivers next

  -- the objects of a scene, and the drivers of its ids, are the same
  pub record SameOf (u : SceneRecord) : Type 0 where
    pub object : (o : ObjectId) → IsTrue (has_object u o) → object_of s o ≡ object_of changed o
    pub driver : (id : AnimId) → IdThere u id → (path : Path) → driver_of s id path ≡ driver_of changed id path

  module _ (u : SceneRecord) (same : SameOf u) where
    action_same : (id : AnimId) → IdThere u id → action_of s id ≡ action_of changed id
    action_same (anim.Object o) h = ap (option_and_then (λ (q : Object). option_and_then (slice_get s.actions) q.action)) (same.object o h)
    action_same (anim.Pencil p) h = refl

    animated_same : (id : AnimId) → IdThere u id → (numbers : List (Option ℤ)) (path : Path)
        → animated_number s (λ (other : AnimId). numbers) id path ≡ animated_number changed (λ (other : AnimId). numbers) id path
    unfolding animated_number
    animated_same id h numbers path = ap (option_and_then (λ (action : Action). number_among action numbers path)) (action_same id h)

    curves_same : (id : AnimId) → IdThere u id → SameCurves s changed id
    curves_same (anim.Object o) h = record {
      action = ap (λ r. is_some (option_and_then (λ (q : Object). q.action) r)) (same.object o h);
      curves = animated_same (anim.Object o) h;
    }
    curves_same (anim.Pencil p) h = record { action = refl; curves = animated_same (anim.Pencil p) tt }

    driven_same : (id : AnimId) → IdThere u id → (some : List Path) → driven_paths s id some ≡ driven_paths changed id some
    driven_same id h some = ap (λ test. filter test some) (fun_ext (λ path. ap is_some (same.driver id h path)))

    number_same : (id : AnimId) → IdThere u id → (path : Path) → original_number s id path ≡ original_number changed id path
    unfolding original_number
    number_same (anim.Object o) h (paths.Own channel) = ap (option_map (λ (q : Object). channel_of q.own channel)) (same.object o h)
    number_same (anim.Object o) h (paths.Bone bone channel) =
        ap (option_and_then (λ (q : Object). option_map (λ pose. channel_of pose channel) (pose_named s q.kind bone))) (same.object o h)
    number_same (anim.Object o) h (paths.Layer layer axis) = refl
    number_same (anim.Pencil p) h (paths.Own channel) = refl
    number_same (anim.Pencil p) h (paths.Bone bone channel) = refl
    number_same (anim.Pencil p) h (paths.Layer layer axis) = refl

    variable_same : (v : Variable) → ReadThere u v → SameVariable s changed v
    variable_same (variable.Property id path) h = (curves_same id h, number_same id h path, ap is_some (same.driver id h path))
    variable_same (variable.Transform object space channel) h = tt

    bones_same : (o : ObjectId) → IsTrue (has_object u o) → bones_of s o ≡ bones_of changed o
    bones_same o h =
        ap (option_and_then (λ (q : Object). option_map (λ (a : ArmatureData). a.bones) (armature_of s q.kind))) (same.object o h)

    -- the bone of an object, with its pose
    abbrev posed : ℕ → Object → Option (RestBone × Channels)
    posed b q =
        option_and_then (λ (a : ArmatureData). option_and_then
        (λ (bone : RestBone). option_map (λ (pose : Channels). (bone, pose)) (pose_of q.kind b))
        (slice_get a.bones b)) (armature_of s q.kind)

    abbrev hidden : Object → Option (List Bool)
    hidden q = option_map (λ (p : PencilData). map (λ (l : LayerRecord). l.hidden) p.layers) (pencil_of s q.kind)

    -- where a scene of the same pencils has what an operation names, both scenes have in common what its value is made of
    pub agree_others : (op : OpId) → u.pencils ≡ s.pencils
        → ((id : AnimId) → IdThere u id → (path : Path) → driver_of u id path ≡ driver_of s id path) → NamesThere u op → Agree s changed op
    agree_others Time pencils readers h = tt
    agree_others (Animation id) pencils readers h = action_same id h
    agree_others (Driver id path) pencils readers h = record {
      driver = same.driver id h.0 path;
      variables = subst (λ r. All (SameVariable s changed) (option_map_or (λ (d : DriverRecord). d.variables) r [])) (readers id h.0 path)
          (All-weaker (ReadThere u) (SameVariable s changed) variable_same (option_map_or (λ d. d.variables) (driver_of u id path) []) h.1);
    }
    agree_others (Local o) pencils readers h = record {
      own = ap (option_map (λ (q : Object). q.own)) (same.object o h);
      curves = curves_same (anim.Object o) h;
      driven = driven_same (anim.Object o) h (map paths.Own channels);
    }
    agree_others (World o) pencils readers h = ap (option_map (λ (q : Object). q.parent)) (same.object o h)
    agree_others (PoseInit o) pencils readers h = (ap is_some (same.object o h), curves_same (anim.Object o) h)
    agree_others (Bone o b) pencils readers h = record {
      posed = ap (option_and_then (posed b)) (same.object o h);
      curves = curves_same (anim.Object o) h;
      driven = λ bone e. driven_same (anim.Object o) h (bone_paths bone);
    }
    agree_others (PoseDone o) pencils readers h = ap is_some (same.object o h)
    agree_others (Layer p l) pencils readers h = record {
      there = refl;
      layers = one_layer s changed (layer_at s p l);
      drawing = λ frame. refl;
      curves = curves_same (anim.Pencil p) tt;
      driven = λ layer e. driven_same (anim.Pencil p) tt (layer_paths layer);
      bones = λ layer e. All-weaker (λ (b : BoneRef). IsTrue (has_object u b.object)) (λ b. bones_of s b.object ≡ bones_of changed b.object)
          (λ b. bones_same b.object) (option_map_or (λ bound. bound ∷ []) layer.bound [])
          (h layer (ap (λ ps. option_and_then (λ (pencil : PencilData). slice_get pencil.layers l) (slice_get ps p)) pencils ∙ e));
    }
    agree_others (Geometry o) pencils readers h = ap (option_and_then hidden) (same.object o h)
    agree_others (ModifierOp o zero) pencils readers h = refl
    agree_others (ModifierOp o (suc i)) pencils readers h =
        ap (option_and_then (λ (q : Object). slice_get (modifiers_of q.kind) i)) (same.object o h)
    agree_others (GeometryDone o) pencils readers h = ap is_some (same.object o h)

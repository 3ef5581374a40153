-- A scene with other drivers: what an operation with equal in-links has in common with the scene before.
use Rattle.std.specs.Prelude.{◌≡◌, ℕ, zero, suc, ◌≤◌, List, [], ◌∷◌, ◌++◌, length, map, slice_get, true, Option, None, Some, option_and_then, option_map, All}
use Rattle.std.specs.Option.{option_map_or}
use Rattle.std.specs.List.{flat_map}
use Rattle.std.proofs.Common.{refl, sym, ap, ◌∙◌, subst, arith}
use Rattle.std.proofs.lemmas.List.{append_cancel_left}
use Rattle.std.proofs.lemmas.List.Elements.{All-nil, All-weaker}
use Rattle.std.proofs.lemmas.Option.{same_Some}
use Rattle.rig_scene.specs.declared.armature.RestBone.{RestBone}
use Rattle.rig_scene.specs.declared.armature.ArmatureData.{ArmatureData}
use Rattle.rig_scene.specs.declared.channel.Channels.{Channels}
use Rattle.rig_scene.specs.declared.driver.Driver.{Driver as DriverRecord}
use Rattle.rig_scene.specs.declared.driver.Variable.{Variable}
use Rattle.rig_scene.specs.declared.driver.Variable.TheVariants as variable
use Rattle.rig_scene.specs.declared.id.AnimId.{AnimId}
use Rattle.rig_scene.specs.declared.id.AnimId.TheVariants as anim
use Rattle.rig_scene.specs.declared.id.ObjectId.{ObjectId}
use Rattle.rig_scene.specs.declared.object.Kind.{Kind}
use Rattle.rig_scene.specs.declared.object.Object.{Object}
use Rattle.rig_scene.specs.declared.operation.OpId.{OpId}
use Rattle.rig_scene.specs.declared.operation.OpId.TheVariants.{Time, Animation, Driver, Local, World, PoseInit, Bone, PoseDone, Layer, Geometry, ModifierOp, GeometryDone}
use Rattle.rig_scene.specs.declared.path.Path.{Path}
use Rattle.rig_scene.specs.declared.path.Path.TheVariants as paths
use Rattle.rig_scene.specs.declared.pencil.BoneRef.{BoneRef}
use Rattle.rig_scene.specs.declared.pencil.Layer.{Layer as LayerRecord}
use Rattle.rig_scene.specs.declared.quantity.Quantity.{Quantity}
use Rattle.rig_scene.specs.declared.quantity.Quantity.TheVariants as quantity
use Rattle.rig_scene.specs.declared.quantity.Read.{Read}
use Rattle.rig_scene.specs.Channel.{channels}
use Rattle.rig_scene.specs.ChannelNumber.{pose_of, animated_number}
use Rattle.rig_scene.specs.Drivers.{driver_of, is_driven, driven_paths}
use Rattle.rig_scene.specs.Operations.{kept_link, link_of, links_of, variable_links, layer_time, animation_of, ins}
use Rattle.rig_scene.specs.Quantities.{inner_read, reference_read}
use Rattle.rig_scene.specs.Scene.{SceneRecord, object_of, armature_of}
use Rattle.rig_scene.specs.WellFormed.{bones_of}
use Rattle.rig_laws.specs.Lists.{All-one, All-of_any}
use Rattle.rig_laws.specs.Kernel.{bone_paths, layer_paths}
use Rattle.rig_touch.specs.Agree.{posed_bone, layer_at, SameCurves, SameVariable, SameDriver, Agree}
use Rattle.rig_laws.specs.Kernel.{bone_paths, layer_paths}
use Rattle.rig_touch.specs.Agree.{posed_bone, layer_at, SameCurves, SameVariable, SameDriver, Agree, one_layer, other_original}
use Rattle.rig_touch.specs.SameDriven.{each_same, link_paths, driven_among, driven_before, driven_same, links_few}

-- what is driven in the one scene is driven in the other
abbrev pub MoreDriven : SceneRecord → SceneRecord → Type 0
MoreDriven t u = (id : AnimId) (path : Path) → is_driven t id path ≡ true → is_driven u id path ≡ true

-- ---- a scene with other drivers

module _ (s : SceneRecord) (ds : List DriverRecord) where
  abbrev pub with_drivers : SceneRecord
  with_drivers = record s { drivers = ds }

  other_curves : (id : AnimId) → SameCurves s with_drivers id
  unfolding animated_number
  other_curves (anim.Object o) = record { action = refl; curves = λ numbers path. refl }
  other_curves (anim.Pencil p) = record { action = refl; curves = λ numbers path. refl }

  -- ---- transforms and layers

  local_driven : (o : ObjectId) → ins s (Local o) ≡ ins with_drivers (Local o)
      → driven_paths s (anim.Object o) (map paths.Own channels) ≡ driven_paths with_drivers (anim.Object o) (map paths.Own channels)
  unfolding ins
  local_driven o links =
      let id = anim.Object o in
      let e = append_cancel_left (map kept_link (animation_of s id)) (links_of s (quantity.Local o))
      (links_of with_drivers (quantity.Local o)) links in
      sym (driven_among s (quantity.Local o) id (driven_paths s id (map paths.Own channels))) ∙ ap (flat_map link_paths) e
      ∙ driven_among with_drivers (quantity.Local o) id (driven_paths with_drivers id (map paths.Own channels))

  -- the driven channels of what a quantity reads, where drivers' numbers stand before all else that it reads
  links_driven : {A : Type 0} (q : Quantity) (id : AnimId) (paths_of : A → List Path) (others : A → List Read)
      → ((u : SceneRecord) (y : A) → All (λ r. link_paths (link_of u q r) ≡ []) (others y))
      → (x : A) (read : Option A) → read ≡ Some x
      → map (link_of s q) (option_map_or (λ y. map (λ p. inner_read (quantity.Chan id p)) (driven_paths s id (paths_of y)) ++ others y) read [])
      ≡ map (link_of with_drivers q)
      (option_map_or (λ y. map (λ p. inner_read (quantity.Chan id p)) (driven_paths with_drivers id (paths_of y)) ++ others y) read [])
      → driven_paths s id (paths_of x) ≡ driven_paths with_drivers id (paths_of x)
  links_driven q id paths_of others none x None found links = cc
  links_driven q id paths_of others none x (Some y) found links =
      subst (λ z. driven_paths s id (paths_of z) ≡ driven_paths with_drivers id (paths_of z)) (same_Some y x found)
      (sym (driven_before s q id (driven_paths s id (paths_of y)) (others y) (none s y)) ∙ ap (flat_map link_paths) links
      ∙ driven_before with_drivers q id (driven_paths with_drivers id (paths_of y)) (others y) (none with_drivers y))

  -- a posed bone is one of its object's bones
  posed_is_bone : (o : ObjectId) (b : ℕ) (bone : RestBone) → option_map (λ posed. posed.0) (posed_bone s o b) ≡ Some bone
      → option_and_then (λ bones. slice_get bones b) (bones_of s o) ≡ Some bone
  posed_is_bone o b bone e = by (object_of s o) e
    where
      by_pose : (x : RestBone) (pose : Option Channels)
          → option_map (λ (posed : RestBone × Channels). posed.0) (option_map (λ pose. (x, pose)) pose) ≡ Some bone → Some x ≡ Some bone
      by_pose x None e = cc
      by_pose x (Some pose) e = e

      by_bone : (kind : Kind) (x : Option RestBone)
          → option_map (λ (posed : RestBone × Channels). posed.0)
          (option_and_then (λ bone. option_map (λ pose. (bone, pose)) (pose_of kind b)) x) ≡ Some bone → x ≡ Some bone
      by_bone kind None e = cc
      by_bone kind (Some x) e = by_pose x (pose_of kind b) e

      by_armature : (kind : Kind) (a : Option ArmatureData)
          → option_map (λ (posed : RestBone × Channels). posed.0)
          (option_and_then (λ a. option_and_then (λ bone. option_map (λ pose. (bone, pose)) (pose_of kind b)) (slice_get a.bones b)) a)
          ≡ Some bone
          → option_and_then (λ bones. slice_get bones b) (option_map (λ a. a.bones) a) ≡ Some bone
      by_armature kind None e = cc
      by_armature kind (Some a) e = by_bone kind (slice_get a.bones b) e

      by : (object : Option Object)
          → option_map (λ (posed : RestBone × Channels). posed.0)
          (option_and_then (λ object. option_and_then
          (λ a. option_and_then (λ bone. option_map (λ pose. (bone, pose)) (pose_of object.kind b)) (slice_get a.bones b))
          (armature_of s object.kind)) object) ≡ Some bone
          → option_and_then (λ bones. slice_get bones b)
          (option_and_then (λ o. option_map (λ a. a.bones) (armature_of s o.kind)) object) ≡ Some bone
      by None e = cc
      by (Some object) e = by_armature object.kind (armature_of s object.kind) e

  bone_driven : (o : ObjectId) (b : ℕ) → ins s (Bone o b) ≡ ins with_drivers (Bone o b)
      → (bone : RestBone) → option_map (λ posed. posed.0) (posed_bone s o b) ≡ Some bone
      → driven_paths s (anim.Object o) (bone_paths bone) ≡ driven_paths with_drivers (anim.Object o) (bone_paths bone)
  unfolding ins
  bone_driven o b links bone found =
      links_driven q (anim.Object o) bone_paths others (λ u y. none u y.parent) bone (option_and_then (λ bones. slice_get bones b) (bones_of s o))
      (posed_is_bone o b bone found) (append_cancel_left (kept_link (PoseInit o) ∷ []) (links_of s q) (links_of with_drivers q) links)
    where
      q : Quantity
      q = quantity.Bone o b

      others : RestBone → List Read
      others y = option_map_or (λ b. inner_read (quantity.Bone o b) ∷ []) y.parent []

      none : (u : SceneRecord) (parent : Option ℕ)
          → All (λ r. link_paths (link_of u q r) ≡ []) (option_map_or (λ b. inner_read (quantity.Bone o b) ∷ []) parent [])
      none u None = All-nil (λ r. link_paths (link_of u q r) ≡ [])
      none u (Some b) = All-one (λ r. link_paths (link_of u q r) ≡ []) (inner_read (quantity.Bone o b)) refl

  layer_driven : (p l : ℕ) → ins s (Layer p l) ≡ ins with_drivers (Layer p l) → (layer : LayerRecord) → layer_at s p l ≡ Some layer
      → driven_paths s (anim.Pencil p) (layer_paths layer) ≡ driven_paths with_drivers (anim.Pencil p) (layer_paths layer)
  unfolding ins
  layer_driven p l links layer found =
      links_driven q (anim.Pencil p) layer_paths others (λ u y. none u y.bound) layer (layer_at s p l) found
      (append_cancel_left (layer_time s p l ++ map kept_link (animation_of s (anim.Pencil p))) (links_of s q) (links_of with_drivers q) links)
    where
      q : Quantity
      q = quantity.Layer p l

      others : LayerRecord → List Read
      others y = option_map_or (λ (b : BoneRef). reference_read (quantity.Bone b.object b.bone) ∷ []) y.bound []

      none : (u : SceneRecord) (bound : Option BoneRef)
          → All (λ r. link_paths (link_of u q r) ≡ []) (option_map_or (λ (b : BoneRef). reference_read (quantity.Bone b.object b.bone) ∷ []) bound [])
      none u None = All-nil (λ r. link_paths (link_of u q r) ≡ [])
      none u (Some b) = All-one (λ r. link_paths (link_of u q r) ≡ []) (reference_read (quantity.Bone b.object b.bone)) refl

  -- ---- drivers

  -- the links of each variable are the same
  abbrev SameLinks : Quantity → Variable → Type 0
  SameLinks q v = variable_links s q v ≡ variable_links with_drivers q v

  more_links : (q : Quantity) → MoreDriven s with_drivers → (v : Variable)
      → length (variable_links s q v) ≤ length (variable_links with_drivers q v)
  more_links q more (variable.Property id path) = links_few id path (is_driven s id path) (is_driven with_drivers id path) _ _ _
      (more id path)
  more_links q more (variable.Transform o space channel) = omega arith

  fewer_links : (q : Quantity) → MoreDriven with_drivers s → (v : Variable)
      → length (variable_links with_drivers q v) ≤ length (variable_links s q v)
  fewer_links q fewer (variable.Property id path) = links_few id path (is_driven with_drivers id path) (is_driven s id path) _ _ _
      (fewer id path)
  fewer_links q fewer (variable.Transform o space channel) = omega arith

  same_variable : (q : Quantity) (v : Variable) → SameLinks q v → SameVariable s with_drivers v
  same_variable q (variable.Property id path) e =
      (other_curves id, other_original s s.actions ds id path, driven_same id path (is_driven s id path) (is_driven with_drivers id path) _ _ _ e)
  same_variable q (variable.Transform o space channel) e = tt

  same_driver : (id : AnimId) (path : Path) → driver_of s id path ≡ driver_of with_drivers id path
      → ((q : Quantity) (vs : List Variable) → flat_map (variable_links s q) vs ≡ flat_map (variable_links with_drivers q) vs
      → All (SameLinks q) vs)
      → ins s (Driver id path) ≡ ins with_drivers (Driver id path) → SameDriver s with_drivers id path
  unfolding ins
  same_driver id path same each links = record {
    driver = same;
    variables = by (driver_of s id path)
        (subst (λ r. ins s (Driver id path) ≡ option_map_or (λ d. flat_map (variable_links with_drivers q) d.variables) r [])
        (sym same) links);
  }
    where
      q : Quantity
      q = quantity.Chan id path

      by : (r : Option DriverRecord)
          → option_map_or (λ d. flat_map (variable_links s q) d.variables) r []
          ≡ option_map_or (λ d. flat_map (variable_links with_drivers q) d.variables) r []
          → All (SameVariable s with_drivers) (option_map_or (λ d. d.variables) r [])
      by None e = All-nil (SameVariable s with_drivers)
      by (Some d) e = All-weaker (SameLinks q) (SameVariable s with_drivers) (same_variable q) d.variables (each q d.variables e)

  -- ---- every operation

  agree_by : (op : OpId) → ((id : AnimId) (path : Path) → op ≡ Driver id path → driver_of s id path ≡ driver_of with_drivers id path)
      → ((q : Quantity) (vs : List Variable) → flat_map (variable_links s q) vs ≡ flat_map (variable_links with_drivers q) vs
      → All (SameLinks q) vs)
      → ins s op ≡ ins with_drivers op → Agree s with_drivers op
  agree_by Time same each links = tt
  agree_by (Animation (anim.Object o)) same each links = refl
  agree_by (Animation (anim.Pencil p)) same each links = refl
  agree_by (Driver id path) same each links = same_driver id path (same id path refl) each links
  agree_by (Local o) same each links = record { own = refl; curves = other_curves (anim.Object o); driven = local_driven o links }
  agree_by (World o) same each links = refl
  agree_by (PoseInit o) same each links = (refl, other_curves (anim.Object o))
  agree_by (Bone o b) same each links = record { posed = refl; curves = other_curves (anim.Object o); driven = bone_driven o b links }
  agree_by (PoseDone o) same each links = refl
  agree_by (Layer p l) same each links = record {
    there = refl;
    layers = one_layer s with_drivers (layer_at s p l);
    drawing = λ frame. refl;
    curves = other_curves (anim.Pencil p);
    driven = layer_driven p l links;
    bones = λ layer e. All-of_any (λ (b : BoneRef). bones_of s b.object ≡ bones_of with_drivers b.object)
        (option_map_or (λ b. b ∷ []) layer.bound []) (λ b. refl);
  }
  agree_by (Geometry o) same each links = refl
  agree_by (ModifierOp o zero) same each links = refl
  agree_by (ModifierOp o (suc i)) same each links = refl
  agree_by (GeometryDone o) same each links = refl

  -- where no channel is driven no longer
  pub agree_more : MoreDriven s with_drivers → (op : OpId)
      → ((id : AnimId) (path : Path) → op ≡ Driver id path → driver_of s id path ≡ driver_of with_drivers id path)
      → ins s op ≡ ins with_drivers op → Agree s with_drivers op
  agree_more more op same links =
      agree_by op same (λ q vs e. each_same (variable_links s q) (variable_links with_drivers q) (more_links q more) vs e) links

  -- where no other channel is driven
  pub agree_fewer : MoreDriven with_drivers s → (op : OpId)
      → ((id : AnimId) (path : Path) → op ≡ Driver id path → driver_of s id path ≡ driver_of with_drivers id path)
      → ins s op ≡ ins with_drivers op → Agree s with_drivers op
  agree_fewer fewer op same links =
      agree_by op same
      (λ q vs e. All-weaker (λ v. variable_links with_drivers q v ≡ variable_links s q v) (SameLinks q) (λ v h. sym h) vs
      (each_same (variable_links with_drivers q) (variable_links s q) (fewer_links q fewer) vs (sym e))) links

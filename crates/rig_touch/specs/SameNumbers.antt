-- Numbers of channels, drivers, local transforms and bones that two scenes have in common.
use Rattle.std.specs.Prelude.{◌≡◌, ℕ, List, [], ◌∷◌, length, map, drop, slice_get, Bool, true, false, if◌then◌else◌, Option, None, Some, is_some, option_map, option_and_then, unwrap_or, ℤ, pos, All}
use Rattle.std.specs.Option.{option_map_or}
use Rattle.std.specs.List.{position}
use Rattle.std.proofs.Common.{refl, sym, ap, ◌∙◌, subst, cond}
use Rattle.std.proofs.lemmas.List.Elements.{All-head, All-tail}
use Rattle.rig_scene.specs.declared.armature.ArmatureData.{ArmatureData}
use Rattle.rig_scene.specs.declared.armature.RestBone.{RestBone}
use Rattle.rig_scene.specs.declared.channel.Axis.{Axis}
use Rattle.rig_scene.specs.declared.channel.Channel.{Channel}
use Rattle.rig_scene.specs.declared.channel.Channels.{Channels}
use Rattle.rig_scene.specs.declared.driver.Driver.{Driver as DriverRecord}
use Rattle.rig_scene.specs.declared.driver.Variable.{Variable}
use Rattle.rig_scene.specs.declared.driver.Variable.TheVariants as variable
use Rattle.rig_scene.specs.declared.id.AnimId.{AnimId}
use Rattle.rig_scene.specs.declared.id.AnimId.TheVariants as anim
use Rattle.rig_scene.specs.declared.id.ObjectId.{ObjectId}
use Rattle.rig_scene.specs.declared.modifier.Mode.{Mode}
use Rattle.rig_scene.specs.declared.object.Kind.{Kind}
use Rattle.rig_scene.specs.declared.object.Object.{Object}
use Rattle.rig_scene.specs.declared.object.Parent.{Parent}
use Rattle.rig_scene.specs.declared.operation.OpId.TheVariants.{Animation, Driver, Local, World, Bone}
use Rattle.rig_scene.specs.declared.path.Path.{Path}
use Rattle.rig_scene.specs.declared.path.Path.TheVariants as paths
use Rattle.rig_scene.specs.declared.quantity.Quantity.{Quantity}
use Rattle.rig_scene.specs.declared.quantity.Quantity.TheVariants as quantity
use Rattle.rig_scene.specs.Channel.{channels, channel_of, channels_by, v3_by}
use Rattle.rig_scene.specs.ChannelNumber.{pose_of, number_by}
use Rattle.rig_scene.specs.Combine.{driver_value}
use Rattle.rig_scene.specs.Drivers.{driver_of, driven_paths}
use Rattle.rig_scene.specs.Operations.{InLink, kept_link, variable_links}
use Rattle.rig_scene.specs.Path.{same_path}
use Rattle.rig_scene.specs.Pose.{transform_of, carried_by, bone_transform}
use Rattle.rig_scene.specs.Scene.{SceneRecord, object_of, armature_of}
use Rattle.rig_scene.specs.Value.{Value, Number, Transform}
use Rattle.rig_laws.specs.FoundObject.{found_id}
use Rattle.rig_laws.specs.Kernel.{kernel, curve_numbers, after_animation, channel_number, variable_number, variable_numbers, driver_number, local_transform, parent_transform, world_transform, bone_paths, pose_transform, bone_output}
use Rattle.rig_laws.specs.Output.{Output, numbers_at, number_at, transform_at}
use Rattle.rig_touch.specs.Agree.{posed_bone, SameCurves, SameVariable, SameDriver, SameLocal, SameBone}

-- ---- options

-- one function after another
pub map_map : {A B C : Type 0} (f : A → B) (g : B → C) (o : Option A) → option_map (λ x. g (f x)) o ≡ option_map g (option_map f o)
map_map f g None = refl
map_map f g (Some x) = refl

pub map_then : {A B C : Type 0} (f : A → Option B) (g : B → C) (o : Option A)
    → option_and_then (λ x. option_map g (f x)) o ≡ option_map g (option_and_then f o)
map_then f g None = refl
map_then f g (Some x) = refl

pub none_then : {A B : Type 0} (f : A → Option B) → ((x : A) → f x ≡ None) → (o : Option A) → option_and_then f o ≡ None
none_then f h None = refl
none_then f h (Some x) = h x

-- functions that agree at what is there
pub map_where : {A B : Type 0} (f g : A → B) (o : Option A) → ((x : A) → o ≡ Some x → f x ≡ g x) → option_map f o ≡ option_map g o
map_where f g None h = refl
map_where f g (Some x) h = ap Some (h x refl)

-- where only that something is there counts
pub map_there : {A B C : Type 0} (a b : C) (x : Option A) (y : Option B) → is_some x ≡ is_some y → a ≡ b
    → option_map (λ _. a) x ≡ option_map (λ _. b) y
map_there a b None None there same = refl
map_there a b None (Some y) there same = cc
map_there a b (Some x) None there same = cc
map_there a b (Some x) (Some y) there same = ap Some same

-- ---- channels

module _ (s t : SceneRecord) where
  module _ (id : AnimId) (curves : SameCurves s t id) where
    pub same_curve_numbers : (inputs : List Output) → curve_numbers s id inputs ≡ curve_numbers t id inputs
    same_curve_numbers inputs = λ i. if curves.action i then numbers_at inputs 0 else []

    pub same_after_animation : (inputs : List Output) → after_animation s id inputs ≡ after_animation t id inputs
    same_after_animation inputs = λ i. drop (length (if curves.action i then Animation id ∷ [] else [])) inputs

    module _ (among : List Path) (driven : driven_paths s id among ≡ driven_paths t id among) where
      pub same_channel : (numbers others : List (Option ℤ)) → numbers ≡ others → (inputs rest : List Output) → inputs ≡ rest
          → (path : Path) (original : ℤ) → channel_number s id numbers among inputs path original
          ≡ channel_number t id others among rest path original
      same_channel numbers others n inputs rest r path original =
          λ i. number_by (option_map (number_at (r i)) (position (same_path path) (driven i))) (curves.curves (n i) path i) original

  -- ---- drivers

  links_count : (driven animated : Bool) (link : InLink) (id : AnimId)
      → length (if driven then link ∷ [] else map kept_link (if animated then Animation id ∷ [] else []))
      ≡ cond driven 1 (cond animated 1 0)
  links_count true animated link id = refl
  links_count false true link id = refl
  links_count false false link id = refl

  same_variable_count : (reader : Quantity) (v : Variable) → SameVariable s t v
      → length (variable_links s reader v) ≡ length (variable_links t reader v)
  same_variable_count reader (variable.Property id path) same =
      links_count _ _ _ id ∙ (λ i. cond (same.2 i) 1 (cond (same.0.action i) 1 0)) ∙ sym (links_count _ _ _ id)
  same_variable_count reader (variable.Transform o space channel) same = refl

  same_variable : (v : Variable) → SameVariable s t v → (inputs : List Output) → variable_number s v inputs ≡ variable_number t v inputs
  same_variable (variable.Property id path) same inputs =
      let driven = map_there (number_at inputs 0) (number_at inputs 0) (driver_of s id path) (driver_of t id path) same.2 refl in
      λ i. number_by (driven i) (same.0.curves (numbers_at inputs 0) path i) (unwrap_or (same.1 i) (pos 0))
  same_variable (variable.Transform o space channel) same inputs = refl

  same_variables : (reader : Quantity) (vs : List Variable) → All (SameVariable s t) vs → (inputs : List Output)
      → variable_numbers s reader vs inputs ≡ variable_numbers t reader vs inputs
  same_variables reader [] all inputs = refl
  same_variables reader (v ∷ vs) all inputs =
      let same = All-head (SameVariable s t) v vs all in
      let first = same_variable v same inputs in
      let rest = same_variables reader vs (All-tail (SameVariable s t) v vs all) in
      let count = same_variable_count reader v same in
      λ i. first i ∷ rest (drop (count i) inputs) i

  same_driver_number : (d : DriverRecord) → All (SameVariable s t) d.variables → (inputs : List Output)
      → driver_number s d inputs ≡ driver_number t d inputs
  unfolding driver_number
  same_driver_number d all inputs = ap (driver_value d) (same_variables (quantity.Chan d.id d.path) d.variables all inputs)

  pub same_driver : (id : AnimId) (path : Path) → SameDriver s t id path → (mode : Mode) (frame : ℤ) (inputs : List Output)
      → kernel s mode frame (Driver id path) inputs ≡ kernel t mode frame (Driver id path) inputs
  unfolding kernel
  same_driver id path same mode frame inputs =
      map_where (λ d. Number (driver_number s d inputs)) (λ d. Number (driver_number t d inputs)) (driver_of s id path)
      (λ d e. ap Number (same_driver_number d (subst
      (λ r. All (SameVariable s t) (option_map_or (λ d. d.variables) r [])) e same.variables) inputs))
      ∙ ap (option_map (λ d. Number (driver_number t d inputs))) same.driver

  -- ---- transforms

  eight_same : (f g : Channel → ℤ) → ((c : Channel) → f c ≡ g c) → channels_by f ≡ channels_by g
  eight_same f g h = λ i. channels_by (λ c. h c i)

  three_same : (f g : Axis → ℤ) → ((a : Axis) → f a ≡ g a) → v3_by f ≡ v3_by g
  three_same f g h = λ i. v3_by (λ a. h a i)

-- the transform of an id with its own channels
abbrev local_by : SceneRecord → List Output → ObjectId → Channels → Value
local_by s inputs o own =
    Transform (transform_of (channels_by (λ channel.
    channel_number s (anim.Object o) (curve_numbers s (anim.Object o) inputs) (map paths.Own channels)
    (after_animation s (anim.Object o) inputs) (paths.Own channel) (channel_of own channel))))

local_is : (s : SceneRecord) (o : ObjectId) (inputs : List Output) (found : Option Object) → object_of s o ≡ found
    → option_map (λ object. Transform (local_transform s object inputs)) found
    ≡ option_map (local_by s inputs o) (option_map (λ object. object.own) found)
unfolding local_transform
local_is s o inputs None e = refl
local_is s o inputs (Some object) e = ap (λ id. Some (local_by s inputs id object.own)) (found_id s o object e)

module _ (s t : SceneRecord) where
  pub same_local : (o : ObjectId) → SameLocal s t o → (mode : Mode) (frame : ℤ) (inputs : List Output)
      → kernel s mode frame (Local o) inputs ≡ kernel t mode frame (Local o) inputs
  unfolding kernel
  same_local o same mode frame inputs =
      let id = anim.Object o in
      let each = λ (own : Channels) (c : Channel). same_channel s t id same.curves (map paths.Own channels) same.driven
      (curve_numbers s id inputs) (curve_numbers t id inputs) (same_curve_numbers s t id same.curves inputs)
      (after_animation s id inputs) (after_animation t id inputs) (same_after_animation s t id same.curves inputs) (paths.Own c)
      (channel_of own c) in
      local_is s o inputs (object_of s o) refl
      ∙ (λ i. option_map (λ own. Transform (transform_of (channels_by (λ c. each own c i)))) (same.own i))
      ∙ sym (local_is t o inputs (object_of t o) refl)

  pub same_world : (o : ObjectId) → option_map (λ object. object.parent) (object_of s o)
      ≡ option_map (λ object. object.parent) (object_of t o)
      → (mode : Mode) (frame : ℤ) (inputs : List Output) → kernel s mode frame (World o) inputs ≡ kernel t mode frame (World o) inputs
  unfolding kernel world_transform
  same_world o same mode frame inputs =
      let by = λ (parent : Option Parent). Transform
      (carried_by (option_map (λ p. parent_transform p (drop 1 inputs)) parent) (transform_at inputs 0)) in
      map_map (λ object. object.parent) by (object_of s o) ∙ ap (option_map by) same
      ∙ sym (map_map (λ object. object.parent) by (object_of t o))

-- a posed bone in the armature's space
abbrev bone_by : SceneRecord → ObjectId → List Output → (RestBone × Channels) → Value
bone_by s o inputs posed = Transform (pose_transform s o posed.0 posed.1 inputs)

bone_is : (s : SceneRecord) (o : ObjectId) (b : ℕ) (inputs : List Output)
    → option_and_then (λ object. bone_output s o b object.kind inputs) (object_of s o) ≡ option_map (bone_by s o inputs) (posed_bone s o b)
bone_is s o b inputs = by (object_of s o)
  where
    by_bone : (kind : Kind) (r : Option RestBone)
        → option_and_then (λ bone. option_map (λ pose. Transform (pose_transform s o bone pose inputs)) (pose_of kind b)) r
        ≡ option_map (bone_by s o inputs) (option_and_then (λ bone. option_map (λ pose. (bone, pose)) (pose_of kind b)) r)
    by_bone kind None = refl
    by_bone kind (Some bone) = map_map (λ pose. (bone, pose)) (bone_by s o inputs) (pose_of kind b)

    by_armature : (kind : Kind) (r : Option ArmatureData)
        → option_and_then (λ a. option_and_then (λ bone. option_map (λ pose. Transform (pose_transform s o bone pose inputs))
        (pose_of kind b)) (slice_get a.bones b)) r
        ≡ option_map (bone_by s o inputs) (option_and_then
        (λ a. option_and_then (λ bone. option_map (λ pose. (bone, pose)) (pose_of kind b)) (slice_get a.bones b)) r)
    by_armature kind None = refl
    by_armature kind (Some a) = by_bone kind (slice_get a.bones b)

    by : (r : Option Object) → option_and_then (λ object. bone_output s o b object.kind inputs) r
        ≡ option_map (bone_by s o inputs)
        (option_and_then (λ object. option_and_then
        (λ a. option_and_then (λ bone. option_map (λ pose. (bone, pose)) (pose_of object.kind b)) (slice_get a.bones b))
        (armature_of s object.kind)) r)
    by None = refl
    by (Some object) = by_armature object.kind (armature_of s object.kind)

module _ (s t : SceneRecord) where
  same_pose : (o : ObjectId) (bone : RestBone) (pose : Channels) → SameCurves s t (anim.Object o)
      → driven_paths s (anim.Object o) (bone_paths bone) ≡ driven_paths t (anim.Object o) (bone_paths bone)
      → (inputs : List Output) → pose_transform s o bone pose inputs ≡ pose_transform t o bone pose inputs
  unfolding pose_transform
  same_pose o bone pose curves driven inputs =
      let each = λ (c : Channel). same_channel s t (anim.Object o) curves (bone_paths bone) driven (numbers_at inputs 0)
      (numbers_at inputs 0) refl
      (drop 1 inputs) (drop 1 inputs) refl (paths.Bone bone.name c) (channel_of pose c) in
      λ i. bone_transform (option_map (λ parent. transform_at (drop 1 inputs) (length (driven i))) bone.parent) bone.rest
      (channels_by (λ c. each c i))

  pub same_bone : (o : ObjectId) (b : ℕ) → SameBone s t o b → (mode : Mode) (frame : ℤ) (inputs : List Output)
      → kernel s mode frame (Bone o b) inputs ≡ kernel t mode frame (Bone o b) inputs
  unfolding kernel
  same_bone o b same mode frame inputs =
      bone_is s o b inputs
      ∙ map_where (bone_by s o inputs) (bone_by t o inputs) (posed_bone s o b)
      (λ posed e. ap Transform (same_pose o posed.0 posed.1 same.curves (same.driven posed.0 (ap (option_map (λ p. p.0)) e)) inputs))
      ∙ ap (option_map (bone_by t o inputs)) same.posed
      ∙ sym (bone_is t o b inputs)

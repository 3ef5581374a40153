-- The links of each operation of a scene are those that its records say.
use Rattle.std.proofs.Common.{◌≡◌, ℕ, zero, suc, ◌+◌, List, [], ◌∷◌, ◌++◌, map, length, slice_get, filter, Bool, true, false, cond, Option, Some, None, refl, sym, ap, subst, add-one, ◌∙◌, if◌then◌else◌}
use Rattle.std.specs.Prelude.{option_and_then}
use Rattle.std.specs.Option.{option_map, option_map_or}
use Rattle.std.specs.List.{flat_map, range_with_len}
use Rattle.std.proofs.lemmas.List.{append-nil, append_assoc, map-append}
use Rattle.std.proofs.lemmas.Option.{same_Some}
use Rattle.std.proofs.lemmas.Simd.{map-map}
use Rattle.rig_cut.specs.declared.links.Link.{Link}
use Rattle.rig_cycles.specs.Cut.{Arrow}
use Rattle.rig_scene.specs.declared.armature.RestBone.{RestBone}
use Rattle.rig_scene.specs.declared.driver.Driver.{Driver as DriverRecord}
use Rattle.rig_scene.specs.declared.driver.Variable.{Variable}
use Rattle.rig_scene.specs.declared.driver.Variable.TheVariants.{Property, Transform}
use Rattle.rig_scene.specs.declared.id.AnimId.{AnimId}
use Rattle.rig_scene.specs.declared.id.AnimId.TheVariants as anim
use Rattle.rig_scene.specs.declared.id.ObjectId.{ObjectId}
use Rattle.rig_scene.specs.declared.modifier.Effect.{Effect}
use Rattle.rig_scene.specs.declared.modifier.Effect.TheVariants.{Offset, Mirror, Array}
use Rattle.rig_scene.specs.declared.modifier.Modifier.{Modifier}
use Rattle.rig_scene.specs.declared.object.Kind.{Kind}
use Rattle.rig_scene.specs.declared.object.Kind.TheVariants as kind
use Rattle.rig_scene.specs.declared.object.Object.{Object}
use Rattle.rig_scene.specs.declared.object.Parent.{Parent}
use Rattle.rig_scene.specs.declared.operation.OpId.{OpId}
use Rattle.rig_scene.specs.declared.operation.OpId.TheVariants.{Time, Animation, Driver, Local, World, PoseInit, Bone, PoseDone, Layer, Geometry, ModifierOp, GeometryDone}
use Rattle.rig_scene.specs.declared.path.Path.{Path}
use Rattle.rig_scene.specs.declared.path.Path.TheVariants as path
use Rattle.rig_scene.specs.declared.pencil.BoneRef.{BoneRef}
use Rattle.rig_scene.specs.declared.pencil.Layer.{Layer as LayerRecord}
use Rattle.rig_scene.specs.declared.pencil.PencilData.{PencilData}
use Rattle.rig_scene.specs.declared.quantity.Quantity.TheVariants as quantity
use Rattle.rig_scene.specs.declared.quantity.Read.{Read}
use Rattle.rig_scene.specs.Channel.{channels, axes}
use Rattle.rig_scene.specs.Drivers.{driver_of, is_driven, has_action}
use Rattle.rig_scene.specs.Operations.{animation_of, operation_of, last_geometry}
use Rattle.rig_scene.specs.Quantities.{reads, driven_reads, parent_reads, bone_reads, layer_reads, effect_reads, geometry_reads, modifiers_of, inner_read, reference_read}
use Rattle.rig_scene.specs.Scene.{SceneRecord, object_of}
use Rattle.rig_scene.specs.WellFormed.{bones_of, pose_count}
use Rattle.rig_laws.specs.FoundObject.{found_id}
use Rattle.rig_laws.specs.InStep.{read_link}
use Rattle.rig_laws.specs.LinkArrows.{inner_link, variable_arrows, time_arrows, bone_arrows, link_arrows}
use Rattle.rig_laws.specs.Members.{has_operation}
use Rattle.rig_links.specs.Numbers.{number_of, link_to, numbered_links}
use Rattle.rig_links.proofs.Pushed.{both}
use Rattle.rig_links.specs.Parts.{inner, reference, if_there, driven, of_variable, of_parent, of_local, of_world, of_bone, of_bones, of_keys, of_layer, of_geometry, of_effect, of_modifier}

module _ (s : SceneRecord) where
  -- arrows as links to the operation of a number
  abbrev to_links : ℕ → List (Arrow OpId) → List Link
  to_links n arrows = map (λ a. link_to s n a.is_reference a.source) arrows

  -- reads of a quantity as links
  abbrev link_read : ℕ → Read → Link
  link_read n r = link_to s n r.reference (operation_of r.source)

  to_reads : (n : ℕ) (op : OpId) (rs : List Read) → to_links n (map (read_link op) rs) ≡ map (link_read n) rs
  to_reads n op rs = map-map (λ (a : Arrow OpId). link_to s n a.is_reference a.source) (read_link op) rs

  to_animation : (n : ℕ) (op : OpId) (id : AnimId) → to_links n (map (inner_link op) (animation_of s id)) ≡ if_there s n (Animation id)
  to_animation n op id = by (has_action s id)
    where
      by : (b : Bool) → to_links n (map (inner_link op) (if b then Animation id ∷ [] else [])) ≡ (if b then inner s n (Animation id) ∷ [] else [])
      by true = refl
      by false = refl

  to_driven : (n : ℕ) (id : AnimId) (paths : List Path) → map (link_read n) (driven_reads s id paths) ≡ driven s n id paths
  to_driven n id [] = refl
  to_driven n id (p ∷ ps) = by (is_driven s id p) (to_driven n id ps)
    where
      by : (b : Bool) → map (link_read n) (driven_reads s id ps) ≡ driven s n id ps
          → map (link_read n) (map (λ p. inner_read (quantity.Chan id p)) (cond b (p ∷ filter (is_driven s id) ps) (filter (is_driven s id) ps)))
          ≡ (if b then inner s n (Driver id p) ∷ [] else []) ++ driven s n id ps
      by true e = ap (λ l. inner s n (Driver id p) ∷ l) e
      by false e = e

  to_parent : (n : ℕ) (parent : Option Parent) → map (link_read n) (parent_reads parent) ≡ of_parent s n parent
  to_parent n None = refl
  to_parent n (Some parent) = by parent.bone
    where
      by : (b : Option ℕ) → map (link_read n) (reference_read (quantity.World parent.object) ∷ option_map_or (λ b. reference_read (quantity.Bone parent.object b) ∷ []) b [])
          ≡ reference s n (World parent.object) ∷ option_map_or (λ b. reference s n (Bone parent.object b) ∷ []) b []
      by None = refl
      by (Some b) = refl

  to_parent_bone : (n : ℕ) (o : ObjectId) (parent : Option ℕ)
      → map (link_read n) (option_map_or (λ b. inner_read (quantity.Bone o b) ∷ []) parent []) ≡ option_map_or (λ b. inner s n (Bone o b) ∷ []) parent []
  to_parent_bone n o None = refl
  to_parent_bone n o (Some b) = refl

  to_bound : (n : ℕ) (bound : Option BoneRef)
      → map (link_read n) (option_map_or (λ b. reference_read (quantity.Bone b.object b.bone) ∷ []) bound []) ≡ option_map_or (λ b. reference s n (Bone b.object b.bone) ∷ []) bound []
  to_bound n None = refl
  to_bound n (Some b) = refl

  to_centre : (n : ℕ) (o : ObjectId) (centre : Option ObjectId)
      → map (link_read n) (option_map_or (λ centre. inner_read (quantity.World o) ∷ reference_read (quantity.World centre) ∷ []) centre [])
      ≡ option_map_or (λ centre. inner s n (World o) ∷ reference s n (World centre) ∷ []) centre []
  to_centre n o None = refl
  to_centre n o (Some centre) = refl

  to_effect : (n : ℕ) (o : ObjectId) (effect : Effect) → map (link_read n) (effect_reads o effect) ≡ of_effect s n o effect
  to_effect n o (Offset loc scale) = refl
  to_effect n o (Mirror mirror) = to_centre n o mirror.centre
  to_effect n o (Array count offset) = refl

  to_last_geometry : (n : ℕ) (o : ObjectId) (i : ℕ) → link_read n (inner_read (quantity.Geom o i)) ≡ inner s n (last_geometry o i)
  to_last_geometry n o zero = refl
  to_last_geometry n o (suc i) = refl

  to_variable : (n : ℕ) (op : OpId) (v : Variable) → to_links n (variable_arrows s op v) ≡ of_variable s n v
  to_variable n op (Property id p) = by (is_driven s id p)
    where
      by : (b : Bool) → to_links n (if b then record { reader = op; source = Driver id p; is_reference = true } ∷ [] else map (inner_link op) (animation_of s id))
          ≡ (if b then reference s n (Driver id p) ∷ [] else if_there s n (Animation id))
      by true = refl
      by false = to_animation n op id
  to_variable n op (Transform o space channel) = refl

  to_variables : (n : ℕ) (op : OpId) (vs : List Variable) → to_links n (flat_map (variable_arrows s op) vs) ≡ flat_map (of_variable s n) vs
  to_variables n op [] = refl
  to_variables n op (v ∷ vs) =
      map-append (λ (a : Arrow OpId). link_to s n a.is_reference a.source) (variable_arrows s op v) (flat_map (variable_arrows s op) vs)
      ∙ both (to_variable n op v) (to_variables n op vs)

  to_bones : (n : ℕ) (o : ObjectId) (k : Kind) → to_links n (bone_arrows (PoseDone o) o k) ≡ of_bones s n o (pose_count k)
  to_bones n o kind.Empty = refl
  to_bones n o (kind.Armature index pose) =
      map-map (λ (a : Arrow OpId). link_to s n a.is_reference a.source) (λ b. inner_link (PoseDone o) (Bone o b)) (range_with_len 0 (length pose))
  to_bones n o (kind.Pencil index modifiers) = refl

  -- ---- each operation

  pub time_links : numbered_links s Time ≡ []
  unfolding numbered_links link_arrows
  time_links = refl

  pub animation_links : (id : AnimId) → numbered_links s (Animation id) ≡ inner s (number_of s (Animation id)) Time ∷ []
  unfolding numbered_links link_arrows
  animation_links id = refl

  -- where the scene has the animation of an id
  pub animation_pushed : (id : AnimId) (reader : ℕ) → Some reader ≡ (if has_operation s (Animation id) then Some (number_of s (Animation id)) else None)
      → inner s reader Time ∷ [] ≡ flat_map (numbered_links s) (animation_of s id)
  animation_pushed id reader e = by (has_action s id) e
    where
      by : (b : Bool) → Some reader ≡ (if b then Some (number_of s (Animation id)) else None) → inner s reader Time ∷ [] ≡ flat_map (numbered_links s) (if b then Animation id ∷ [] else [])
      by true e =
          ap (λ n. inner s n Time ∷ []) (same_Some reader (number_of s (Animation id)) e)
          ∙ sym (append-nil (numbered_links s (Animation id)) ∙ animation_links id)
      by false e = absurd (cc)

  pub driver_links : (d : DriverRecord) → driver_of s d.id d.path ≡ Some d
      → numbered_links s (Driver d.id d.path) ≡ flat_map (of_variable s (number_of s (Driver d.id d.path))) d.variables
  unfolding numbered_links link_arrows
  driver_links d e =
      let n = number_of s (Driver d.id d.path) in
      ap (λ o. to_links n (option_map_or (λ (d' : DriverRecord). flat_map (variable_arrows s (Driver d.id d.path)) d'.variables) o [])) e
      ∙ to_variables n (Driver d.id d.path) d.variables

  pub local_links : (o : ObjectId) → numbered_links s (Local o) ≡ of_local s (number_of s (Local o)) o
  unfolding numbered_links link_arrows
  local_links o =
      let n = number_of s (Local o) in
      map-append (λ (a : Arrow OpId). link_to s n a.is_reference a.source) (map (inner_link (Local o)) (animation_of s (anim.Object o))) (map (read_link (Local o)) (reads s (quantity.Local o)))
      ∙ both (to_animation n (Local o) (anim.Object o))
      (to_reads n (Local o) (reads s (quantity.Local o)) ∙ to_driven n (anim.Object o) (map path.Own channels))

  pub world_links : (o : Object) → object_of s o.id ≡ Some o → numbered_links s (World o.id) ≡ of_world s (number_of s (World o.id)) o.id o.parent
  unfolding numbered_links link_arrows
  world_links o e =
      let n = number_of s (World o.id) in
      to_reads n (World o.id) (reads s (quantity.World o.id))
      ∙ ap (λ f. map (link_read n) (inner_read (quantity.Local o.id) ∷ option_map_or (λ (o : Object). parent_reads o.parent) f [])) e
      ∙ ap (λ l. inner s n (Local o.id) ∷ l) (to_parent n o.parent)

  pub pose_init_links : (o : ObjectId) → numbered_links s (PoseInit o) ≡ if_there s (number_of s (PoseInit o)) (Animation (anim.Object o))
  unfolding numbered_links link_arrows
  pose_init_links o = to_animation (number_of s (PoseInit o)) (PoseInit o) (anim.Object o)

  pub bone_links : (o : ObjectId) (b : ℕ) (bone : RestBone) → option_and_then (λ (bones : List RestBone). slice_get bones b) (bones_of s o) ≡ Some bone
      → numbered_links s (Bone o b) ≡ of_bone s (number_of s (Bone o b)) o bone
  unfolding numbered_links link_arrows
  bone_links o b bone e =
      let n = number_of s (Bone o b) in
      let channel_reads : List Read = driven_reads s (anim.Object o) (map (path.Bone bone.name) channels) in
      let parent_read : List Read = option_map_or (λ b. inner_read (quantity.Bone o b) ∷ []) bone.parent [] in
      ap (λ l. inner s n (PoseInit o) ∷ l)
      (to_reads n (Bone o b) (reads s (quantity.Bone o b))
      ∙ ap (λ f. map (link_read n) (option_map_or (bone_reads s o) f [])) e
      ∙ map-append (link_read n) channel_reads parent_read
      ∙ both (to_driven n (anim.Object o) (map (path.Bone bone.name) channels)) (to_parent_bone n o bone.parent))

  pub pose_done_links : (o : ObjectId) (count : ℕ) → option_map (λ (o : Object). pose_count o.kind) (object_of s o) ≡ Some count
      → numbered_links s (PoseDone o) ≡ of_bones s (number_of s (PoseDone o)) o count
  unfolding numbered_links link_arrows
  pose_done_links o count e = by (object_of s o) e
    where
      by : (f : Option Object) → option_map (λ (o : Object). pose_count o.kind) f ≡ Some count
          → to_links (number_of s (PoseDone o)) (option_map_or (λ (object : Object). bone_arrows (PoseDone o) o object.kind) f []) ≡ of_bones s (number_of s (PoseDone o)) o count
      by None e = absurd (cc)
      by (Some object) e =
          let same : pose_count object.kind ≡ count = cc in
          to_bones (number_of s (PoseDone o)) o object.kind ∙ ap (of_bones s (number_of s (PoseDone o)) o) same

  to_time : (n p l : ℕ) (layer : LayerRecord) → option_and_then (λ (pencil : PencilData). slice_get pencil.layers l) (slice_get s.pencils p) ≡ Some layer
      → (count : ℕ) → length layer.keys ≡ count → to_links n (time_arrows s (Layer p l) p l) ≡ of_keys s n count
  to_time n p l layer e zero f = rw (e, f) refl
  to_time n p l layer e (suc count) f = rw (e, f) refl

  pub layer_links : (p l : ℕ) (layer : LayerRecord) → option_and_then (λ (pencil : PencilData). slice_get pencil.layers l) (slice_get s.pencils p) ≡ Some layer
      → numbered_links s (Layer p l) ≡ of_layer s (number_of s (Layer p l)) p layer
  unfolding numbered_links link_arrows
  layer_links p l layer e =
      let n = number_of s (Layer p l) in
      let link = λ (a : Arrow OpId). link_to s n a.is_reference a.source in
      let animation : List (Arrow OpId) = map (inner_link (Layer p l)) (animation_of s (anim.Pencil p)) in
      let offsets : List Read = driven_reads s (anim.Pencil p) (map (path.Layer layer.name) axes) in
      let bound : List Read = option_map_or (λ (b : BoneRef). reference_read (quantity.Bone b.object b.bone) ∷ []) layer.bound [] in
      map-append link (time_arrows s (Layer p l) p l ++ animation) (map (read_link (Layer p l)) (reads s (quantity.Layer p l)))
      ∙ both
      (map-append link (time_arrows s (Layer p l) p l) animation ∙ both (to_time n p l layer e (length layer.keys) refl) (to_animation n (Layer p l) (anim.Pencil p)))
      (to_reads n (Layer p l) (reads s (quantity.Layer p l))
      ∙ ap (λ f. map (link_read n) (option_map_or (layer_reads s p) f [])) e
      ∙ map-append (link_read n) offsets bound
      ∙ both (to_driven n (anim.Pencil p) (map (path.Layer layer.name) axes)) (to_bound n layer.bound))

  -- the parts of a layer's links, as they are pushed
  pub layer_parts : (n p : ℕ) (layer : LayerRecord) (keys : ℕ) → keys ≡ length layer.keys
      → of_keys s n keys ++ (if_there s n (Animation (anim.Pencil p))
      ++ (driven s n (anim.Pencil p) (map (path.Layer layer.name) axes) ++ option_map_or (λ (b : BoneRef). reference s n (Bone b.object b.bone) ∷ []) layer.bound []))
      ≡ of_layer s n p layer
  layer_parts n p layer keys e =
      let animation : List Link = if_there s n (Animation (anim.Pencil p)) in
      let others : List Link = driven s n (anim.Pencil p) (map (path.Layer layer.name) axes) ++ option_map_or (λ (b : BoneRef). reference s n (Bone b.object b.bone) ∷ []) layer.bound [] in
      ap (λ k. of_keys s n k ++ (animation ++ others)) e ∙ sym (append_assoc (of_keys s n (length layer.keys)) animation others)

  to_geometry : (n p : ℕ) (count : ℕ) → map (link_read n) (map (λ l. inner_read (quantity.Layer p l)) (range_with_len 0 count)) ≡ of_geometry s n p count
  to_geometry n p count = map-map (link_read n) (λ l. inner_read (quantity.Layer p l)) (range_with_len 0 count)

  pub geometry_links : (o : ObjectId) (p : ℕ) (modifiers : List Modifier) (pencil : PencilData)
      → option_map (λ (o : Object). o.kind) (object_of s o) ≡ Some (kind.Pencil p modifiers) → slice_get s.pencils p ≡ Some pencil
      → numbered_links s (Geometry o) ≡ of_geometry s (number_of s (Geometry o)) p (length pencil.layers)
  unfolding numbered_links link_arrows
  geometry_links o p modifiers pencil e f =
      to_reads (number_of s (Geometry o)) (Geometry o) (reads s (quantity.Geom o 0)) ∙ by (number_of s (Geometry o)) (object_of s o) e
    where
      by : (n : ℕ) (found : Option Object) → option_map (λ (o : Object). o.kind) found ≡ Some (kind.Pencil p modifiers)
          → map (link_read n) (option_map_or (λ (object : Object). geometry_reads s object 0) found []) ≡ of_geometry s n p (length pencil.layers)
      by n None e = absurd (cc)
      by n (Some object) e =
          let is : object.kind ≡ kind.Pencil p modifiers = cc in
          ap (λ k. map (link_read n) (geometry_reads s (record object { kind = k }) 0)) is
          ∙ ap (λ found. map (link_read n) (option_map_or (λ (pencil : PencilData). map (λ l. inner_read (quantity.Layer p l)) (range_with_len 0 (length pencil.layers))) found [])) f
          ∙ to_geometry n p (length pencil.layers)

  -- what is read by a modifier of an object of an id, where it is found
  abbrev modifier_read : ℕ → ℕ → ObjectId → Option Modifier → List Link
  modifier_read n i id found =
      link_read n (inner_read (quantity.Geom id i)) ∷ map (link_read n) (option_map_or (λ (m : Modifier). effect_reads id m.effect) found [])

  to_modifier : (o : ObjectId) (i : ℕ) (m : Modifier) → option_and_then (λ (o : Object). slice_get (modifiers_of o.kind) i) (object_of s o) ≡ Some m
      → numbered_links s (ModifierOp o (suc i)) ≡ of_modifier s (number_of s (ModifierOp o (suc i))) o i m.effect
  unfolding numbered_links link_arrows
  to_modifier o i m e =
      to_reads (number_of s (ModifierOp o (suc i))) (ModifierOp o (suc i)) (reads s (quantity.Geom o (suc i)))
      ∙ by (number_of s (ModifierOp o (suc i))) (object_of s o) refl e
    where
      by : (n : ℕ) (found : Option Object) → object_of s o ≡ found → option_and_then (λ (o : Object). slice_get (modifiers_of o.kind) i) found ≡ Some m
          → map (link_read n) (option_map_or (λ (object : Object). geometry_reads s object (suc i)) found []) ≡ of_modifier s n o i m.effect
      by n None g e = absurd (cc)
      by n (Some object) g e =
          ap (λ id. modifier_read n i id (slice_get (modifiers_of object.kind) i)) (found_id s o object g)
          ∙ ap (modifier_read n i o) e
          ∙ (λ j. to_last_geometry n o i j ∷ to_effect n o m.effect j)

  pub modifier_links : (o : ObjectId) (i : ℕ) (m : Modifier) → option_and_then (λ (o : Object). slice_get (modifiers_of o.kind) i) (object_of s o) ≡ Some m
      → numbered_links s (ModifierOp o (i + 1)) ≡ of_modifier s (number_of s (ModifierOp o (i + 1))) o i m.effect
  modifier_links o i m e =
      subst (λ j. numbered_links s (ModifierOp o j) ≡ of_modifier s (number_of s (ModifierOp o j)) o i m.effect) (sym (add-one i)) (to_modifier o i m e)

  pub geometry_done_links : (o : ObjectId) (count : ℕ) → option_map (λ (o : Object). length (modifiers_of o.kind)) (object_of s o) ≡ Some count
      → numbered_links s (GeometryDone o) ≡ inner s (number_of s (GeometryDone o)) (last_geometry o count) ∷ []
  unfolding numbered_links link_arrows
  geometry_done_links o count e = by (object_of s o) e
    where
      by : (f : Option Object) → option_map (λ (o : Object). length (modifiers_of o.kind)) f ≡ Some count
          → to_links (number_of s (GeometryDone o)) (option_map_or (λ (object : Object). inner_link (GeometryDone o) (last_geometry o (length (modifiers_of object.kind))) ∷ []) f [])
          ≡ inner s (number_of s (GeometryDone o)) (last_geometry o count) ∷ []
      by None e = absurd (cc)
      by (Some object) e =
          let same : length (modifiers_of object.kind) ≡ count = cc in
          ap (λ c. inner s (number_of s (GeometryDone o)) (last_geometry o c) ∷ []) same

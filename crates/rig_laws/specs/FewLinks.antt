-- How many in-links a scene has, from its limits.
use Rattle.std.specs.Prelude.{◌≡◌, ℕ, zero, suc, ◌+◌, ◌*◌, ◌<◌, ◌≤◌, ◌&&◌, List, [], ◌∷◌, ◌++◌, map, length, sum_by, Bool, true, false, IsTrue, Option, Some, None, slice_get, option_and_then, if◌then◌else◌, Contains}
use Rattle.std.specs.Option.{option_map_or}
use Rattle.std.specs.List.{flat_map, range_with_len, enumerate_from}
use Rattle.std.proofs.Common.{refl, ap, arith, ◌∙◌}
use Rattle.std.proofs.lemmas.List.{length-append, length-map}
use Rattle.std.proofs.lemmas.List.Concat.{length-flat_map}
use Rattle.std.proofs.lemmas.List.Elements.{All-filter, All-contains, All-weaker}
use Rattle.std.proofs.lemmas.List.Folds.{flat_map-map}
use Rattle.std.proofs.lemmas.List.FromFn.{length-range_with_len}
use Rattle.rig_scene.specs.declared.armature.RestBone.{RestBone}
use Rattle.rig_scene.specs.declared.channel.Channels.{Channels}
use Rattle.rig_scene.specs.declared.driver.Driver.{Driver as DriverRecord}
use Rattle.rig_scene.specs.declared.driver.Variable.{Variable}
use Rattle.rig_scene.specs.declared.driver.Variable.TheVariants.{Property, Transform}
use Rattle.rig_scene.specs.declared.id.AnimId.{AnimId}
use Rattle.rig_scene.specs.declared.id.AnimId.TheVariants as anim
use Rattle.rig_scene.specs.declared.id.ObjectId.{ObjectId}
use Rattle.rig_scene.specs.declared.limits.TheConstants.{MAX_LAYERS, MAX_MODIFIERS, MAX_VARIABLES}
use Rattle.rig_scene.specs.declared.modifier.Effect.{Effect}
use Rattle.rig_scene.specs.declared.modifier.Effect.TheVariants.{Offset, Mirror, Array}
use Rattle.rig_scene.specs.declared.object.Kind.{Kind}
use Rattle.rig_scene.specs.declared.object.Kind.TheVariants as kind
use Rattle.rig_scene.specs.declared.object.Object.{Object}
use Rattle.rig_scene.specs.declared.object.Parent.{Parent}
use Rattle.rig_scene.specs.declared.operation.OpId.TheVariants.{Animation, Driver, Local, World, PoseInit, Bone, PoseDone, Layer, Geometry, ModifierOp, GeometryDone}
use Rattle.rig_scene.specs.declared.path.Path.{Path}
use Rattle.rig_scene.specs.declared.path.Path.TheVariants as path
use Rattle.rig_scene.specs.declared.pencil.Layer.{Layer as LayerRecord}
use Rattle.rig_scene.specs.declared.pencil.PencilData.{PencilData}
use Rattle.rig_scene.specs.declared.quantity.Quantity.{Quantity}
use Rattle.rig_scene.specs.declared.quantity.Quantity.TheVariants as quantity
use Rattle.rig_scene.specs.Channel.{channels, axes}
use Rattle.rig_scene.specs.Counts.{drivers_for, drivers_together, sum_within, enumerate_length, enumerate_all}
use Rattle.rig_scene.specs.Drivers.{drivers_of, driver_of, is_driven, driven_paths, has_action}
use Rattle.rig_scene.specs.Facts.{ArmatureFacts, ObjectFacts, PencilFacts, DriverFacts}
use Rattle.rig_scene.specs.FactsHold.{scene_facts}
use Rattle.rig_scene.specs.Found.{Contains-slice_get}
use Rattle.rig_scene.specs.Id.{same_id}
use Rattle.rig_scene.specs.Operations.{kept_link, animation_of, driver_operations, pencil_operations, kind_operations, object_operations, operations, link_of, links_of, variable_links, layer_time, bone_links, last_geometry, ins}
use Rattle.rig_scene.specs.Path.{same_path}
use Rattle.rig_scene.specs.Quantities.{reads, inner_read, reference_read, driven_reads, parent_reads, bone_reads, layer_reads, effect_reads, modifiers_of, geometry_reads}
use Rattle.rig_scene.specs.Scene.{SceneRecord, object_of}
use Rattle.rig_scene.specs.WellFormed.{is_scene, pose_count, bones_of}
use Rattle.rig_laws.specs.DrivenBones.{bone_paths, bones_driven}
use Rattle.rig_laws.specs.HasQuantity.{object_found, bones_found}
use Rattle.rig_laws.specs.Lengths.{option_length, filter_length, each_length, mapped_length, joined_length, nested_length, sum_beside, sum_times, sum_at}
use Rattle.rig_laws.specs.LayerTime.{length-layer_time}
use Rattle.rig_laws.specs.Lists.{All-of_any, All-elements, All-between, find-Some}

module _ (s : SceneRecord) where
  -- ---- links of one operation

  animation_length : (id : AnimId) → length (animation_of s id) ≤ 1
  animation_length id = by (has_action s id)
    where
      by : (b : Bool) → length (if b then Animation id ∷ [] else []) ≤ 1
      by true = omega arith
      by false = omega arith

  animation_links : (id : AnimId) → length (flat_map (ins s) (animation_of s id)) ≤ 1
  unfolding ins
  animation_links id = by (has_action s id)
    where
      by : (b : Bool) → length (flat_map (ins s) (if b then Animation id ∷ [] else [])) ≤ 1
      by true = omega arith
      by false = omega arith

  kept_length : (id : AnimId) → length (map kept_link (animation_of s id)) ≤ 1
  kept_length id = omega (arith, length-map (animation_of s id) kept_link, animation_length id)

  reads_length : (q : Quantity) → length (links_of s q) ≡ length (reads s q)
  reads_length q = length-map (reads s q) (link_of s q)

  variable_length : (q : Quantity) (v : Variable) → length (variable_links s q v) ≤ 1
  variable_length q (Property id p) = by (is_driven s id p)
    where
      by : (b : Bool) → length (if b then link_of s q (reference_read (quantity.Chan id p)) ∷ [] else map kept_link (animation_of s id)) ≤ 1
      by true = omega arith
      by false = kept_length id
  variable_length q (Transform o space channel) = omega arith

  driven_length : (id : AnimId) (paths : List Path) → length (driven_reads s id paths) ≤ length paths
  driven_length id paths = omega (arith, length-map (driven_paths s id paths) (λ p. inner_read (quantity.Chan id p)), filter_length (is_driven s id) paths)

  local_length : (o : ObjectId) → length (ins s (Local o)) ≤ 9
  unfolding ins
  local_length o =
      omega (
        arith,
        length-append (map kept_link (animation_of s (anim.Object o))) (links_of s (quantity.Local o)),
        kept_length (anim.Object o),
        reads_length (quantity.Local o),
        driven_length (anim.Object o) (map path.Own channels),
      )

  world_length : (o : ObjectId) → length (ins s (World o)) ≤ 3
  unfolding ins
  world_length o =
      let more = option_length (λ object. parent_reads object.parent) 2 (object_of s o) (λ object e. by object.parent) in
      omega (arith, reads_length (quantity.World o), more)
    where
      by_bone : (o : ObjectId) (b : Option ℕ) → length (option_map_or (λ b. reference_read (quantity.Bone o b) ∷ []) b []) ≤ 1
      by_bone o b = option_length (λ b. reference_read (quantity.Bone o b) ∷ []) 1 b (λ b e. omega arith)

      by : (parent : Option Parent) → length (parent_reads parent) ≤ 2
      by None = omega arith
      by (Some parent) = omega (arith, by_bone parent.object parent.bone)

  -- the driven channels of the bone of an index
  abbrev driven_of : ObjectId → Option RestBone → ℕ
  driven_of o bone = length (option_map_or (bone_paths s (anim.Object o)) bone [])

  bone_length : (o : ObjectId) (b : ℕ) → length (ins s (Bone o b)) ≤ 2 + driven_of o (option_and_then (λ bones. slice_get bones b) (bones_of s o))
  unfolding ins
  bone_length o b = omega (arith, reads_length (quantity.Bone o b), by (option_and_then (λ bones. slice_get bones b) (bones_of s o)))
    where
      by : (bone : Option RestBone) → length (option_map_or (bone_reads s o) bone []) ≤ 1 + driven_of o bone
      by None = omega arith
      by (Some bone) =
          let parent = option_length (λ b. inner_read (quantity.Bone o b) ∷ []) 1 bone.parent (λ b e. omega arith) in
          omega (
            arith,
            parent,
            length-append (driven_reads s (anim.Object o) (map (path.Bone bone.name) channels)) (option_map_or (λ b. inner_read (quantity.Bone o b) ∷ []) bone.parent []),
            length-map (driven_paths s (anim.Object o) (map (path.Bone bone.name) channels)) (λ p. inner_read (quantity.Chan (anim.Object o) p)),
          )

  layer_length : (p l : ℕ) → length (ins s (Layer p l)) ≤ 6
  unfolding ins
  layer_length p l =
      let read = option_length (layer_reads s p) 4 (option_and_then (λ pencil. slice_get pencil.layers l) (slice_get s.pencils p)) (λ layer e. by layer) in
      omega (
        arith,
        read,
        reads_length (quantity.Layer p l),
        length-layer_time s p l,
        kept_length (anim.Pencil p),
        length-append (layer_time s p l ++ map kept_link (animation_of s (anim.Pencil p))) (links_of s (quantity.Layer p l)),
        length-append (layer_time s p l) (map kept_link (animation_of s (anim.Pencil p))),
      )
    where
      by : (layer : LayerRecord) → length (layer_reads s p layer) ≤ 4
      by layer =
          let bound = option_length (λ b. reference_read (quantity.Bone b.object b.bone) ∷ []) 1 layer.bound (λ b e. omega arith) in
          omega (
            arith,
            bound,
            driven_length (anim.Pencil p) (map (path.Layer layer.name) axes),
            length-append (driven_reads s (anim.Pencil p) (map (path.Layer layer.name) axes)) (option_map_or (λ b. reference_read (quantity.Bone b.object b.bone) ∷ []) layer.bound []),
          )

  effect_length : (o : ObjectId) (effect : Effect) → length (effect_reads o effect) ≤ 2
  effect_length o (Offset loc scale) = omega arith
  effect_length o (Mirror mirror) = option_length (λ centre. inner_read (quantity.World o) ∷ reference_read (quantity.World centre) ∷ []) 2 mirror.centre (λ centre e. omega arith)
  effect_length o (Array count offset) = omega arith

  modifier_length : (o : ObjectId) (i : ℕ) → 1 ≤ i → length (ins s (ModifierOp o i)) ≤ 3
  unfolding ins
  modifier_length o zero l = absurd (omega arith)
  modifier_length o (suc i) l =
      omega (
        arith,
        reads_length (quantity.Geom o (suc i)),
        option_length (λ object. geometry_reads s object (suc i)) 3 (object_of s o)
            (λ object e. omega (arith, option_length (λ m. effect_reads object.id m.effect) 2 (slice_get (modifiers_of object.kind) i) (λ m f. effect_length object.id m.effect))),
      )

  pose_init_length : (o : ObjectId) → length (ins s (PoseInit o)) ≤ 1
  unfolding ins
  pose_init_length o = kept_length (anim.Object o)

  done_length : (o : ObjectId) → length (ins s (GeometryDone o)) ≤ 1
  unfolding ins
  done_length o = option_length (λ object. kept_link (last_geometry o (length (modifiers_of object.kind))) ∷ []) 1 (object_of s o) (λ object e. omega arith)

  module _ (met : IsTrue (is_scene s)) where
    driver_length : (d : DriverRecord) → Contains s.drivers d → length (ins s (Driver d.id d.path)) ≤ MAX_VARIABLES
    unfolding ins
    driver_length d within =
        option_length (λ d'. flat_map (variable_links s (quantity.Chan d.id d.path)) d'.variables) MAX_VARIABLES (driver_of s d.id d.path)
        (λ d' e.
        let found = (find-Some (λ x. same_id x.id d.id && same_path x.path d.path) s.drivers d' e).0 in
        let facts = All-contains (DriverFacts s) s.drivers d' (scene_facts s met).drivers.each found in
        omega (arith, facts.count, each_length (variable_links s (quantity.Chan d.id d.path)) 1 d'.variables (All-of_any (λ v. length (variable_links s (quantity.Chan d.id d.path) v) ≤ 1) d'.variables (variable_length (quantity.Chan d.id d.path)))))

    drivers_links : (id : AnimId) → length (flat_map (ins s) (driver_operations s id)) ≤ drivers_for s.drivers id * MAX_VARIABLES
    drivers_links id =
        mapped_length (ins s) (λ d. Driver d.id d.path) MAX_VARIABLES (drivers_of s id)
        (All-filter (λ d. same_id d.id id) (λ d. length (ins s (Driver d.id d.path)) ≤ MAX_VARIABLES) s.drivers
        (All-elements (λ d. length (ins s (Driver d.id d.path)) ≤ MAX_VARIABLES) s.drivers driver_length))

    opening_links : (id : AnimId) → length (flat_map (ins s) (animation_of s id ++ driver_operations s id)) ≤ 1 + drivers_for s.drivers id * MAX_VARIABLES
    opening_links id = omega (arith, joined_length (ins s) (animation_of s id) (driver_operations s id), animation_links id, drivers_links id)

    -- ---- links of a pencil's operations

    pencil_links : (p : ℕ) (pencil : PencilData) → PencilFacts s pencil → length (flat_map (ins s) (pencil_operations s p pencil)) ≤ 1 + MAX_LAYERS * 6 + drivers_for s.drivers (anim.Pencil p) * MAX_VARIABLES
    pencil_links p pencil facts =
        omega (
          arith,
          facts.count,
          opening_links (anim.Pencil p),
          length-range_with_len 0 (length pencil.layers),
          joined_length (ins s) (animation_of s (anim.Pencil p) ++ driver_operations s (anim.Pencil p)) (map (Layer p) (range_with_len 0 (length pencil.layers))),
          mapped_length (ins s) (Layer p) 6 (range_with_len 0 (length pencil.layers)) (All-of_any (λ l. length (ins s (Layer p l)) ≤ 6) (range_with_len 0 (length pencil.layers)) (layer_length p)),
        )

    -- ---- links of an object's operations

    pose_done_length : (o : Object) → Contains s.objects o → length (ins s (PoseDone o.id)) ≤ pose_count o.kind
    unfolding ins
    pose_done_length o within = omega (arith, ap (λ x. length (option_map_or (λ object. bone_links o.id object.kind) x [])) (object_found s met o within), by o.kind)
      where
        by : (k : Kind) → length (bone_links o.id k) ≤ pose_count k
        by kind.Empty = omega arith
        by (kind.Armature n pose) = omega (arith, length-map (range_with_len 0 (length pose)) (λ b. kept_link (Bone o.id b)), length-range_with_len 0 (length pose))
        by (kind.Pencil p modifiers) = omega arith

    bones_links : (o : Object) → Contains s.objects o → (n : ℕ) (pose : List Channels) → o.kind ≡ kind.Armature n pose → length (flat_map (ins s) (map (Bone o.id) (range_with_len 0 (length pose)))) ≤ length pose * 2 + drivers_for s.drivers (anim.Object o.id)
    bones_links o within n pose k =
        let object = All-contains (ObjectFacts s) s.objects o (scene_facts s met).objects.each within in
        let facts = object.armature n pose k in
        let a = facts.armature in
        let names = (All-contains ArmatureFacts s.armatures a (scene_facts s met).armatures.each (Contains-slice_get s.armatures n a facts.is_armature)).names_distinct in
        let bones = bones_found s met o.id o n pose a (object_found s met o within) k facts.is_armature in
        let driven = λ (b : ℕ). driven_of o.id (option_and_then (λ bones. slice_get bones b) (bones_of s o.id)) in
        let sum = sum_beside (λ b. length (ins s (Bone o.id b))) driven 2 (range_with_len 0 (length pose)) (All-of_any (λ b. length (ins s (Bone o.id b)) ≤ 2 + driven b) (range_with_len 0 (length pose)) (bone_length o.id)) in
        let at = sum_at driven (driven_of o.id) 0 a.bones (λ b. ap driven (let e : 0 + b ≡ b = omega arith in e) ∙ ap (λ r. driven_of o.id (option_and_then (λ bones. slice_get bones b) r)) bones) in
        let poses = ap (λ n. sum_by driven (range_with_len 0 n)) facts.poses in
        omega (
          arith,
          ap length (flat_map-map (ins s) (Bone o.id) (range_with_len 0 (length pose))),
          length-flat_map (λ b. ins s (Bone o.id b)) (range_with_len 0 (length pose)),
          length-range_with_len 0 (length pose),
          sum,
          poses,
          at,
          length-flat_map (bone_paths s (anim.Object o.id)) a.bones,
          bones_driven s (anim.Object o.id) met a.bones names,
        )

    layers_length : (o : Object) → Contains s.objects o → length (ins s (Geometry o.id)) ≤ MAX_LAYERS
    unfolding ins
    layers_length o within = omega (arith, reads_length (quantity.Geom o.id 0), option_length (λ object. geometry_reads s object 0) MAX_LAYERS (object_of s o.id) (λ object e. by object object.kind))
      where
        by : (object : Object) (k : Kind) → length (geometry_reads s (record object { kind = k }) 0) ≤ MAX_LAYERS
        by object kind.Empty = omega arith
        by object (kind.Armature n pose) = omega arith
        by object (kind.Pencil p modifiers) =
            option_length (λ pencil. map (λ l. inner_read (quantity.Layer p l)) (range_with_len 0 (length pencil.layers))) MAX_LAYERS (slice_get s.pencils p)
            (λ pencil e.
            let facts = All-contains (PencilFacts s) s.pencils pencil (scene_facts s met).pencils.each (Contains-slice_get s.pencils p pencil e) in
            omega (arith, facts.count, length-map (range_with_len 0 (length pencil.layers)) (λ l. inner_read (quantity.Layer p l)), length-range_with_len 0 (length pencil.layers)))

    kind_links : (o : Object) → Contains s.objects o → (k : Kind) → o.kind ≡ k → length (flat_map (ins s) (kind_operations o.id k)) ≤ 1 + MAX_LAYERS + MAX_MODIFIERS * 3 + drivers_for s.drivers (anim.Object o.id) + 3 * pose_count k
    kind_links o within kind.Empty e = omega arith
    kind_links o within (kind.Armature n pose) e =
        let count = ap pose_count e in
        omega (
          arith,
          count,
          pose_init_length o.id,
          pose_done_length o within,
          bones_links o within n pose e,
          length-append (ins s (PoseInit o.id)) (flat_map (ins s) (map (Bone o.id) (range_with_len 0 (length pose)) ++ PoseDone o.id ∷ [])),
          joined_length (ins s) (map (Bone o.id) (range_with_len 0 (length pose))) (PoseDone o.id ∷ []),
          length-append (ins s (PoseDone o.id)) [],
        )
    kind_links o within (kind.Pencil p modifiers) e =
        let object = All-contains (ObjectFacts s) s.objects o (scene_facts s met).objects.each within in
        let facts = object.pencil p modifiers e in
        omega (
          arith,
          facts.count,
          layers_length o within,
          done_length o.id,
          length-range_with_len 1 (length modifiers),
          length-append (ins s (Geometry o.id)) (flat_map (ins s) (map (ModifierOp o.id) (range_with_len 1 (length modifiers)) ++ GeometryDone o.id ∷ [])),
          joined_length (ins s) (map (ModifierOp o.id) (range_with_len 1 (length modifiers))) (GeometryDone o.id ∷ []),
          length-append (ins s (GeometryDone o.id)) [],
          mapped_length (ins s) (ModifierOp o.id) 3 (range_with_len 1 (length modifiers)) (All-between (λ i. length (ins s (ModifierOp o.id i)) ≤ 3) 1 (length modifiers) (λ i l m. modifier_length o.id i l)),
        )

    object_links : (o : Object) → Contains s.objects o → length (flat_map (ins s) (object_operations s o)) ≤ 14 + MAX_LAYERS + MAX_MODIFIERS * 3 + drivers_for s.drivers (anim.Object o.id) * (MAX_VARIABLES + 1) + 3 * pose_count o.kind
    object_links o within =
        omega (
          arith,
          opening_links (anim.Object o.id),
          local_length o.id,
          world_length o.id,
          kind_links o within o.kind refl,
          joined_length (ins s) (animation_of s (anim.Object o.id) ++ driver_operations s (anim.Object o.id)) (Local o.id ∷ World o.id ∷ kind_operations o.id o.kind),
          length-append (ins s (Local o.id)) (flat_map (ins s) (World o.id ∷ kind_operations o.id o.kind)),
          length-append (ins s (World o.id)) (flat_map (ins s) (kind_operations o.id o.kind)),
        )

    -- ---- all of them

    pub links_count : length (flat_map (ins s) (operations s)) < 262144
    unfolding ins
    links_count =
        let facts = scene_facts s met in
        let pencils = flat_map (λ (e : ℕ × PencilData). pencil_operations s e.0 e.1) (enumerate_from 0 s.pencils) in
        let objects = flat_map (object_operations s) s.objects in
        let whole = joined_length (ins s) pencils objects in
        let of_pencils = nested_length (ins s) (λ (e : ℕ × PencilData). pencil_operations s e.0 e.1) (enumerate_from 0 s.pencils) in
        let of_objects = nested_length (ins s) (object_operations s) s.objects in
        let few_pencils = sum_beside (λ (e : ℕ × PencilData). length (flat_map (ins s) (pencil_operations s e.0 e.1))) (λ e. (MAX_VARIABLES + 1) * drivers_for s.drivers (anim.Pencil e.0)) (1 + MAX_LAYERS * 6) (enumerate_from 0 s.pencils)
        (All-weaker (λ e. PencilFacts s e.1) (λ e. length (flat_map (ins s) (pencil_operations s e.0 e.1)) ≤ 1 + MAX_LAYERS * 6 + (MAX_VARIABLES + 1) * drivers_for s.drivers (anim.Pencil e.0)) (λ e f. omega (arith, pencil_links e.0 e.1 f))
        (enumerate_from 0 s.pencils) (enumerate_all (PencilFacts s) 0 s.pencils facts.pencils.each)) in
        let few_objects = sum_within (λ o. length (flat_map (ins s) (object_operations s o))) (λ o. (MAX_VARIABLES + 1) * drivers_for s.drivers (anim.Object o.id)) (λ o. 3 * pose_count o.kind) (14 + MAX_LAYERS + MAX_MODIFIERS * 3) s.objects
        (All-elements (λ o. length (flat_map (ins s) (object_operations s o)) ≤ 14 + MAX_LAYERS + MAX_MODIFIERS * 3 + (MAX_VARIABLES + 1) * drivers_for s.drivers (anim.Object o.id) + 3 * pose_count o.kind) s.objects (λ o e. omega (arith, object_links o e))) in
        omega (
          arith,
          whole,
          of_pencils,
          of_objects,
          few_pencils,
          few_objects,
          sum_times (λ (e : ℕ × PencilData). drivers_for s.drivers (anim.Pencil e.0)) (MAX_VARIABLES + 1) (enumerate_from 0 s.pencils),
          sum_times (λ o. drivers_for s.drivers (anim.Object o.id)) (MAX_VARIABLES + 1) s.objects,
          sum_times (λ o. pose_count o.kind) 3 s.objects,
          drivers_together s facts,
          enumerate_length 0 s.pencils,
          facts.pencils.count,
          facts.objects.count,
          facts.objects.pose_bones,
          facts.drivers.count,
        )

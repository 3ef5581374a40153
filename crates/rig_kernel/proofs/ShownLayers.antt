-- The layers of pencils: that they are there, what their inputs are, and their strokes by the indices of these.
use Rattle.std.proofs.Common.{◌≡◌, ℕ, ◌+◌, ◌<◌, ◌≤◌, List, [], ◌∷◌, ◌++◌, length, map, drop, cond, Option, Some, None, ℤ, refl, sym, ap, ◌∙◌, arith}
use Rattle.std.specs.Prelude.{◌==◌, ◌&&◌, IsTrue, IfSome, false, is_some, nat_lt, slice_get, option_map, option_and_then, Contains}
use Rattle.std.specs.Option.{option_map_or}
use Rattle.std.proofs.lemmas.Bool.{ltb-true}
use Rattle.std.proofs.lemmas.List.{length-append, map-append}
use Rattle.std.proofs.lemmas.List.Elements.{All-contains}
use Rattle.rig_fixed.specs.Transform.{identity}
use Rattle.rig_scene.specs.declared.channel.Axis.{Axis}
use Rattle.rig_scene.specs.declared.id.AnimId.TheVariants as anim
use Rattle.rig_scene.specs.declared.modifier.Mode.{Mode}
use Rattle.rig_scene.specs.declared.operation.OpId.{OpId}
use Rattle.rig_scene.specs.declared.operation.OpId.TheVariants.{Time, Driver, Bone, Layer}
use Rattle.rig_scene.specs.declared.path.Path.TheVariants as paths
use Rattle.rig_scene.specs.declared.pencil.BoneRef.{BoneRef}
use Rattle.rig_scene.specs.declared.pencil.Layer.{Layer as LayerRecord}
use Rattle.rig_scene.specs.declared.pencil.LayerKey.{LayerKey}
use Rattle.rig_scene.specs.declared.pencil.PencilData.{PencilData}
use Rattle.rig_scene.specs.declared.quantity.Quantity.TheVariants as quantity
use Rattle.rig_scene.specs.Channel.{axes, coordinate_of, same_axis, v3_by}
use Rattle.rig_scene.specs.Drivers.{action_index, driven_paths, has_action}
use Rattle.rig_scene.specs.Facts.{LayerFacts, PencilFacts}
use Rattle.rig_scene.specs.FactsHold.{scene_facts}
use Rattle.rig_scene.specs.Found.{Contains-slice_get}
use Rattle.rig_scene.specs.Layer.{held_drawing, layer_strokes}
use Rattle.rig_scene.specs.Operations.{InLink, kept_link, animation_of, layer_time, operations, ins}
use Rattle.rig_scene.specs.Operations as links
use Rattle.rig_scene.specs.Path.{same_path}
use Rattle.rig_scene.specs.Pose.{rest_chain}
use Rattle.rig_scene.specs.Quantities.{reference_read, layer_reads}
use Rattle.rig_scene.specs.Same.{same_text-itself}
use Rattle.rig_scene.specs.Scene.{SceneRecord}
use Rattle.rig_scene.specs.Value.{Numbers, Strokes, deform_unless, transform_in}
use Rattle.rig_scene.specs.WellFormed.{is_scene, bones_of}
use Rattle.rig_laws.specs.HasOperation.{operation_has}
use Rattle.rig_laws.specs.Lists.{some_where}
use Rattle.rig_kernel.specs.declared.tables.SceneTables.{SceneTables}
use Rattle.rig_kernel.specs.Driven.{axis_place, driver_count, offset_from}
use Rattle.rig_laws.specs.Kernel.{kernel, after_animation, bound_deform, bound_place, curve_numbers, layer_offset, layer_output, layer_paths, layer_shown}
use Rattle.rig_kernel.specs.LayerBy.{time_count, animation_count, offset_by, bound_index, layer_by}
use Rattle.rig_laws.specs.Output.{Output, link_of, frame_at, numbers_at}
use Rattle.rig_kernel.specs.Tables.{AreTables, table_parts, curve_at}
use Rattle.rig_kernel.proofs.Animated.{animated_is}
use Rattle.rig_kernel.proofs.Behind.{slice_get-drop, drop_twice, numbers_behind}
use Rattle.rig_kernel.proofs.DrivenPaths.{BeginsWithout}
use Rattle.rig_kernel.proofs.LinkOps as ops
use Rattle.rig_kernel.proofs.LinkOps.{ops_of, linked, taken, kept_ops, reads_ops, behind}
use Rattle.rig_kernel.proofs.NumbersOf.{drivers, number_here}
use Rattle.rig_kernel.proofs.SamePlace.{same_axis_place}

-- ---- that they are there

pub record HasLayer (s : SceneRecord) (p l : ℕ) : Type 0 where
  pub pencil : PencilData
  pub is_pencil : slice_get s.pencils p ≡ Some pencil
  pub here : l < length pencil.layers

module _ (s : SceneRecord) (met : IsTrue (is_scene s)) (p l : ℕ) where
  pub has_layer : Contains (operations s) (Layer p l) → HasLayer s p l
  has_layer within =
      let found = some_where (λ (pencil : PencilData). nat_lt l (length pencil.layers)) (slice_get s.pencils p) (operation_has s met (Layer p l) within) in
      record { pencil = found.0; is_pencil = found.1; here = ltb-true l (length found.0.layers) found.2 }

  pub layer_facts : (pencil : PencilData) → slice_get s.pencils p ≡ Some pencil → (layer : LayerRecord) → slice_get pencil.layers l ≡ Some layer → LayerFacts s pencil layer
  layer_facts pencil is_pencil layer is_layer =
      All-contains (LayerFacts s pencil) pencil.layers layer
      (All-contains (PencilFacts s) s.pencils pencil (scene_facts s met).pencils.each (Contains-slice_get s.pencils p pencil is_pencil)).layers
      (Contains-slice_get pencil.layers l layer is_layer)

-- ---- inputs by their index behind others

deform_behind : (s : SceneRecord) (bound : BoneRef) (outs : List Output) (n k : ℕ) → bound_deform s bound outs (n + k) ≡ bound_deform s bound (drop n outs) k
deform_behind s bound outs n k =
    ap (λ (i : Option Output). deform_unless (option_map_or (λ i. i.is_rest) i false) (transform_in (option_map_or (λ i. i.value) i (Numbers [])))
    (option_map_or (λ bones. rest_chain bones bound.bone) (bones_of s bound.object) identity)) (sym (slice_get-drop n outs k))

-- ---- what a layer takes

abbrev time_ops : List LayerKey → List OpId
time_ops [] = []
time_ops (key ∷ keys) = Time ∷ []

abbrev bound_op : LayerRecord → List OpId
bound_op layer = option_map_or (λ b. Bone b.object b.bone ∷ []) layer.bound []

no_driver : (layer : LayerRecord) → BeginsWithout (bound_op layer)
no_driver layer = by layer.bound
  where
    by : (bound : Option BoneRef) → BeginsWithout (option_map_or (λ b. Bone b.object b.bone ∷ []) bound [])
    by None = tt
    by (Some b) = (refl, λ k number later. refl)

layer_place : (name : List ℕ) (a b : Axis) → same_path (paths.Layer name a) (paths.Layer name b) ≡ (axis_place b == axis_place a)
layer_place name a b = ap (λ same. same && same_axis a b) (same_text-itself name) ∙ same_axis_place a b

module _ (s : SceneRecord) (p l : ℕ) (pencil : PencilData) (is_pencil : slice_get s.pencils p ≡ Some pencil) (layer : LayerRecord) (is_layer : slice_get pencil.layers l ≡ Some layer) where
  found : option_and_then (λ (pencil : PencilData). slice_get pencil.layers l) (slice_get s.pencils p) ≡ Some layer
  found = ap (option_and_then (λ (pencil : PencilData). slice_get pencil.layers l)) is_pencil ∙ is_layer

  time_is : (keys : List LayerKey) → layer.keys ≡ keys → linked (layer_time s p l) ≡ time_ops keys
  time_is [] e = rw (found, e) refl
  time_is (key ∷ keys) e = rw (found, e) refl

  time_length : length (layer_time s p l) ≡ time_count layer.keys
  time_length = by layer.keys refl
    where
      by : (keys : List LayerKey) → layer.keys ≡ keys → length (layer_time s p l) ≡ time_count keys
      by [] e = rw (found, e) refl
      by (key ∷ keys) e = rw (found, e) refl

  abbrev first_ops : List OpId
  first_ops = linked (layer_time s p l) ++ animation_of s (anim.Pencil p)

  bound_link : (bound : Option BoneRef) → linked (map (links.link_of s (quantity.Layer p l)) (option_map_or (λ b. reference_read (quantity.Bone b.object b.bone) ∷ []) bound []))
      ≡ option_map_or (λ b. Bone b.object b.bone ∷ []) bound []
  bound_link None = refl
  bound_link (Some b) = refl

  module _ (outs : List Output) (is : map link_of outs ≡ ins s (Layer p l)) where
    layer_ops : ops_of outs ≡ first_ops ++ (map (Driver (anim.Pencil p)) (driven_paths s (anim.Pencil p) (layer_paths layer)) ++ bound_op layer)
    unfolding ins
    layer_ops =
        let id = anim.Pencil p in
        let q = quantity.Layer p l in
        let op = λ (l : InLink). l.op in
        let ps = driven_paths s id (layer_paths layer) in
        sym (taken outs) ∙ ap linked is
        ∙ map-append op (layer_time s p l ++ map kept_link (animation_of s id)) (links.links_of s q)
        ∙ ap (λ first. first ++ linked (links.links_of s q)) (map-append op (layer_time s p l) (map kept_link (animation_of s id)) ∙ ap (λ ops. linked (layer_time s p l) ++ ops) (kept_ops (animation_of s id)))
        ∙ ap (λ found. first_ops ++ linked (map (links.link_of s q) (option_map_or (layer_reads s p) found []))) found
        ∙ ap (λ ops. first_ops ++ ops) (reads_ops s q id ps (option_map_or (λ b. reference_read (quantity.Bone b.object b.bone) ∷ []) layer.bound [])
        ∙ ap (λ ops. map (Driver id) ps ++ ops) (bound_link layer.bound))

    -- the time comes first, where there are keys
    pub time_first : 1 ≤ length layer.keys → IfSome (slice_get outs 0) (λ i. i.op ≡ Time)
    time_first some = by layer.keys refl some outs layer_ops
      where
        rest : List OpId
        rest = animation_of s (anim.Pencil p)

        more : List OpId
        more = map (Driver (anim.Pencil p)) (driven_paths s (anim.Pencil p) (layer_paths layer)) ++ bound_op layer

        at_first : (outs : List Output) → ops_of outs ≡ (Time ∷ rest) ++ more → IfSome (slice_get outs 0) (λ i. i.op ≡ Time)
        at_first [] e = absurd cc
        at_first (o ∷ os) e = cc

        by : (keys : List LayerKey) → layer.keys ≡ keys → 1 ≤ length keys → (outs : List Output) → ops_of outs ≡ first_ops ++ more → IfSome (slice_get outs 0) (λ i. i.op ≡ Time)
        by [] e some outs ops = absurd (omega arith)
        by (key ∷ keys) e some outs ops = at_first outs (ops ∙ ap (λ time. (time ++ rest) ++ more) (time_is (key ∷ keys) e))

    module _ (tables : SceneTables) (are : AreTables tables (table_parts s)) where
      abbrev shown : List Output
      shown = drop (length (layer_time s p l)) outs

      action : action_index s (anim.Pencil p) ≡ pencil.action
      action = ap (option_and_then (λ (pencil : PencilData). pencil.action)) is_pencil

      animations : length (animation_of s (anim.Pencil p)) ≡ animation_count pencil.action
      animations = ops.animation_count s (anim.Pencil p) pencil.action action

      start : drop (time_count layer.keys + animation_count pencil.action) outs ≡ after_animation s (anim.Pencil p) shown
      start =
          (λ i. drop (sym time_length i + sym animations i) outs)
          ∙ drop_twice (length (layer_time s p l)) (length (animation_of s (anim.Pencil p))) outs

      tail : ops_of (after_animation s (anim.Pencil p) shown) ≡ map (Driver (anim.Pencil p)) (driven_paths s (anim.Pencil p) (layer_paths layer)) ++ bound_op layer
      tail =
          let long : length first_ops ≡ time_count layer.keys + animation_count pencil.action =
          length-append (linked (layer_time s p l)) (animation_of s (anim.Pencil p)) ∙ (λ i. (ops_length i) + animations i) in
          ap ops_of (sym start ∙ ap (λ n. drop n outs) (sym long)) ∙ behind first_ops _ outs layer_ops
        where
          ops_length : length (linked (layer_time s p l)) ≡ time_count layer.keys
          ops_length = by layer.keys refl
            where
              by : (keys : List LayerKey) → layer.keys ≡ keys → length (linked (layer_time s p l)) ≡ time_count keys
              by [] e = ap length (time_is [] e)
              by (key ∷ keys) e = ap length (time_is (key ∷ keys) e)

      numbers : cond (is_some pencil.action) (numbers_at outs (time_count layer.keys)) [] ≡ curve_numbers s (anim.Pencil p) shown
      numbers =
          (λ i. cond (is_some (sym action i)) (numbers_at outs (sym time_length i)) [])
          ∙ ap (λ numbers. cond (has_action s (anim.Pencil p)) numbers []) (sym (numbers_behind (length (layer_time s p l)) outs))

      place : driver_count 3 (after_animation s (anim.Pencil p) shown) ≡ bound_place s p layer
      place =
          drivers (paths.Layer layer.name) axis_place (layer_place layer.name) s (anim.Pencil p) axes (bound_op layer) (no_driver layer) (after_animation s (anim.Pencil p) shown) 3 (omega arith) tail

      offset_is : offset_by tables pencil.action layer outs ≡ layer_offset s p layer shown
      offset_is =
          (λ i. offset_from (λ axis. option_and_then (λ a. curve_at tables a (paths.Layer layer.name axis)) pencil.action) (numbers i) (driver_count 3 (start i)) (start i) layer.offset)
          ∙ ap v3_by (λ i axis. number_here (paths.Layer layer.name) axis_place (layer_place layer.name) s (anim.Pencil p) axes (bound_op layer) (no_driver layer)
          (after_animation s (anim.Pencil p) shown) 3 (omega arith) tail
          (curve_numbers s (anim.Pencil p) shown) (option_and_then (λ a. curve_at tables a (paths.Layer layer.name axis)) pencil.action) (coordinate_of layer.offset axis) axis
          (animated_is s tables are (anim.Pencil p) (paths.Layer layer.name axis) (curve_numbers s (anim.Pencil p) shown) pencil.action action) i)

      deform_is : (bound : BoneRef) → bound_deform s bound outs (bound_index pencil.action layer outs)
          ≡ bound_deform s bound (after_animation s (anim.Pencil p) shown) (bound_place s p layer)
      deform_is bound =
          deform_behind s bound outs (time_count layer.keys + animation_count pencil.action) (driver_count 3 (drop (time_count layer.keys + animation_count pencil.action) outs))
          ∙ (λ i. bound_deform s bound (start i) (driver_count 3 (start i)))
          ∙ ap (bound_deform s bound (after_animation s (anim.Pencil p) shown)) place

      layer_is : layer_by s tables pencil layer outs ≡ layer_shown s p pencil layer (frame_at outs 0) shown
      unfolding layer_shown
      layer_is =
          λ i. layer_strokes (option_and_then (slice_get pencil.drawings) (held_drawing layer.keys (frame_at outs 0))) (offset_is i) (option_map (λ bound. deform_is bound i) layer.bound)

      -- what its operation gives
      pub layer_gives : (mode : Mode) (frame : ℤ) → kernel s mode frame (Layer p l) outs ≡ Some (Strokes (layer_by s tables pencil layer outs))
      unfolding kernel
      layer_gives mode frame =
          ap (option_and_then (layer_output s p l outs)) is_pencil
          ∙ ap (option_map (λ layer. Strokes (layer_shown s p pencil layer (frame_at outs 0) shown))) is_layer
          ∙ ap (λ strokes. Some (Strokes strokes)) (sym layer_is)

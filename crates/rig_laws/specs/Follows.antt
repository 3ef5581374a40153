-- The value of each operation of a scene follows from the outputs that it takes at its in-links, and how it does looks at the
-- frame for the time alone.
use Rattle.std.specs.Prelude.{◌≡◌, ◌≢◌, ◌<◌, ◌&&◌, ℕ, zero, suc, List, [], ◌∷◌, ◌++◌, length, map, drop, slice_get, Bool, true, false, IsTrue, IfSome, nat_le, Option, Some, None, option_map, option_and_then, ℤ, Contains}
use Rattle.std.specs.Option.{option_map_or}
use Rattle.std.specs.List.{flat_map, range_with_len}
use Rattle.std.proofs.Common.{refl, sym, ap, subst, arith, ◌∙◌, true≢false}
use Rattle.std.proofs.lemmas.Bool.{and_parts, le-leb}
use Rattle.std.proofs.lemmas.List.{map-append, append-nil, append_assoc}
use Rattle.std.proofs.lemmas.List.Elements.{All-contains}
use Rattle.std.proofs.lemmas.Option.{same_Some}
use Rattle.rig_scene.specs.declared.action.Action.{Action}
use Rattle.rig_scene.specs.declared.driver.Driver.{Driver as DriverRecord}
use Rattle.rig_scene.specs.declared.id.AnimId.{AnimId}
use Rattle.rig_scene.specs.declared.id.AnimId.TheVariants as anim
use Rattle.rig_scene.specs.declared.id.ObjectId.{ObjectId}
use Rattle.rig_scene.specs.declared.limits.TheConstants.{MAX_RESULT_POINTS}
use Rattle.rig_scene.specs.declared.modifier.Mode.{Mode}
use Rattle.rig_scene.specs.declared.modifier.Modifier.{Modifier}
use Rattle.rig_scene.specs.declared.object.Kind.{Kind}
use Rattle.rig_scene.specs.declared.object.Kind.TheVariants as kind
use Rattle.rig_scene.specs.declared.object.Object.{Object}
use Rattle.rig_scene.specs.declared.operation.OpId.{OpId}
use Rattle.rig_scene.specs.declared.operation.OpId.TheVariants.{Time, Animation, Driver, Local, World, PoseInit, Bone, PoseDone, Layer, Geometry, ModifierOp, GeometryDone}
use Rattle.rig_scene.specs.declared.path.Path.{Path}
use Rattle.rig_scene.specs.declared.path.Path.TheVariants as paths
use Rattle.rig_scene.specs.declared.pencil.Layer.{Layer as LayerRecord}
use Rattle.rig_scene.specs.declared.pencil.LayerKey.{LayerKey}
use Rattle.rig_scene.specs.declared.pencil.PencilData.{PencilData}
use Rattle.rig_scene.specs.declared.pencil.Stroke.{Stroke}
use Rattle.rig_scene.specs.declared.quantity.Quantity.{Quantity}
use Rattle.rig_scene.specs.declared.quantity.Quantity.TheVariants as quantity
use Rattle.rig_scene.specs.Channel.{channels}
use Rattle.rig_scene.specs.ChannelNumber.{action_of, action_numbers, id_numbers}
use Rattle.rig_scene.specs.Drivers.{driver_of, has_action, action_index}
use Rattle.rig_scene.specs.Facts.{ObjectFacts, PencilFacts}
use Rattle.rig_scene.specs.FactsHold.{scene_facts}
use Rattle.rig_scene.specs.Found.{Contains-slice_get, some_slice_get}
use Rattle.rig_scene.specs.Id.{same_id}
use Rattle.rig_scene.specs.Layer.{held_drawing, joined_within}
use Rattle.rig_scene.specs.Operations.{kept_link, animation_of, operations, operation_of, links_of, variable_links, layer_time, last_geometry, ins}
use Rattle.rig_scene.specs.Order.{quantity_of-operation_of}
use Rattle.rig_scene.specs.Path.{same_path}
use Rattle.rig_scene.specs.Quantities.{inner_read, driven_reads, parent_reads, layer_reads, effect_reads, geometry_reads, modifiers_of, quantities, reads}
use Rattle.rig_scene.specs.Same.{same_id-equal, same_path-equal}
use Rattle.rig_scene.specs.Scene.{SceneRecord, object_of}
use Rattle.rig_scene.specs.Value.{Value, Numbers, Number, Transform, Strokes, strokes_in, inputs_at, geometry_value, value_from, val}
use Rattle.rig_scene.specs.Value as over
use Rattle.rig_scene.specs.WellFormed.{is_scene}
use Rattle.rig_laws.specs.FoundObject.{found_id, found_object}
use Rattle.rig_laws.specs.HasOperation.{operation_has}
use Rattle.rig_laws.specs.HasQuantity.{quantity_is_there}
use Rattle.rig_laws.specs.Lists.{find-Some, is_some-Some, some_where, option_and_then-Some}
use Rattle.rig_laws.specs.Members.{has_modifiers, has_geometry, is_posed, has_quantity, has_operation}
use Rattle.rig_laws.specs.NoDepth.{val_over}
use Rattle.rig_laws.specs.Kernel.{curve_numbers, after_animation, local_transform, world_transform, layer_shown, layer_output, driver_number, bone_output, visible_layers, modified_strokes, geometry_output, modifier_output, kernel}
use Rattle.rig_laws.specs.KindsTaken.{local_taken, world_taken, bone_taken, layer_taken, joined_taken, modified_taken}
use Rattle.rig_laws.specs.LinksTaken.{cut_at, read_at, value_of_quantity, links_taken, driver_taken}
use Rattle.rig_laws.specs.OperationValue.{operation_value}
use Rattle.rig_laws.specs.Output.{Output, output_at, strokes_at, frame_at}
use Rattle.rig_laws.specs.Taken.{taken, all_taken, opening, opening_numbers, opening_after, drop-behind}

-- a driver that is found has the id and the path
driver_is : (s : SceneRecord) (id : AnimId) (path : Path) (d : DriverRecord) → driver_of s id path ≡ Some d → quantity.Chan d.id d.path ≡ quantity.Chan id path
driver_is s id path d e =
    let parts = and_parts (same_id d.id id) (same_path d.path path) (find-Some (λ d. same_id d.id id && same_path d.path path) s.drivers d e).1 in
    let own = same_id-equal d.id id parts.0 in
    let way = same_path-equal d.path path parts.1 in
    λ i. quantity.Chan (own i) (way i)

-- ---- what a kind's geometry takes

module _ (s : SceneRecord) (mode : Mode) (frame : ℤ) (cut : Quantity → Bool) (get : Quantity → Value) where
  geometry_taken : (object : Object) → geometry_output s (all_taken cut get (geometry_reads s object 0)) object.kind ≡ geometry_value s mode get object.id 0 object.kind
  geometry_taken object = by object.kind
    where
      by_pencil : (p : ℕ) (found : Option PencilData) → option_map (λ pencil. Strokes (joined_within MAX_RESULT_POINTS (visible_layers pencil (all_taken cut get (option_map_or (λ pencil. map (λ l. inner_read (quantity.Layer p l)) (range_with_len 0 (length pencil.layers))) found []))))) found ≡ option_map (λ pencil. Strokes (over.joined_layers get p pencil)) found
      by_pencil p None = refl
      by_pencil p (Some pencil) = ap (λ d. Some (Strokes d)) (joined_taken s frame cut get p pencil)

      by : (k : Kind) → geometry_output s (all_taken cut get (geometry_reads s (record object { kind = k }) 0)) k ≡ geometry_value s mode get object.id 0 k
      by kind.Empty = refl
      by (kind.Armature armature pose) = refl
      by (kind.Pencil p modifiers) = by_pencil p (slice_get s.pencils p)

  modifier_taken : (object : Object) (before : ℕ) → modifier_output mode (suc before) (all_taken cut get (geometry_reads s object (suc before))) object ≡ geometry_value s mode get object.id (suc before) object.kind
  modifier_taken object before = by object.kind
    where
      by_modifier : (found : Option Modifier) → option_map (λ m. Strokes (modified_strokes mode m (taken cut get (quantity.Geom object.id before) ∷ all_taken cut get (option_map_or (λ m. effect_reads object.id m.effect) found [])))) found ≡ option_map (λ m. Strokes (over.modified_strokes mode get object.id before m)) found
      by_modifier None = refl
      by_modifier (Some m) = ap (λ d. Some (Strokes d)) (modified_taken s frame cut get mode object.id before m)

      by : (k : Kind) → modifier_output mode (suc before) (all_taken cut get (geometry_reads s (record object { kind = k }) (suc before))) (record object { kind = k }) ≡ geometry_value s mode get object.id (suc before) k
      by kind.Empty = refl
      by (kind.Armature armature pose) = refl
      by (kind.Pencil p modifiers) = by_modifier (slice_get modifiers before)

-- ---- what is found in a scene

-- a scene has the action that an id names
action_found : (s : SceneRecord) → IsTrue (is_scene s) → (id : AnimId) → has_action s id ≡ true → (action : Action) × (action_of s id ≡ Some action)
action_found s met (anim.Object o) h =
    let number = is_some-Some (action_index s (anim.Object o)) h in
    let found = option_and_then-Some (λ object. object.action) (object_of s o) number.0 number.1 in
    let facts = All-contains (ObjectFacts s) s.objects found.0 (scene_facts s met).objects.each (found_object s o found.0 found.1) in
    let within : number.0 < length s.actions = subst (λ a. IfSome a (λ n. n < length s.actions)) found.2 facts.action_is_there in
    let action = some_slice_get s.actions number.0 within in (
      action.0,
      ap (option_and_then (λ object. option_and_then (slice_get s.actions) object.action)) found.1 ∙ ap (option_and_then (slice_get s.actions)) found.2 ∙ action.1,
    )
action_found s met (anim.Pencil p) h =
    let number = is_some-Some (action_index s (anim.Pencil p)) h in
    let found = option_and_then-Some (λ pencil. pencil.action) (slice_get s.pencils p) number.0 number.1 in
    let facts = All-contains (PencilFacts s) s.pencils found.0 (scene_facts s met).pencils.each (Contains-slice_get s.pencils p found.0 found.1) in
    let within : number.0 < length s.actions = subst (λ a. IfSome a (λ n. n < length s.actions)) found.2 facts.action_is_there in
    let action = some_slice_get s.actions number.0 within in (
      action.0,
      ap (option_and_then (λ pencil. option_and_then (slice_get s.actions) pencil.action)) found.1 ∙ ap (option_and_then (slice_get s.actions)) found.2 ∙ action.1,
    )

module _ (s : SceneRecord) (met : IsTrue (is_scene s)) (mode : Mode) (frame : ℤ) where
  -- what an operation takes at its in-links, where each operation has its value
  abbrev ins_taken : OpId → List Output
  ins_taken op = map (output_at (operation_value s mode frame)) (ins s op)

  abbrev Follows : OpId → Type 0
  Follows op = kernel s mode frame op (ins_taken op) ≡ Some (operation_value s mode frame op)

  curves_first : (id : AnimId) (rest : List Output) → curve_numbers s id (opening (operation_value s mode frame) s id ++ rest) ≡ id_numbers s frame id
  unfolding operation_value
  curves_first id rest = opening_numbers s frame (operation_value s mode frame) id refl rest

  -- ---- the operations that stand for a quantity

  -- the kernel over what is taken at its in-links is the value over what each read gives
  abbrev IsValueOver : Quantity → Type 0
  IsValueOver q = kernel s mode frame (operation_of q) (ins_taken (operation_of q)) ≡ value_from s mode (inputs_at s frame) (cut_at s q) (read_at s mode frame q) q

  driver_over : (id : AnimId) (path : Path) → IsValueOver (quantity.Chan id path)
  unfolding kernel ins
  driver_over id path = by (driver_of s id path) refl
    where
      by : (found : Option DriverRecord) → driver_of s id path ≡ found → option_map (λ d. Number (driver_number s d (map (output_at (operation_value s mode frame)) (option_map_or (λ d. flat_map (variable_links s (quantity.Chan id path)) d.variables) found [])))) found ≡ option_map (λ d. Number (over.driver_number s (inputs_at s frame) (read_at s mode frame (quantity.Chan id path)) d)) found
      by None e = refl
      by (Some d) e = ap (λ n. Some (Number n)) (driver_taken s mode frame d (quantity.Chan id path) (driver_is s id path d e))

  local_over : (o : ObjectId) → Contains (quantities s) (quantity.Local o) → IsValueOver (quantity.Local o)
  unfolding kernel ins
  local_over o within =
      ap (λ inputs. option_map (λ object. Transform (local_transform s object inputs)) (object_of s o)) parts ∙ by (object_of s o) refl
    where
      values : OpId → Value
      values = operation_value s mode frame

      rest : List Output
      rest = all_taken (cut_at s (quantity.Local o)) (read_at s mode frame (quantity.Local o)) (driven_reads s (anim.Object o) (map paths.Own channels))

      parts : ins_taken (Local o) ≡ opening values s (anim.Object o) ++ rest
      parts =
          map-append (output_at values) (map kept_link (animation_of s (anim.Object o))) (links_of s (quantity.Local o))
          ∙ ap (λ xs. opening values s (anim.Object o) ++ xs) (links_taken s mode frame met (quantity.Local o) within)

      by : (found : Option Object) → object_of s o ≡ found → option_map (λ object. Transform (local_transform s object (opening values s (anim.Object o) ++ rest))) found ≡ option_map (λ object. Transform (over.local_transform s (inputs_at s frame) (read_at s mode frame (quantity.Local o)) object)) found
      by None e = refl
      by (Some object) e =
          let same : o ≡ object.id = sym (found_id s o object e) in
          let inputs = opening values s (anim.Object o) ++ rest in
          ap (λ t. Some (Transform t))
          (local_taken s frame (cut_at s (quantity.Local o)) (read_at s mode frame (quantity.Local o)) object inputs
          (subst (λ id. curve_numbers s (anim.Object id) inputs ≡ id_numbers s frame (anim.Object id)) same (curves_first (anim.Object o) rest))
          (subst (λ id. after_animation s (anim.Object id) inputs ≡ all_taken (cut_at s (quantity.Local o)) (read_at s mode frame (quantity.Local o)) (driven_reads s (anim.Object id) (map paths.Own channels))) same (opening_after s values (anim.Object o) rest)))

  world_over : (o : ObjectId) → Contains (quantities s) (quantity.World o) → IsValueOver (quantity.World o)
  unfolding kernel ins
  world_over o within =
      ap (λ inputs. option_map (λ object. Transform (world_transform object inputs)) (object_of s o)) (links_taken s mode frame met (quantity.World o) within) ∙ by (object_of s o) refl
    where
      cut : Quantity → Bool
      cut = cut_at s (quantity.World o)

      get : Quantity → Value
      get = read_at s mode frame (quantity.World o)

      by : (found : Option Object) → object_of s o ≡ found → option_map (λ object. Transform (world_transform object (taken cut get (quantity.Local o) ∷ all_taken cut get (option_map_or (λ object. parent_reads object.parent) found [])))) found ≡ option_map (λ object. Transform (over.world_transform get object)) found
      by None e = refl
      by (Some object) e =
          ap (λ t. Some (Transform t))
          (subst (λ id. world_transform object (taken cut get (quantity.Local id) ∷ all_taken cut get (parent_reads object.parent)) ≡ over.world_transform get object) (found_id s o object e)
          (world_taken s frame cut get object))

  bone_over : (o : ObjectId) (b : ℕ) → Contains (quantities s) (quantity.Bone o b) → IsValueOver (quantity.Bone o b)
  unfolding kernel ins operation_value
  bone_over o b within =
      let first = output_at (operation_value s mode frame) (kept_link (PoseInit o)) in
      ap (λ rest. option_and_then (λ object. bone_output s o b object.kind (first ∷ rest)) (object_of s o)) (links_taken s mode frame met (quantity.Bone o b) within)
      ∙ bone_taken s frame (cut_at s (quantity.Bone o b)) (read_at s mode frame (quantity.Bone o b)) o b first refl (object_of s o)

  -- the time comes first where a layer has keys
  time_first : (p l : ℕ) (layer : LayerRecord) (n : ℕ) (rest : List Output) → option_and_then (λ pencil. slice_get pencil.layers l) (slice_get s.pencils p) ≡ Some layer → length layer.keys ≡ suc n → frame_at (map (output_at (operation_value s mode frame)) (layer_time s p l) ++ rest) 0 ≡ frame
  unfolding operation_value
  time_first p l layer n rest e f = rw (e, f) refl

  layer_over : (p l : ℕ) → Contains (quantities s) (quantity.Layer p l) → IsValueOver (quantity.Layer p l)
  unfolding kernel ins operation_value
  layer_over p l within =
      ap (λ inputs. option_and_then (layer_output s p l inputs) (slice_get s.pencils p)) parts ∙ by (slice_get s.pencils p) refl
    where
      cut : Quantity → Bool
      cut = cut_at s (quantity.Layer p l)

      get : Quantity → Value
      get = read_at s mode frame (quantity.Layer p l)

      times : List Output
      times = map (output_at (operation_value s mode frame)) (layer_time s p l)

      behind : List Output
      behind = opening (operation_value s mode frame) s (anim.Pencil p) ++ all_taken cut get (reads s (quantity.Layer p l))

      parts : ins_taken (Layer p l) ≡ times ++ behind
      parts =
          map-append (output_at (operation_value s mode frame)) (layer_time s p l ++ map kept_link (animation_of s (anim.Pencil p))) (links_of s (quantity.Layer p l))
          ∙ (λ i. map-append (output_at (operation_value s mode frame)) (layer_time s p l) (map kept_link (animation_of s (anim.Pencil p))) i ++ links_taken s mode frame met (quantity.Layer p l) within i)
          ∙ append_assoc times (opening (operation_value s mode frame) s (anim.Pencil p)) (all_taken cut get (reads s (quantity.Layer p l)))

      held : (layer : LayerRecord) → option_and_then (λ pencil. slice_get pencil.layers l) (slice_get s.pencils p) ≡ Some layer → (keys : List LayerKey) → layer.keys ≡ keys → held_drawing keys (frame_at (times ++ behind) 0) ≡ held_drawing keys frame
      held layer e [] f = refl
      held layer e (k ∷ keys) f = ap (held_drawing (k ∷ keys)) (time_first p l layer (length keys) behind e (ap length f))

      found : (pencil : PencilData) (layer : LayerRecord) → slice_get s.pencils p ≡ Some pencil → slice_get pencil.layers l ≡ Some layer → layer_shown s p pencil layer (frame_at (times ++ behind) 0) (drop (length (layer_time s p l)) (times ++ behind)) ≡ over.shown_layer s (inputs_at s frame) cut get p pencil layer
      found pencil layer e f =
          let one : option_and_then (λ pencil. slice_get pencil.layers l) (slice_get s.pencils p) ≡ Some layer = ap (option_and_then (λ pencil. slice_get pencil.layers l)) e ∙ f in
          let after = drop-behind (output_at (operation_value s mode frame)) (layer_time s p l) behind in
          ap (layer_shown s p pencil layer (frame_at (times ++ behind) 0)) after
          ∙ layer_taken s frame cut get p pencil layer (frame_at (times ++ behind) 0) behind (held layer one layer.keys refl)
          (curves_first (anim.Pencil p) (all_taken cut get (reads s (quantity.Layer p l))))
          (opening_after s (operation_value s mode frame) (anim.Pencil p) (all_taken cut get (reads s (quantity.Layer p l)))
          ∙ ap (λ o. all_taken cut get (option_map_or (layer_reads s p) o [])) one)

      by_layer : (pencil : PencilData) → slice_get s.pencils p ≡ Some pencil → (layer : Option LayerRecord) → slice_get pencil.layers l ≡ layer → option_map (λ layer. Strokes (layer_shown s p pencil layer (frame_at (times ++ behind) 0) (drop (length (layer_time s p l)) (times ++ behind)))) layer ≡ option_map (λ layer. Strokes (over.shown_layer s (inputs_at s frame) cut get p pencil layer)) layer
      by_layer pencil e None f = refl
      by_layer pencil e (Some layer) f = ap (λ d. Some (Strokes d)) (found pencil layer e f)

      by : (pencil : Option PencilData) → slice_get s.pencils p ≡ pencil → option_and_then (layer_output s p l (times ++ behind)) pencil ≡ option_and_then (λ pencil. option_map (λ layer. Strokes (over.shown_layer s (inputs_at s frame) cut get p pencil layer)) (slice_get pencil.layers l)) pencil
      by None e = refl
      by (Some pencil) e = by_layer pencil e (slice_get pencil.layers l) refl

  geometry_over : (o : ObjectId) → Contains (quantities s) (quantity.Geom o 0) → IsValueOver (quantity.Geom o 0)
  unfolding kernel ins
  geometry_over o within =
      ap (λ inputs. option_and_then (λ object. geometry_output s inputs object.kind) (object_of s o)) (links_taken s mode frame met (quantity.Geom o 0) within) ∙ by (object_of s o) refl
    where
      cut : Quantity → Bool
      cut = cut_at s (quantity.Geom o 0)

      get : Quantity → Value
      get = read_at s mode frame (quantity.Geom o 0)

      by : (found : Option Object) → object_of s o ≡ found → option_and_then (λ object. geometry_output s (all_taken cut get (option_map_or (λ object. geometry_reads s object 0) found [])) object.kind) found ≡ option_and_then (λ object. geometry_value s mode get o 0 object.kind) found
      by None e = refl
      by (Some object) e = subst (λ id. geometry_output s (all_taken cut get (geometry_reads s object 0)) object.kind ≡ geometry_value s mode get id 0 object.kind) (found_id s o object e) (geometry_taken s mode frame cut get object)

  modifier_over : (o : ObjectId) (before : ℕ) → Contains (quantities s) (quantity.Geom o (suc before)) → IsValueOver (quantity.Geom o (suc before))
  unfolding kernel ins
  modifier_over o before within =
      ap (λ inputs. option_and_then (modifier_output mode (suc before) inputs) (object_of s o)) (links_taken s mode frame met (quantity.Geom o (suc before)) within) ∙ by (object_of s o) refl
    where
      cut : Quantity → Bool
      cut = cut_at s (quantity.Geom o (suc before))

      get : Quantity → Value
      get = read_at s mode frame (quantity.Geom o (suc before))

      by : (found : Option Object) → object_of s o ≡ found → option_and_then (modifier_output mode (suc before) (all_taken cut get (option_map_or (λ object. geometry_reads s object (suc before)) found []))) found ≡ option_and_then (λ object. geometry_value s mode get o (suc before) object.kind) found
      by None e = refl
      by (Some object) e = subst (λ id. modifier_output mode (suc before) (all_taken cut get (geometry_reads s object (suc before))) object ≡ geometry_value s mode get id (suc before) object.kind) (found_id s o object e) (modifier_taken s mode frame cut get object before)

  over_reads : (q : Quantity) → Contains (quantities s) q → IsValueOver q
  over_reads (quantity.Chan id path) within = driver_over id path
  over_reads (quantity.Local o) within = local_over o within
  over_reads (quantity.World o) within = world_over o within
  over_reads (quantity.Bone o b) within = bone_over o b within
  over_reads (quantity.Layer p l) within = layer_over p l within
  over_reads (quantity.Geom o zero) within = geometry_over o within
  over_reads (quantity.Geom o (suc before)) within = modifier_over o before within

  of_quantity : (q : Quantity) → IsTrue (has_quantity s q) → Follows (operation_of q)
  of_quantity q h =
      let within = quantity_is_there s met q h in
      over_reads q within ∙ val_over s met mode frame q within ∙ ap Some (sym (value_of_quantity s mode frame (operation_of q) q (quantity_of-operation_of q)))

  -- ---- the others

  of_animation : (id : AnimId) → has_action s id ≡ true → Follows (Animation id)
  unfolding kernel ins operation_value
  of_animation id h =
      let found = action_found s met id h in
      ap (option_map (λ action. Numbers (action_numbers action frame))) found.1
      ∙ sym (ap (λ a. Some (Numbers (option_map_or (λ action. action_numbers action frame) a []))) found.1)

  of_start : (o : ObjectId) → option_map_or (λ object. is_posed object.kind) (object_of s o) false ≡ true → Follows (PoseInit o)
  unfolding kernel ins operation_value
  of_start o h =
      let found = some_where (λ object. is_posed object.kind) (object_of s o) h in
      ap (option_map (λ object. Numbers (curve_numbers s (anim.Object o) (opening (operation_value s mode frame) s (anim.Object o))))) found.1
      ∙ ap (λ inputs. Some (Numbers (curve_numbers s (anim.Object o) inputs))) (sym (append-nil (opening (operation_value s mode frame) s (anim.Object o))))
      ∙ ap (λ ns. Some (Numbers ns)) (curves_first (anim.Object o) [])

  of_end : (o : ObjectId) → option_map_or (λ object. is_posed object.kind) (object_of s o) false ≡ true → Follows (PoseDone o)
  unfolding kernel operation_value
  of_end o h =
      let found = some_where (λ object. is_posed object.kind) (object_of s o) h in
      ap (option_map (λ object. Numbers [])) found.1

  -- the value of a geometry is its strokes
  are_strokes : (o : ObjectId) (i : ℕ) → IsTrue (has_geometry s o i) → Strokes (strokes_in (val s mode frame (quantity.Geom o i))) ≡ val s mode frame (quantity.Geom o i)
  are_strokes o i h = by i (object_of s o) (val_over s met mode frame (quantity.Geom o i) (quantity_is_there s met (quantity.Geom o i) h))
    where
      get : Quantity → Value
      get = read_at s mode frame (quantity.Geom o i)

      by_map : {X : Type 0} (f : X → List Stroke) (found : Option X) (value : Value) → option_map (λ x. Strokes (f x)) found ≡ Some value → Strokes (strokes_in value) ≡ value
      by_map f None value e = absurd (cc)
      by_map f (Some x) value e = let same : Strokes (f x) ≡ value = same_Some (Strokes (f x)) value e in subst (λ v. Strokes (strokes_in v) ≡ v) same refl

      by_kind : (n : ℕ) (k : Kind) (value : Value) → geometry_value s mode get o n k ≡ Some value → Strokes (strokes_in value) ≡ value
      by_kind n kind.Empty value e = absurd (cc)
      by_kind n (kind.Armature armature pose) value e = absurd (cc)
      by_kind zero (kind.Pencil p modifiers) value e = by_map (over.joined_layers get p) (slice_get s.pencils p) value e
      by_kind (suc n) (kind.Pencil p modifiers) value e = by_map (over.modified_strokes mode get o n) (slice_get modifiers n) value e

      by : (n : ℕ) (found : Option Object) → option_and_then (λ object. geometry_value s mode get o n object.kind) found ≡ Some (val s mode frame (quantity.Geom o i)) → Strokes (strokes_in (val s mode frame (quantity.Geom o i))) ≡ val s mode frame (quantity.Geom o i)
      by n None e = absurd (cc)
      by n (Some object) e = by_kind n object.kind (val s mode frame (quantity.Geom o i)) e

  last_value : (o : ObjectId) (n : ℕ) → operation_value s mode frame (last_geometry o n) ≡ val s mode frame (quantity.Geom o n)
  last_value o zero = value_of_quantity s mode frame (Geometry o) (quantity.Geom o 0) refl
  last_value o (suc i) = value_of_quantity s mode frame (ModifierOp o (suc i)) (quantity.Geom o (suc i)) refl

  all_modifiers : (k : Kind) → has_modifiers 0 k ≡ true → has_modifiers (length (modifiers_of k)) k ≡ true
  all_modifiers kind.Empty h = h
  all_modifiers (kind.Armature armature pose) h = h
  all_modifiers (kind.Pencil p modifiers) h = le-leb (length modifiers) (length modifiers) (omega arith)

  of_result : (o : ObjectId) → IsTrue (has_geometry s o 0) → Follows (GeometryDone o)
  unfolding kernel ins operation_value
  of_result o h =
      let found = some_where (λ object. has_modifiers 0 object.kind) (object_of s o) h in
      let n = length (modifiers_of found.0.kind) in
      let there : IsTrue (has_geometry s o n) = ap (λ f. option_map_or (λ object. has_modifiers n object.kind) f false) found.1 ∙ all_modifiers found.0.kind found.2 in
      ap (λ f. option_map (λ object. Strokes (strokes_at (map (output_at (operation_value s mode frame)) (option_map_or (λ object. kept_link (last_geometry o (length (modifiers_of object.kind))) ∷ []) f [])) 0)) f) found.1
      ∙ ap (λ v. Some (Strokes (strokes_in v))) (last_value o n)
      ∙ ap Some (are_strokes o n there)
      ∙ sym (ap (λ f. Some (option_map_or (λ object. val s mode frame (quantity.Geom o (length (modifiers_of object.kind)))) f (Numbers []))) found.1)

  -- ---- all of them

  of_time : Follows Time
  unfolding kernel operation_value
  of_time = refl

  follows_there : (op : OpId) → IsTrue (has_operation s op) → Follows op
  follows_there Time h = of_time
  follows_there (Animation id) h = of_animation id h
  follows_there (Driver id path) h = of_quantity (quantity.Chan id path) h
  follows_there (Local o) h = of_quantity (quantity.Local o) h
  follows_there (World o) h = of_quantity (quantity.World o) h
  follows_there (PoseInit o) h = of_start o h
  follows_there (Bone o b) h = of_quantity (quantity.Bone o b) h
  follows_there (PoseDone o) h = of_end o h
  follows_there (Layer p l) h = of_quantity (quantity.Layer p l) h
  follows_there (Geometry o) h = of_quantity (quantity.Geom o 0) h
  follows_there (ModifierOp o zero) h = absurd (true≢false (sym h))
  follows_there (ModifierOp o (suc i)) h = of_quantity (quantity.Geom o (suc i)) (and_parts (nat_le 1 (suc i)) (has_geometry s o (suc i)) h).1
  follows_there (GeometryDone o) h = of_result o h

-- The value of an operation of a scene is the kernel over what it takes at its in-links, where each operation has its value.
pub values_follow : (s : SceneRecord) → IsTrue (is_scene s) → (mode : Mode) (frame : ℤ) (op : OpId) → Contains (operations s) op → kernel s mode frame op (map (output_at (operation_value s mode frame)) (ins s op)) ≡ Some (operation_value s mode frame op)
values_follow s met mode frame op within = follows_there s met mode frame op (operation_has s met op within)

-- what the kernel gives over those inputs is that value
pub value_from_inputs : (s : SceneRecord) → IsTrue (is_scene s) → (mode : Mode) (frame : ℤ) (op : OpId) (inputs : List Output) (value : Value) → Contains (operations s) op → inputs ≡ map (output_at (operation_value s mode frame)) (ins s op) → kernel s mode frame op inputs ≡ Some value → value ≡ operation_value s mode frame op
value_from_inputs s met mode frame op inputs value within taken given =
    same_Some value (operation_value s mode frame op) (sym given ∙ ap (kernel s mode frame op) taken ∙ values_follow s met mode frame op within)

-- no operation other than the time looks at the frame
pub looks_at_no_frame : (s : SceneRecord) (mode : Mode) (op : OpId) (inputs : List Output) (f g : ℤ) → op ≢ Time → kernel s mode f op inputs ≡ kernel s mode g op inputs
unfolding kernel
looks_at_no_frame s mode Time inputs f g other = absurd (other refl)
looks_at_no_frame s mode (Animation id) inputs f g other = refl
looks_at_no_frame s mode (Driver id path) inputs f g other = refl
looks_at_no_frame s mode (Local o) inputs f g other = refl
looks_at_no_frame s mode (World o) inputs f g other = refl
looks_at_no_frame s mode (PoseInit o) inputs f g other = refl
looks_at_no_frame s mode (Bone o b) inputs f g other = refl
looks_at_no_frame s mode (PoseDone o) inputs f g other = refl
looks_at_no_frame s mode (Layer p l) inputs f g other = refl
looks_at_no_frame s mode (Geometry o) inputs f g other = refl
looks_at_no_frame s mode (ModifierOp o i) inputs f g other = refl
looks_at_no_frame s mode (GeometryDone o) inputs f g other = refl

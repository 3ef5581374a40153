-- Each operation's in-links are in step with its links as reads.
use Rattle.std.specs.Prelude.{◌≡◌, ℕ, zero, suc, List, [], ◌∷◌, ◌++◌, map, length, Bool, true, false, IsTrue, Option, Some, None, slice_get, option_and_then, if◌then◌else◌, All}
use Rattle.std.specs.Option.{option_map_or}
use Rattle.std.specs.List.{flat_map, range_with_len}
use Rattle.std.proofs.Common.{refl, sym, true≢false}
use Rattle.std.proofs.lemmas.List.Elements.{All-nil}
use Rattle.rig_cycles.specs.Cut.{Arrow}
use Rattle.rig_scene.specs.declared.driver.Variable.{Variable}
use Rattle.rig_scene.specs.declared.driver.Variable.TheVariants.{Property, Transform}
use Rattle.rig_scene.specs.declared.id.AnimId.{AnimId}
use Rattle.rig_scene.specs.declared.id.AnimId.TheVariants as anim
use Rattle.rig_scene.specs.declared.id.ObjectId.{ObjectId}
use Rattle.rig_scene.specs.declared.object.Kind.{Kind}
use Rattle.rig_scene.specs.declared.object.Kind.TheVariants as kind
use Rattle.rig_scene.specs.declared.operation.OpId.{OpId}
use Rattle.rig_scene.specs.declared.operation.OpId.TheVariants.{Time, Animation, Driver, Local, World, PoseInit, Bone, PoseDone, Layer, Geometry, ModifierOp, GeometryDone}
use Rattle.rig_scene.specs.declared.pencil.Layer.{Layer as LayerRecord}
use Rattle.rig_scene.specs.declared.quantity.Quantity.{Quantity}
use Rattle.rig_scene.specs.declared.quantity.Quantity.TheVariants as quantity
use Rattle.rig_scene.specs.declared.quantity.Read.{Read}
use Rattle.rig_scene.specs.Cut.{is_cut}
use Rattle.rig_scene.specs.Drivers.{driver_of, is_driven, has_action}
use Rattle.rig_scene.specs.Operations.{InLink, kept_link, animation_of, operation_of, link_of, links_of, variable_links, layer_time, bone_links, last_geometry, ins}
use Rattle.rig_scene.specs.Quantities.{reads, reference_read, space_quantity, variable_reads, modifiers_of}
use Rattle.rig_scene.specs.Scene.{SceneRecord, object_of}
use Rattle.rig_laws.specs.InStep.{InStep, step_append, step_others, step_reads, step_each, step_option}
use Rattle.rig_laws.specs.InStep.InStep.{nothing, other, reading}
use Rattle.rig_laws.specs.LinkArrows.{inner_link, reference_link, read_links, variable_arrows, time_arrows, bone_arrows, link_arrows}
use Rattle.rig_laws.specs.Lists.{All-one}

-- whether an operation is one of those that come first, which read only one another
abbrev pub is_opening : OpId → Bool
is_opening Time = true
is_opening (Animation id) = true
is_opening (PoseInit o) = true
is_opening op = false

-- whether it is one of those that end a pose or a geometry
abbrev pub is_ending : OpId → Bool
is_ending (PoseDone o) = true
is_ending (GeometryDone o) = true
is_ending op = false

-- what holds of all operations, and of no read
abbrev pub any : OpId → Bool
any op = true

abbrev pub none_cut : Read → Bool
none_cut r = false

module _ (s : SceneRecord) where
  -- the links of a quantity's operation
  abbrev pub AreInStep : Quantity → List (Arrow OpId) → List InLink → List Read → Type 0
  AreInStep q xs ls rs = InStep (operation_of q) (λ r. is_cut s r.source q) is_opening xs ls rs

  -- those of an operation that stands for none
  abbrev pub AreOthers : OpId → (OpId → Bool) → List (Arrow OpId) → List InLink → Type 0
  AreOthers op passes xs ls = InStep op none_cut passes xs ls []

  openings : (id : AnimId) → All (λ o. IsTrue (is_opening o)) (animation_of s id)
  openings id = by (has_action s id)
    where
      by : (b : Bool) → All (λ o. IsTrue (is_opening o)) (if b then Animation id ∷ [] else [])
      by true = All-one (λ o. IsTrue (is_opening o)) (Animation id) refl
      by false = All-nil (λ o. IsTrue (is_opening o))

  of_animation : (q : Quantity) (id : AnimId) → AreInStep q (map (inner_link (operation_of q)) (animation_of s id)) (map kept_link (animation_of s id)) []
  of_animation q id = step_others (operation_of q) (λ r. is_cut s r.source q) is_opening (animation_of s id) (openings id)

  of_reads : (q : Quantity) → AreInStep q (read_links s (operation_of q) q) (links_of s q) (reads s q)
  of_reads q = step_reads (operation_of q) (λ r. is_cut s r.source q) is_opening (reads s q)

  of_variable : (q : Quantity) (v : Variable) → AreInStep q (variable_arrows s (operation_of q) v) (variable_links s q v) (variable_reads s v)
  of_variable q (Property id p) = by (is_driven s id p)
    where
      by : (b : Bool) → AreInStep q (if b then reference_link (operation_of q) (Driver id p) ∷ [] else map (inner_link (operation_of q)) (animation_of s id)) (if b then link_of s q (reference_read (quantity.Chan id p)) ∷ [] else map kept_link (animation_of s id)) (if b then reference_read (quantity.Chan id p) ∷ [] else [])
      by true = reading (reference_read (quantity.Chan id p)) nothing
      by false = of_animation q id
  of_variable q (Transform o space channel) = reading (reference_read (space_quantity o space)) nothing

  of_time : (p l : ℕ) → AreInStep (quantity.Layer p l) (time_arrows s (Layer p l) p l) (layer_time s p l) []
  of_time p l = by_layer (option_and_then (λ pencil. slice_get pencil.layers l) (slice_get s.pencils p)) refl
    where
      by_length : (layer : LayerRecord) → option_and_then (λ pencil. slice_get pencil.layers l) (slice_get s.pencils p) ≡ Some layer → (n : ℕ) → length layer.keys ≡ n → AreInStep (quantity.Layer p l) (time_arrows s (Layer p l) p l) (layer_time s p l) []
      by_length layer e zero f = rw (e, f) nothing
      by_length layer e (suc n) f = rw (e, f) (other Time refl nothing)

      by_layer : (o : Option LayerRecord) → option_and_then (λ pencil. slice_get pencil.layers l) (slice_get s.pencils p) ≡ o → AreInStep (quantity.Layer p l) (time_arrows s (Layer p l) p l) (layer_time s p l) []
      by_layer None e = rw e nothing
      by_layer (Some layer) e = by_length layer e (length layer.keys) refl

  -- two lists joined of a quantity
  join : (q : Quantity) (xs ys : List (Arrow OpId)) (ls ms : List InLink) (rs ts : List Read) → AreInStep q xs ls rs → AreInStep q ys ms ts → AreInStep q (xs ++ ys) (ls ++ ms) (rs ++ ts)
  join q xs ys ls ms rs ts h k = step_append (operation_of q) (λ r. is_cut s r.source q) is_opening h k

  pub quantity_in_step : (q : Quantity) → AreInStep q (link_arrows s (operation_of q)) (ins s (operation_of q)) (reads s q)
  unfolding link_arrows ins
  quantity_in_step (quantity.Chan id p) =
      let q = quantity.Chan id p in
      step_option (operation_of q) (λ r. is_cut s r.source q) is_opening (λ d. flat_map (variable_arrows s (operation_of q)) d.variables) (λ d. flat_map (variable_links s q) d.variables) (λ d. flat_map (variable_reads s) d.variables)
      (λ d. step_each (operation_of q) (λ r. is_cut s r.source q) is_opening (variable_arrows s (operation_of q)) (variable_links s q) (variable_reads s) (of_variable q) d.variables) (driver_of s id p)
  quantity_in_step (quantity.Local o) = join (quantity.Local o) _ _ _ _ _ _ (of_animation (quantity.Local o) (anim.Object o)) (of_reads (quantity.Local o))
  quantity_in_step (quantity.World o) = of_reads (quantity.World o)
  quantity_in_step (quantity.Bone o b) = other (PoseInit o) refl (of_reads (quantity.Bone o b))
  quantity_in_step (quantity.Layer p l) =
      let q = quantity.Layer p l in
      join q _ _ _ _ _ _ (join q _ _ _ _ _ _ (of_time p l) (of_animation q (anim.Pencil p))) (of_reads q)
  quantity_in_step (quantity.Geom o zero) = of_reads (quantity.Geom o zero)
  quantity_in_step (quantity.Geom o (suc i)) = of_reads (quantity.Geom o (suc i))

  of_bones : (o : ObjectId) (k : Kind) → AreOthers (PoseDone o) any (bone_arrows (PoseDone o) o k) (bone_links o k)
  of_bones o kind.Empty = nothing
  of_bones o (kind.Armature n pose) = each (range_with_len 0 (length pose))
    where
      each : (bones : List ℕ) → AreOthers (PoseDone o) any (map (λ b. inner_link (PoseDone o) (Bone o b)) bones) (map (λ b. kept_link (Bone o b)) bones)
      each [] = nothing
      each (b ∷ bones) = other (Bone o b) refl (each bones)
  of_bones o (kind.Pencil p modifiers) = nothing

  pub opening_in_step : (op : OpId) → IsTrue (is_opening op) → AreOthers op is_opening (link_arrows s op) (ins s op)
  unfolding link_arrows ins
  opening_in_step Time h = nothing
  opening_in_step (Animation id) h = other Time refl nothing
  opening_in_step (PoseInit o) h = step_others (PoseInit o) none_cut is_opening (animation_of s (anim.Object o)) (openings (anim.Object o))
  opening_in_step op h = absurd (true≢false (sym h))

  option_others : (op : OpId) {X : Type 0} (f : X → List (Arrow OpId)) (g : X → List InLink) → ((x : X) → AreOthers op any (f x) (g x)) → (o : Option X) → AreOthers op any (option_map_or f o []) (option_map_or g o [])
  option_others op f g each None = nothing
  option_others op f g each (Some x) = each x

  pub ending_in_step : (op : OpId) → IsTrue (is_ending op) → AreOthers op any (link_arrows s op) (ins s op)
  unfolding link_arrows ins
  ending_in_step (PoseDone o) h =
      option_others (PoseDone o) (λ object. bone_arrows (PoseDone o) o object.kind) (λ object. bone_links o object.kind) (λ object. of_bones o object.kind) (object_of s o)
  ending_in_step (GeometryDone o) h =
      option_others (GeometryDone o) (λ object. inner_link (GeometryDone o) (last_geometry o (length (modifiers_of object.kind))) ∷ []) (λ object. kept_link (last_geometry o (length (modifiers_of object.kind))) ∷ [])
      (λ object. other (last_geometry o (length (modifiers_of object.kind))) refl nothing) (object_of s o)
  ending_in_step op h = absurd (true≢false (sym h))

  -- the links of an operation, in step with the reads of some quantity or with none
  abbrev pub IsInStep : OpId → Type 0
  IsInStep op = (is_cut : Read → Bool) × (passes : OpId → Bool) × (rs : List Read) × InStep op is_cut passes (link_arrows s op) (ins s op) rs

  of_quantity : (q : Quantity) → IsInStep (operation_of q)
  of_quantity q = ((λ r. is_cut s r.source q), is_opening, reads s q, quantity_in_step q)

  of_modifier : (o : ObjectId) (i : ℕ) → IsInStep (ModifierOp o i)
  unfolding link_arrows ins
  of_modifier o i =
      let q = quantity.Geom o i in
      ((λ r. is_cut s r.source q), is_opening, reads s q, step_reads (ModifierOp o i) (λ r. is_cut s r.source q) is_opening (reads s q))

  pub in_step : (op : OpId) → IsInStep op
  in_step Time = (none_cut, is_opening, [], opening_in_step Time refl)
  in_step (Animation id) = (none_cut, is_opening, [], opening_in_step (Animation id) refl)
  in_step (Driver id p) = of_quantity (quantity.Chan id p)
  in_step (Local o) = of_quantity (quantity.Local o)
  in_step (World o) = of_quantity (quantity.World o)
  in_step (PoseInit o) = (none_cut, is_opening, [], opening_in_step (PoseInit o) refl)
  in_step (Bone o b) = of_quantity (quantity.Bone o b)
  in_step (PoseDone o) = (none_cut, any, [], ending_in_step (PoseDone o) refl)
  in_step (Layer p l) = of_quantity (quantity.Layer p l)
  in_step (Geometry o) = of_quantity (quantity.Geom o 0)
  in_step (ModifierOp o i) = of_modifier o i
  in_step (GeometryDone o) = (none_cut, any, [], ending_in_step (GeometryDone o) refl)

-- A scene has the quantities, cuts, operations and in-links of its shape.
use Rattle.std.specs.Prelude.{◌≡◌, ℕ, zero, suc, ◌+◌, ◌&&◌, List, [], ◌∷◌, ◌++◌, length, map, filter, slice_get, not, Option, Some, None, option_map, option_and_then, is_some}
use Rattle.std.specs.Option.{option_map_or}
use Rattle.std.specs.List.{flat_map, range_with_len, enumerate_from}
use Rattle.std.proofs.Common.{refl, sym, ap, ◌∙◌, cond}
use Rattle.std.proofs.lemmas.List.{length-map}
use Rattle.std.proofs.lemmas.Option.{slice_get-map}
use Rattle.rig_cycles.specs.Cut.{Arrow, cuts_from}
use Rattle.rig_scene.specs.declared.armature.ArmatureData.{ArmatureData}
use Rattle.rig_scene.specs.declared.armature.RestBone.{RestBone}
use Rattle.rig_scene.specs.declared.driver.Variable.{Variable}
use Rattle.rig_scene.specs.declared.driver.Variable.TheVariants as variable
use Rattle.rig_scene.specs.declared.id.AnimId.{AnimId}
use Rattle.rig_scene.specs.declared.id.AnimId.TheVariants as anim
use Rattle.rig_scene.specs.declared.id.ObjectId.{ObjectId}
use Rattle.rig_scene.specs.declared.modifier.Modifier.{Modifier}
use Rattle.rig_scene.specs.declared.object.Kind.{Kind}
use Rattle.rig_scene.specs.declared.object.Kind.TheVariants as kind
use Rattle.rig_scene.specs.declared.object.Object.{Object}
use Rattle.rig_scene.specs.declared.operation.OpId.{OpId}
use Rattle.rig_scene.specs.declared.operation.OpId.TheVariants.{Time, Animation, Driver, Local, World, PoseInit, Bone, PoseDone, Layer, Geometry, ModifierOp, GeometryDone}
use Rattle.rig_scene.specs.declared.pencil.Layer.{Layer as LayerRecord}
use Rattle.rig_scene.specs.declared.pencil.LayerKey.{LayerKey}
use Rattle.rig_scene.specs.declared.pencil.PencilData.{PencilData}
use Rattle.rig_scene.specs.declared.quantity.CutRead.{CutRead}
use Rattle.rig_scene.specs.declared.quantity.Quantity.{Quantity}
use Rattle.rig_scene.specs.declared.quantity.Quantity.TheVariants as quantity
use Rattle.rig_scene.specs.declared.quantity.Read.{Read}
use Rattle.rig_scene.specs.Cut.{arrows, cuts, is_among}
use Rattle.rig_scene.specs.Drivers.{driver_of, action_index}
use Rattle.rig_scene.specs.Operations.{InLink, kept_link, operation_of, animation_of, driver_operations, pencil_operations, kind_operations, object_operations, operations, link_of, links_of, variable_links, layer_time, bone_links, last_geometry, ins}
use Rattle.rig_scene.specs.Id.{same_object}
use Rattle.rig_scene.specs.Quantities.{same_quantity, chans_of, pencil_quantities, kind_quantities, object_quantities, quantities, inner_read, reference_read, space_quantity, parent_reads, bone_reads, layer_reads, effect_reads, modifiers_of, geometry_reads, reads}
use Rattle.rig_scene.specs.Scene.{SceneRecord, object_of, armature_of}
use Rattle.rig_scene.specs.WellFormed.{bones_of}
use Rattle.rig_edits.specs.Replaced.{find-of_map}
use Rattle.rig_touch.specs.Shape.{keys_shape, layer_shape, pencil_shape, modifier_shape, kind_shape, object_shape, shape}

-- ---- what is read of a record's shape

-- what is read of what is there
or_through : {A B : Type 0} (f : A → A) (g h : A → B) (z : B) → ((x : A) → g (f x) ≡ h x) → (o : Option A)
    → option_map_or g (option_map f o) z ≡ option_map_or h o z
or_through f g h z same None = refl
or_through f g h z same (Some x) = same x

then_through : {A B : Type 0} (f : A → A) (g h : A → Option B) → ((x : A) → g (f x) ≡ h x) → (o : Option A)
    → option_and_then g (option_map f o) ≡ option_and_then h o
then_through f g h same None = refl
then_through f g h same (Some x) = same x

-- what is made of each, or of each with its index
pub flat_through : {A B : Type 0} (f : A → A) (g h : A → List B) → ((x : A) → g (f x) ≡ h x) → (xs : List A)
    → flat_map g (map f xs) ≡ flat_map h xs
flat_through f g h same [] = refl
flat_through f g h same (x ∷ xs) = λ i. same x i ++ flat_through f g h same xs i

numbered_through : {A B : Type 0} (f : A → A) (g h : ℕ × A → List B) → ((n : ℕ) (x : A) → g (n, f x) ≡ h (n, x)) → (n : ℕ) (xs : List A)
    → flat_map g (enumerate_from n (map f xs)) ≡ flat_map h (enumerate_from n xs)
numbered_through f g h same n [] = refl
numbered_through f g h same n (x ∷ xs) = λ i. same n x i ++ numbered_through f g h same (n + 1) xs i

flat_same : {A B : Type 0} (g h : A → List B) → ((x : A) → g x ≡ h x) → (xs : List A) → flat_map g xs ≡ flat_map h xs
flat_same g h same [] = refl
flat_same g h same (x ∷ xs) = λ i. same x i ++ flat_same g h same xs i

-- ---- the quantities and operations of a kind

kind_quantities-shape : (o : ObjectId) (k : Kind) → kind_quantities o (kind_shape k) ≡ kind_quantities o k
kind_quantities-shape o kind.Empty = refl
kind_quantities-shape o (kind.Armature armature pose) = ap (λ n. map (quantity.Bone o) (range_with_len 0 n)) (length-map pose _)
kind_quantities-shape o (kind.Pencil pencil modifiers) =
    ap (λ n. map (quantity.Geom o) (range_with_len 0 (n + 1))) (length-map modifiers modifier_shape)

kind_operations-shape : (o : ObjectId) (k : Kind) → kind_operations o (kind_shape k) ≡ kind_operations o k
kind_operations-shape o kind.Empty = refl
kind_operations-shape o (kind.Armature armature pose) =
    ap (λ n. PoseInit o ∷ (map (Bone o) (range_with_len 0 n) ++ PoseDone o ∷ [])) (length-map pose _)
kind_operations-shape o (kind.Pencil pencil modifiers) =
    ap (λ n. Geometry o ∷ (map (ModifierOp o) (range_with_len 1 n) ++ GeometryDone o ∷ [])) (length-map modifiers modifier_shape)

bone_links-shape : (o : ObjectId) (k : Kind) → bone_links o (kind_shape k) ≡ bone_links o k
bone_links-shape o kind.Empty = refl
bone_links-shape o (kind.Armature armature pose) = ap (λ n. map (λ b. kept_link (Bone o b)) (range_with_len 0 n)) (length-map pose _)
bone_links-shape o (kind.Pencil pencil modifiers) = refl

stack_length-shape : (k : Kind) → length (modifiers_of (kind_shape k)) ≡ length (modifiers_of k)
stack_length-shape kind.Empty = refl
stack_length-shape (kind.Armature armature pose) = refl
stack_length-shape (kind.Pencil pencil modifiers) = length-map modifiers modifier_shape

-- what a modifier reads
stack_at-shape : (o : ObjectId) (k : Kind) (i : ℕ)
    → option_map_or (λ m. effect_reads o m.effect) (slice_get (modifiers_of (kind_shape k)) i) []
    ≡ option_map_or (λ m. effect_reads o m.effect) (slice_get (modifiers_of k) i) []
stack_at-shape o kind.Empty i = refl
stack_at-shape o (kind.Armature armature pose) i = refl
stack_at-shape o (kind.Pencil pencil modifiers) i =
    ap (λ r. option_map_or (λ (m : Modifier). effect_reads o m.effect) r []) (slice_get-map modifier_shape modifiers i)
    ∙ or_through modifier_shape (λ m. effect_reads o m.effect) (λ m. effect_reads o m.effect) [] (λ m. refl) (slice_get modifiers i)

-- ---- the time, for a layer with keys

time_with : List LayerKey → List InLink
time_with [] = []
time_with (key ∷ keys) = kept_link Time ∷ []

time_for : Option LayerRecord → List InLink
time_for None = []
time_for (Some layer) = time_with layer.keys

time_for-shape : (r : Option LayerRecord) → time_for (option_map layer_shape r) ≡ time_for r
unfolding time_for time_with
time_for-shape None = refl
time_for-shape (Some layer) = by layer.keys
  where
    by : (keys : List LayerKey) → time_with (keys_shape keys) ≡ time_with keys
    by [] = refl
    by (key ∷ keys) = refl

module _ (s : SceneRecord) (p l : ℕ) where
  layer_time-is : layer_time s p l ≡ time_for (option_and_then (λ pencil. slice_get pencil.layers l) (slice_get s.pencils p))
  unfolding time_for time_with
  layer_time-is = by_layer (option_and_then (λ pencil. slice_get pencil.layers l) (slice_get s.pencils p)) refl
    where
      by_keys : (layer : LayerRecord) → option_and_then (λ pencil. slice_get pencil.layers l) (slice_get s.pencils p) ≡ Some layer
          → (keys : List LayerKey) → layer.keys ≡ keys → layer_time s p l ≡ time_with keys
      by_keys layer e [] f = rw (e, f) refl
      by_keys layer e (key ∷ keys) f = rw (e, f) refl

      by_layer : (o : Option LayerRecord) → option_and_then (λ pencil. slice_get pencil.layers l) (slice_get s.pencils p) ≡ o
          → layer_time s p l ≡ time_for o
      by_layer None e = rw e refl
      by_layer (Some layer) e = by_keys layer e layer.keys refl

-- ---- the records of a scene

module _ (s : SceneRecord) where
  object_of-shape : (id : ObjectId) → object_of (shape s) id ≡ option_map object_shape (object_of s id)
  unfolding shape
  object_of-shape id = find-of_map object_shape (λ o. same_object o.id id) s.objects

  -- what is read of an object
  read_object : {B : Type 0} (g h : Object → B) (z : B) → ((o : Object) → g (object_shape o) ≡ h o) → (id : ObjectId)
      → option_map_or g (object_of (shape s) id) z ≡ option_map_or h (object_of s id) z
  read_object g h z same id = ap (λ r. option_map_or g r z) (object_of-shape id) ∙ or_through object_shape g h z same (object_of s id)

  then_object : {B : Type 0} (g h : Object → Option B) → ((o : Object) → g (object_shape o) ≡ h o) → (id : ObjectId)
      → option_and_then g (object_of (shape s) id) ≡ option_and_then h (object_of s id)
  then_object g h same id = ap (option_and_then g) (object_of-shape id) ∙ then_through object_shape g h same (object_of s id)

  pencil_at-shape : (p : ℕ) → slice_get (shape s).pencils p ≡ option_map pencil_shape (slice_get s.pencils p)
  unfolding shape
  pencil_at-shape p = slice_get-map pencil_shape s.pencils p

  -- the layer of an index
  layer_at-shape : (p l : ℕ) → option_and_then (λ pencil. slice_get pencil.layers l) (slice_get (shape s).pencils p)
      ≡ option_map layer_shape (option_and_then (λ pencil. slice_get pencil.layers l) (slice_get s.pencils p))
  layer_at-shape p l =
      ap (option_and_then (λ (pencil : PencilData). slice_get pencil.layers l)) (pencil_at-shape p) ∙ by (slice_get s.pencils p)
    where
      by : (r : Option PencilData) → option_and_then (λ pencil. slice_get pencil.layers l) (option_map pencil_shape r)
          ≡ option_map layer_shape (option_and_then (λ pencil. slice_get pencil.layers l) r)
      by None = refl
      by (Some x) = slice_get-map layer_shape x.layers l

  action_index-shape : (id : AnimId) → action_index (shape s) id ≡ action_index s id
  action_index-shape (anim.Object o) = then_object (λ o. o.action) (λ o. o.action) (λ o. refl) o
  action_index-shape (anim.Pencil p) =
      ap (option_and_then (λ (pencil : PencilData). pencil.action)) (pencil_at-shape p)
      ∙ then_through pencil_shape (λ p. p.action) (λ p. p.action) (λ p. refl) (slice_get s.pencils p)

  animation_of-shape : (id : AnimId) → animation_of (shape s) id ≡ animation_of s id
  animation_of-shape id = λ i. cond (is_some (action_index-shape id i)) (Animation id ∷ []) []

  -- the bones of an armature object
  armature_of-shape : (k : Kind) → armature_of (shape s) (kind_shape k) ≡ armature_of s k
  unfolding shape
  armature_of-shape kind.Empty = refl
  armature_of-shape (kind.Armature armature pose) = refl
  armature_of-shape (kind.Pencil pencil modifiers) = refl

  bones_of-shape : (o : ObjectId) → bones_of (shape s) o ≡ bones_of s o
  bones_of-shape o =
      then_object (λ o. option_map (λ a. a.bones) (armature_of (shape s) o.kind)) (λ o. option_map (λ a. a.bones) (armature_of s o.kind))
      (λ o. ap (option_map (λ (a : ArmatureData). a.bones)) (armature_of-shape o.kind)) o

  -- ---- the quantities and their reads

  layer_count-shape : (pencil : PencilData) → length (pencil_shape pencil).layers ≡ length pencil.layers
  layer_count-shape pencil = length-map pencil.layers layer_shape

  quantities-shape : quantities (shape s) ≡ quantities s
  unfolding shape
  quantities-shape =
      let pencils = numbered_through pencil_shape (λ e. pencil_quantities (shape s) e.0 e.1) (λ e. pencil_quantities s e.0 e.1)
      (λ p pencil. ap (λ n. chans_of s (anim.Pencil p) ++ map (quantity.Layer p) (range_with_len 0 n)) (layer_count-shape pencil))
      0 s.pencils in
      let objects = flat_through object_shape (object_quantities (shape s)) (object_quantities s)
      (λ o. ap (λ qs. chans_of s (anim.Object o.id) ++ quantity.Local o.id ∷ quantity.World o.id ∷ qs)
      (kind_quantities-shape o.id o.kind)) s.objects in
      λ i. pencils i ++ objects i

  geometry_reads-shape : (o : Object) (n : ℕ) → geometry_reads (shape s) (object_shape o) n ≡ geometry_reads s o n
  geometry_reads-shape o zero = by o.kind
    where
      by : (k : Kind) → geometry_reads (shape s) (record (object_shape o) { kind = kind_shape k }) 0
          ≡ geometry_reads s (record o { kind = k }) 0
      by kind.Empty = refl
      by (kind.Armature armature pose) = refl
      by (kind.Pencil p modifiers) =
          let made : PencilData → List Read
          = λ pencil. map (λ l. inner_read (quantity.Layer p l)) (range_with_len 0 (length pencil.layers)) in
          ap (λ r. option_map_or made r []) (pencil_at-shape p)
          ∙ or_through pencil_shape made made []
          (λ pencil. ap (λ n. map (λ l. inner_read (quantity.Layer p l)) (range_with_len 0 n)) (layer_count-shape pencil))
          (slice_get s.pencils p)
  geometry_reads-shape o (suc n) = ap (λ rs. inner_read (quantity.Geom o.id n) ∷ rs) (stack_at-shape o.id o.kind n)

  reads-shape : (q : Quantity) → reads (shape s) q ≡ reads s q
  unfolding shape
  reads-shape (quantity.Chan id p) = refl
  reads-shape (quantity.Local o) = refl
  reads-shape (quantity.World o) =
      ap (λ rs. inner_read (quantity.Local o) ∷ rs) (read_object (λ o. parent_reads o.parent) (λ o. parent_reads o.parent) [] (λ o. refl) o)
  reads-shape (quantity.Bone o b) =
      ap (λ r. option_map_or (bone_reads s o) (option_and_then (λ (bones : List RestBone). slice_get bones b) r) []) (bones_of-shape o)
  reads-shape (quantity.Layer p l) =
      ap (λ r. option_map_or (layer_reads s p) r []) (layer_at-shape p l)
      ∙ or_through layer_shape (layer_reads s p) (layer_reads s p) [] (λ layer. refl)
      (option_and_then (λ pencil. slice_get pencil.layers l) (slice_get s.pencils p))
  reads-shape (quantity.Geom o n) =
      read_object (λ object. geometry_reads (shape s) object n) (λ object. geometry_reads s object n) []
      (λ object. geometry_reads-shape object n) o

  -- ---- the cuts

  arrows-shape : arrows (shape s) ≡ arrows s
  arrows-shape =
      let made : Quantity → List Read → List (Arrow Quantity)
      = λ q rs. map (λ r. record { reader = q; source = r.source; is_reference = r.reference }) rs in
      flat_same (λ q. made q (reads (shape s) q)) (λ q. made q (reads s q)) (λ q. ap (made q) (reads-shape q)) (quantities (shape s))
      ∙ ap (flat_map (λ q. made q (reads s q))) quantities-shape

  pub cuts-shape : cuts (shape s) ≡ cuts s
  unfolding cuts
  cuts-shape =
      let cut : List (Arrow Quantity) → List CutRead = λ arrows. map (λ a. record { source = a.source; reader = a.reader })
      (cuts_from same_quantity (filter (λ a. not a.is_reference) arrows) (filter (λ a. a.is_reference) arrows)) in
      ap cut arrows-shape

  -- ---- the operations

  pub operations-shape : operations (shape s) ≡ operations s
  unfolding shape
  operations-shape = λ i. Time ∷ (pencils i ++ objects i)
    where
      of_drivers : (id : AnimId) → driver_operations (shape s) id ≡ driver_operations s id
      of_drivers id = refl

      pencils : flat_map (λ e. pencil_operations (shape s) e.0 e.1) (enumerate_from 0 (shape s).pencils)
          ≡ flat_map (λ e. pencil_operations s e.0 e.1) (enumerate_from 0 s.pencils)
      pencils =
          numbered_through pencil_shape (λ e. pencil_operations (shape s) e.0 e.1) (λ e. pencil_operations s e.0 e.1)
          (λ p pencil. λ i. animation_of-shape (anim.Pencil p) i ++ of_drivers (anim.Pencil p) i
          ++ map (Layer p) (range_with_len 0 (layer_count-shape pencil i))) 0 s.pencils

      objects : flat_map (object_operations (shape s)) (shape s).objects ≡ flat_map (object_operations s) s.objects
      objects =
          flat_through object_shape (object_operations (shape s)) (object_operations s)
          (λ o. λ i. animation_of-shape (anim.Object o.id) i ++ of_drivers (anim.Object o.id) i
          ++ Local o.id ∷ World o.id ∷ kind_operations-shape o.id o.kind i) s.objects

  -- ---- the in-links

  link_of-shape : (q : Quantity) (r : Read) → link_of (shape s) q r ≡ link_of s q r
  link_of-shape q r =
      ap (λ cut. let link : InLink = record { op = operation_of r.source; cut = r.reference && is_among cut r.source q } in link) cuts-shape

  links_of-shape : (q : Quantity) → links_of (shape s) q ≡ links_of s q
  links_of-shape q = λ i. map (λ r. link_of-shape q r i) (reads-shape q i)

  animation_links : (id : AnimId) → map kept_link (animation_of (shape s) id) ≡ map kept_link (animation_of s id)
  animation_links id = ap (map kept_link) (animation_of-shape id)

  variable_links-shape : (q : Quantity) (v : Variable) → variable_links (shape s) q v ≡ variable_links s q v
  unfolding shape
  variable_links-shape q (variable.Property id path) =
      λ i. cond (is_some (driver_of s id path)) (link_of-shape q (reference_read (quantity.Chan id path)) i ∷ []) (animation_links id i)
  variable_links-shape q (variable.Transform o space channel) = λ i. link_of-shape q (reference_read (space_quantity o space)) i ∷ []

  layer_time-shape : (p l : ℕ) → layer_time (shape s) p l ≡ layer_time s p l
  layer_time-shape p l =
      layer_time-is (shape s) p l ∙ ap time_for (layer_at-shape p l)
      ∙ time_for-shape (option_and_then (λ pencil. slice_get pencil.layers l) (slice_get s.pencils p)) ∙ sym (layer_time-is s p l)

  pub ins-shape : (op : OpId) → ins (shape s) op ≡ ins s op
  unfolding ins shape
  ins-shape Time = refl
  ins-shape (Animation id) = refl
  ins-shape (Driver id path) =
      λ i. option_map_or (λ d. flat_map (λ v. variable_links-shape (quantity.Chan id path) v i) d.variables) (driver_of s id path) []
  ins-shape (Local o) = λ i. animation_links (anim.Object o) i ++ links_of-shape (quantity.Local o) i
  ins-shape (World o) = links_of-shape (quantity.World o)
  ins-shape (PoseInit o) = animation_links (anim.Object o)
  ins-shape (Bone o b) = ap (λ ls. kept_link (PoseInit o) ∷ ls) (links_of-shape (quantity.Bone o b))
  ins-shape (PoseDone o) =
      read_object (λ object. bone_links o object.kind) (λ object. bone_links o object.kind) [] (λ object. bone_links-shape o object.kind) o
  ins-shape (Layer p l) =
      λ i. layer_time-shape p l i ++ animation_links (anim.Pencil p) i ++ links_of-shape (quantity.Layer p l) i
  ins-shape (Geometry o) = links_of-shape (quantity.Geom o 0)
  ins-shape (ModifierOp o n) = links_of-shape (quantity.Geom o n)
  ins-shape (GeometryDone o) =
      read_object (λ object. kept_link (last_geometry o (length (modifiers_of object.kind))) ∷ [])
      (λ object. kept_link (last_geometry o (length (modifiers_of object.kind))) ∷ []) []
      (λ object. ap (λ n. kept_link (last_geometry o n) ∷ []) (stack_length-shape object.kind)) o

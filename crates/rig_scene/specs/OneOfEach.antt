-- No quantity of a scene stands twice among its quantities, and no operation among its operations: each belongs to one
-- pencil or object, and those of one are distinct.
use Rattle.std.proofs.Common.{◌≡◌, ◌≢◌, ℕ, zero, suc, ◌+◌, ◌<◌, ◌≤◌, Bool, true, false, cond, List, [], ◌∷◌, ◌++◌, map, length, get_or, Option, Some, None, refl, ap, arith}
use Rattle.std.specs.List.{All, AllPairs, flat_map, range_with_len, enumerate_from}
use Rattle.std.proofs.lemmas.List.Elements.{All-cons, All-nil, All-append, All-map, All-weaker, filter_passes}
use Rattle.rig_scene.specs.declared.id.AnimId.{AnimId}
use Rattle.rig_scene.specs.declared.id.AnimId.TheVariants as anim
use Rattle.rig_scene.specs.declared.id.ObjectId.{ObjectId}
use Rattle.rig_scene.specs.declared.driver.Driver.{Driver as DriverRecord}
use Rattle.rig_scene.specs.declared.object.Kind.{Kind}
use Rattle.rig_scene.specs.declared.object.Kind.TheVariants as kind
use Rattle.rig_scene.specs.declared.object.Object.{Object}
use Rattle.rig_scene.specs.declared.operation.OpId.{OpId}
use Rattle.rig_scene.specs.declared.operation.OpId.TheVariants.{Time, Animation, Driver, Local, World, PoseInit, Bone, PoseDone, Layer, Geometry, ModifierOp, GeometryDone}
use Rattle.rig_scene.specs.declared.pencil.PencilData.{PencilData}
use Rattle.rig_scene.specs.declared.quantity.Quantity.{Quantity}
use Rattle.rig_scene.specs.declared.quantity.Quantity.TheVariants as quantity
use Rattle.rig_scene.specs.Scene.{SceneRecord}
use Rattle.rig_scene.specs.Id.{same_id}
use Rattle.rig_scene.specs.Drivers.{drivers_of, has_action}
use Rattle.rig_scene.specs.Quantities.{chans_of, pencil_quantities, kind_quantities, object_quantities, quantities}
use Rattle.rig_scene.specs.Operations.{animation_of, driver_operations, pencil_operations, kind_operations, object_operations, operations}
use Rattle.rig_scene.specs.Facts.{SceneFacts}
use Rattle.rig_scene.specs.Same.{same_id-equal}
use Rattle.rig_scene.specs.Pairs.{NoneTwice, NoneTwice-append, NoneTwice-flat_map, AllPairs-nil, AllPairs-cons, AllPairs-map, AllPairs-filter, AllPairs-weaker, AllPairs-single, All-flat_map}

-- ---- numbers in a row

from_a_on : (a n : ℕ) → All (λ i. a ≤ i) (range_with_len a n)
from_a_on a zero = All-nil (λ i. a ≤ i)
from_a_on a (suc n) = All-cons (λ i. a ≤ i) a (range_with_len (a + 1) n) (omega arith) (All-weaker (λ i. a + 1 ≤ i) (λ i. a ≤ i) (λ i l. omega arith) (range_with_len (a + 1) n) (from_a_on (a + 1) n))

numbers_rise : (a n : ℕ) → AllPairs (λ i j. i < j) (range_with_len a n)
numbers_rise a zero = AllPairs-nil (λ i j. i < j)
numbers_rise a (suc n) = AllPairs-cons (λ i j. i < j) a (range_with_len (a + 1) n) (All-weaker (λ i. a + 1 ≤ i) (λ i. a < i) (λ i l. omega arith) (range_with_len (a + 1) n) (from_a_on (a + 1) n)) (numbers_rise (a + 1) n)

-- what a function gives of numbers in a row, where it gives equal ones of equal numbers alone
numbered_once : {A : Type 0} (f : ℕ → A) → ((i j : ℕ) → f i ≡ f j → i ≡ j) → (a n : ℕ) → NoneTwice (map f (range_with_len a n))
numbered_once f back a n = AllPairs-map (λ x y. x ≢ y) f (range_with_len a n) (AllPairs-weaker (λ i j. i < j) (λ i j. f i ≢ f j) (λ i j l e. apart i j l (back i j e)) (range_with_len a n) (numbers_rise a n))
  where
    apart : (i j : ℕ) → i < j → i ≡ j → ⊥
    apart i j l e = omega arith

module _ {X : Type 0} where
  enumerated_from : (a : ℕ) (xs : List X) → All (λ e. a ≤ e.0) (enumerate_from a xs)
  enumerated_from a [] = All-nil (λ e. a ≤ e.0)
  enumerated_from a (x ∷ xs) = All-cons (λ e. a ≤ e.0) (a, x) (enumerate_from (a + 1) xs) (omega arith) (All-weaker (λ e. a + 1 ≤ e.0) (λ e. a ≤ e.0) (λ e l. omega arith) (enumerate_from (a + 1) xs) (enumerated_from (a + 1) xs))

  enumerated_rise : (a : ℕ) (xs : List X) → AllPairs (λ e f. e.0 < f.0) (enumerate_from a xs)
  enumerated_rise a [] = AllPairs-nil (λ e f. e.0 < f.0)
  enumerated_rise a (x ∷ xs) = AllPairs-cons (λ e f. e.0 < f.0) (a, x) (enumerate_from (a + 1) xs) (All-weaker (λ e. a + 1 ≤ e.0) (λ e. a < e.0) (λ e l. omega arith) (enumerate_from (a + 1) xs) (enumerated_from (a + 1) xs)) (enumerated_rise (a + 1) xs)

-- ---- what each belongs to

-- the pencil or object that a quantity belongs to
abbrev pub owner_of : Quantity → AnimId
owner_of (quantity.Chan id path) = id
owner_of (quantity.Local o) = anim.Object o
owner_of (quantity.World o) = anim.Object o
owner_of (quantity.Bone o b) = anim.Object o
owner_of (quantity.Layer p l) = anim.Pencil p
owner_of (quantity.Geom o i) = anim.Object o

-- the pencil or object that an operation belongs to, if it isn't the time
abbrev pub operation_owner : OpId → Option AnimId
operation_owner Time = None
operation_owner (Animation id) = Some id
operation_owner (Driver id path) = Some id
operation_owner (Local o) = Some (anim.Object o)
operation_owner (World o) = Some (anim.Object o)
operation_owner (PoseInit o) = Some (anim.Object o)
operation_owner (Bone o b) = Some (anim.Object o)
operation_owner (PoseDone o) = Some (anim.Object o)
operation_owner (Layer p l) = Some (anim.Pencil p)
operation_owner (Geometry o) = Some (anim.Object o)
operation_owner (ModifierOp o i) = Some (anim.Object o)
operation_owner (GeometryDone o) = Some (anim.Object o)

-- marks that rise within what belongs to one
abbrev pub quantity_mark : Quantity → ℕ
quantity_mark (quantity.Chan id path) = 0
quantity_mark (quantity.Local o) = 1
quantity_mark (quantity.World o) = 2
quantity_mark (quantity.Bone o b) = 3
quantity_mark (quantity.Layer p l) = 3
quantity_mark (quantity.Geom o i) = 3

abbrev pub operation_mark : OpId → ℕ
operation_mark Time = 0
operation_mark (Animation id) = 0
operation_mark (Driver id path) = 1
operation_mark (Local o) = 2
operation_mark (World o) = 3
operation_mark (PoseInit o) = 4
operation_mark (Bone o b) = 5
operation_mark (PoseDone o) = 6
operation_mark (Layer p l) = 5
operation_mark (Geometry o) = 4
operation_mark (ModifierOp o i) = 5
operation_mark (GeometryDone o) = 6

-- pencils have the mark 0, and objects 1
abbrev pub is_of_object : AnimId → ℕ
is_of_object (anim.Pencil p) = 0
is_of_object (anim.Object o) = 1

abbrev pub operation_part : Option AnimId → ℕ
operation_part None = 0
operation_part (Some id) = suc (is_of_object id)

module _ (s : SceneRecord) (facts : SceneFacts s) where
  -- no two drivers of one id have the same path
  chans_once : (id : AnimId) → NoneTwice (chans_of s id)
  chans_once id =
      AllPairs-map (λ x y. x ≢ y) (λ (d : DriverRecord). quantity.Chan d.id d.path) (drivers_of s id)
      (AllPairs-filter (λ d e. quantity.Chan d.id d.path ≢ quantity.Chan e.id e.path) (λ d. same_id d.id id) s.drivers
      (AllPairs-weaker (λ d e. ¬ ((d.id ≡ e.id) × (d.path ≡ e.path))) (λ d e. quantity.Chan d.id d.path ≢ quantity.Chan e.id e.path) (λ d e h same. h (cc, cc)) s.drivers facts.drivers.targets_distinct))

  drivers_once : (id : AnimId) → NoneTwice (driver_operations s id)
  drivers_once id =
      AllPairs-map (λ x y. x ≢ y) (λ (d : DriverRecord). Driver d.id d.path) (drivers_of s id)
      (AllPairs-filter (λ d e. Driver d.id d.path ≢ Driver e.id e.path) (λ d. same_id d.id id) s.drivers
      (AllPairs-weaker (λ d e. ¬ ((d.id ≡ e.id) × (d.path ≡ e.path))) (λ d e. Driver d.id d.path ≢ Driver e.id e.path) (λ d e h same. h (cc, cc)) s.drivers facts.drivers.targets_distinct))

  drivers_own : (id : AnimId) → All (λ d. d.id ≡ id) (drivers_of s id)
  drivers_own id = All-weaker (λ d. same_id d.id id ≡ true) (λ d. d.id ≡ id) (λ d e. same_id-equal d.id id e) (drivers_of s id) (filter_passes (λ d. same_id d.id id) s.drivers)

  -- ---- quantities

  kind_once : (o : ObjectId) (k : Kind) → NoneTwice (kind_quantities o k)
  kind_once o kind.Empty = AllPairs-nil (λ x y. x ≢ y)
  kind_once o (kind.Armature index pose) = numbered_once (quantity.Bone o) (λ i j e. cc) 0 (length pose)
  kind_once o (kind.Pencil index modifiers) = numbered_once (quantity.Geom o) (λ i j e. cc) 0 (length modifiers + 1)

  kind_marks : (o : ObjectId) (k : Kind) → All (λ q. 2 < quantity_mark q) (kind_quantities o k)
  kind_marks o kind.Empty = All-nil (λ q. 2 < quantity_mark q)
  kind_marks o (kind.Armature index pose) = All-map (λ q. 2 < quantity_mark q) (quantity.Bone o) _ (λ k d l. omega arith)
  kind_marks o (kind.Pencil index modifiers) = All-map (λ q. 2 < quantity_mark q) (quantity.Geom o) _ (λ k d l. omega arith)

  kind_owned : (o : ObjectId) (k : Kind) → All (λ q. owner_of q ≡ anim.Object o) (kind_quantities o k)
  kind_owned o kind.Empty = All-nil (λ q. owner_of q ≡ anim.Object o)
  kind_owned o (kind.Armature index pose) = All-map (λ q. owner_of q ≡ anim.Object o) (quantity.Bone o) _ (λ k d l. refl)
  kind_owned o (kind.Pencil index modifiers) = All-map (λ q. owner_of q ≡ anim.Object o) (quantity.Geom o) _ (λ k d l. refl)

  transforms_once : (o : ObjectId) (k : Kind) → NoneTwice (quantity.Local o ∷ quantity.World o ∷ kind_quantities o k)
  transforms_once o k =
      NoneTwice-append quantity_mark 1 (quantity.Local o ∷ []) (quantity.World o ∷ kind_quantities o k) (AllPairs-single (λ x y. x ≢ y) (quantity.Local o))
      (NoneTwice-append quantity_mark 2 (quantity.World o ∷ []) (kind_quantities o k) (AllPairs-single (λ x y. x ≢ y) (quantity.World o)) (kind_once o k)
      (All-cons (λ q. quantity_mark q ≤ 2) (quantity.World o) [] (omega arith) (All-nil (λ q. quantity_mark q ≤ 2))) (kind_marks o k))
      (All-cons (λ q. quantity_mark q ≤ 1) (quantity.Local o) [] (omega arith) (All-nil (λ q. quantity_mark q ≤ 1)))
      (All-cons (λ q. 1 < quantity_mark q) (quantity.World o) (kind_quantities o k) (omega arith) (All-weaker (λ q. 2 < quantity_mark q) (λ q. 1 < quantity_mark q) (λ q l. omega arith) (kind_quantities o k) (kind_marks o k)))

  transform_marks : (o : ObjectId) (k : Kind) → All (λ q. 0 < quantity_mark q) (quantity.Local o ∷ quantity.World o ∷ kind_quantities o k)
  transform_marks o k =
      All-cons (λ q. 0 < quantity_mark q) (quantity.Local o) (quantity.World o ∷ kind_quantities o k) (omega arith)
      (All-cons (λ q. 0 < quantity_mark q) (quantity.World o) (kind_quantities o k) (omega arith)
      (All-weaker (λ q. 2 < quantity_mark q) (λ q. 0 < quantity_mark q) (λ q l. omega arith) (kind_quantities o k) (kind_marks o k)))

  chan_marks : (id : AnimId) → All (λ q. quantity_mark q ≤ 0) (chans_of s id)
  chan_marks id = All-map (λ q. quantity_mark q ≤ 0) (λ (d : DriverRecord). quantity.Chan d.id d.path) (drivers_of s id) (λ k d l. omega arith)

  chans_owned : (id : AnimId) → All (λ q. owner_of q ≡ id) (chans_of s id)
  chans_owned id = All-map (λ q. owner_of q ≡ id) (λ (d : DriverRecord). quantity.Chan d.id d.path) (drivers_of s id) (drivers_own id)

  object_once : (o : Object) → NoneTwice (object_quantities s o)
  object_once o = NoneTwice-append quantity_mark 0 (chans_of s (anim.Object o.id)) (quantity.Local o.id ∷ quantity.World o.id ∷ kind_quantities o.id o.kind) (chans_once (anim.Object o.id)) (transforms_once o.id o.kind) (chan_marks (anim.Object o.id)) (transform_marks o.id o.kind)

  object_owned : (o : Object) → All (λ q. owner_of q ≡ anim.Object o.id) (object_quantities s o)
  object_owned o =
      All-append (λ q. owner_of q ≡ anim.Object o.id) (chans_of s (anim.Object o.id)) (quantity.Local o.id ∷ quantity.World o.id ∷ kind_quantities o.id o.kind) (chans_owned (anim.Object o.id))
      (All-cons (λ q. owner_of q ≡ anim.Object o.id) (quantity.Local o.id) (quantity.World o.id ∷ kind_quantities o.id o.kind) refl
      (All-cons (λ q. owner_of q ≡ anim.Object o.id) (quantity.World o.id) (kind_quantities o.id o.kind) refl (kind_owned o.id o.kind)))

  pencil_once : (p : ℕ) (pencil : PencilData) → NoneTwice (pencil_quantities s p pencil)
  pencil_once p pencil =
      NoneTwice-append quantity_mark 0 (chans_of s (anim.Pencil p)) (map (quantity.Layer p) (range_with_len 0 (length pencil.layers))) (chans_once (anim.Pencil p))
      (numbered_once (quantity.Layer p) (λ i j e. cc) 0 (length pencil.layers)) (chan_marks (anim.Pencil p)) (All-map (λ q. 0 < quantity_mark q) (quantity.Layer p) (range_with_len 0 (length pencil.layers)) (λ k d l. omega arith))

  pencil_owned : (p : ℕ) (pencil : PencilData) → All (λ q. owner_of q ≡ anim.Pencil p) (pencil_quantities s p pencil)
  pencil_owned p pencil =
      All-append (λ q. owner_of q ≡ anim.Pencil p) (chans_of s (anim.Pencil p)) (map (quantity.Layer p) (range_with_len 0 (length pencil.layers))) (chans_owned (anim.Pencil p))
      (All-map (λ q. owner_of q ≡ anim.Pencil p) (quantity.Layer p) (range_with_len 0 (length pencil.layers)) (λ k d l. refl))

  -- the numbers of pencils and the ids of objects are distinct
  pub pencil_ids_once : AllPairs (λ (e f : ℕ × PencilData). anim.Pencil e.0 ≢ anim.Pencil f.0) (enumerate_from 0 s.pencils)
  pencil_ids_once = AllPairs-weaker (λ e f. e.0 < f.0) (λ e f. anim.Pencil e.0 ≢ anim.Pencil f.0) (λ e f l same. apart e.0 f.0 l cc) (enumerate_from 0 s.pencils) (enumerated_rise 0 s.pencils)
    where
      apart : (i j : ℕ) → i < j → i ≡ j → ⊥
      apart i j l e = omega arith

  pub object_ids_once : AllPairs (λ (o p : Object). anim.Object o.id ≢ anim.Object p.id) s.objects
  object_ids_once = AllPairs-weaker (λ o p. o.id.0 < p.id.0) (λ o p. anim.Object o.id ≢ anim.Object p.id) (λ o p l same. apart o.id p.id l cc) s.objects facts.objects.ids_rise
    where
      apart : (i j : ObjectId) → i.0 < j.0 → i ≡ j → ⊥
      apart i j l e = omega (arith, ap (λ (id : ObjectId). id.0) e)

  pub quantities_once : NoneTwice (quantities s)
  quantities_once =
      NoneTwice-append (λ q. is_of_object (owner_of q)) 0 (flat_map (λ (e : ℕ × PencilData). pencil_quantities s e.0 e.1) (enumerate_from 0 s.pencils)) (flat_map (object_quantities s) s.objects)
      (NoneTwice-flat_map (λ (e : ℕ × PencilData). pencil_quantities s e.0 e.1) owner_of (λ e. anim.Pencil e.0) (λ e. pencil_once e.0 e.1) (λ e. pencil_owned e.0 e.1) (enumerate_from 0 s.pencils) pencil_ids_once)
      (NoneTwice-flat_map (object_quantities s) owner_of (λ o. anim.Object o.id) object_once object_owned s.objects object_ids_once)
      (All-flat_map (λ q. is_of_object (owner_of q) ≤ 0) (λ (e : ℕ × PencilData). pencil_quantities s e.0 e.1) (enumerate_from 0 s.pencils)
      (λ k d l. All-weaker (λ q. owner_of q ≡ anim.Pencil (get_or (enumerate_from 0 s.pencils) k d).0) (λ q. is_of_object (owner_of q) ≤ 0) (λ q e. of_pencil (owner_of q) (get_or (enumerate_from 0 s.pencils) k d).0 e) _ (pencil_owned (get_or (enumerate_from 0 s.pencils) k d).0 (get_or (enumerate_from 0 s.pencils) k d).1)))
      (All-flat_map (λ q. 0 < is_of_object (owner_of q)) (object_quantities s) s.objects
      (λ k d l. All-weaker (λ q. owner_of q ≡ anim.Object (get_or s.objects k d).id) (λ q. 0 < is_of_object (owner_of q)) (λ q e. of_object (owner_of q) (get_or s.objects k d).id e) _ (object_owned (get_or s.objects k d))))
    where
      of_pencil : (id : AnimId) (p : ℕ) → id ≡ anim.Pencil p → is_of_object id ≤ 0
      of_pencil id p e = omega (arith, ap is_of_object e)

      of_object : (id : AnimId) (o : ObjectId) → id ≡ anim.Object o → 0 < is_of_object id
      of_object id o e = omega (arith, ap is_of_object e)

  -- ---- operations

  animation_once_if : (id : AnimId) (b : Bool) → NoneTwice (cond b (Animation id ∷ []) [])
  animation_once_if id true = AllPairs-single (λ x y. x ≢ y) (Animation id)
  animation_once_if id false = AllPairs-nil (λ x y. x ≢ y)

  animation_all_if : (P : OpId → Type 0) (id : AnimId) → P (Animation id) → (b : Bool) → All P (cond b (Animation id ∷ []) [])
  animation_all_if P id h true = All-cons P (Animation id) [] h (All-nil P)
  animation_all_if P id h false = All-nil P

  -- the animation and the drivers of an id
  of_channels_once : (id : AnimId) → NoneTwice (animation_of s id ++ driver_operations s id)
  of_channels_once id =
      NoneTwice-append operation_mark 0 (animation_of s id) (driver_operations s id) (animation_once_if id (has_action s id)) (drivers_once id)
      (animation_all_if (λ o. operation_mark o ≤ 0) id (omega arith) (has_action s id))
      (All-map (λ o. 0 < operation_mark o) (λ (d : DriverRecord). Driver d.id d.path) (drivers_of s id) (λ k d l. omega arith))

  of_channels_marks : (id : AnimId) → All (λ o. operation_mark o ≤ 1) (animation_of s id ++ driver_operations s id)
  of_channels_marks id =
      All-append (λ o. operation_mark o ≤ 1) (animation_of s id) (driver_operations s id) (animation_all_if (λ o. operation_mark o ≤ 1) id (omega arith) (has_action s id))
      (All-map (λ o. operation_mark o ≤ 1) (λ (d : DriverRecord). Driver d.id d.path) (drivers_of s id) (λ k d l. omega arith))

  of_channels_owned : (id : AnimId) → All (λ o. operation_owner o ≡ Some id) (animation_of s id ++ driver_operations s id)
  of_channels_owned id =
      All-append (λ o. operation_owner o ≡ Some id) (animation_of s id) (driver_operations s id) (animation_all_if (λ o. operation_owner o ≡ Some id) id refl (has_action s id))
      (All-map (λ o. operation_owner o ≡ Some id) (λ (d : DriverRecord). Driver d.id d.path) (drivers_of s id) (λ k d l. ap Some (drivers_own id k d l)))

  one_mark : (n : ℕ) (o : OpId) → operation_mark o ≤ n → All (λ p. operation_mark p ≤ n) (o ∷ [])
  one_mark n o l = All-cons (λ p. operation_mark p ≤ n) o [] l (All-nil (λ p. operation_mark p ≤ n))

  above_mark : (n : ℕ) (o : OpId) → n < operation_mark o → All (λ p. n < operation_mark p) (o ∷ [])
  above_mark n o l = All-cons (λ p. n < operation_mark p) o [] l (All-nil (λ p. n < operation_mark p))

  -- an operation, what a function gives of numbers in a row, and another operation
  row_once : (first last : OpId) (f : ℕ → OpId) → ((i j : ℕ) → f i ≡ f j → i ≡ j) → operation_mark first ≤ 4 → ((i : ℕ) → operation_mark (f i) ≡ 5) → 5 < operation_mark last → (a n : ℕ) → NoneTwice (first ∷ (map f (range_with_len a n) ++ last ∷ []))
  row_once first last f back low middle high a n =
      NoneTwice-append operation_mark 4 (first ∷ []) (map f (range_with_len a n) ++ last ∷ []) (AllPairs-single (λ x y. x ≢ y) first)
      (NoneTwice-append operation_mark 5 (map f (range_with_len a n)) (last ∷ []) (numbered_once f back a n) (AllPairs-single (λ x y. x ≢ y) last)
      (All-map (λ p. operation_mark p ≤ 5) f (range_with_len a n) (λ k d l. omega (arith, middle (get_or (range_with_len a n) k d)))) (above_mark 5 last high))
      (one_mark 4 first low)
      (All-append (λ p. 4 < operation_mark p) (map f (range_with_len a n)) (last ∷ []) (All-map (λ p. 4 < operation_mark p) f (range_with_len a n) (λ k d l. omega (arith, middle (get_or (range_with_len a n) k d)))) (above_mark 4 last (omega arith)))

  row_all : (P : OpId → Type 0) (first last : OpId) (f : ℕ → OpId) → P first → ((i : ℕ) → P (f i)) → P last → (a n : ℕ) → All P (first ∷ (map f (range_with_len a n) ++ last ∷ []))
  row_all P first last f low middle high a n =
      All-cons P first (map f (range_with_len a n) ++ last ∷ []) low
      (All-append P (map f (range_with_len a n)) (last ∷ []) (All-map P f (range_with_len a n) (λ k d l. middle (get_or (range_with_len a n) k d))) (All-cons P last [] high (All-nil P)))

  kind_operations_once : (o : ObjectId) (k : Kind) → NoneTwice (kind_operations o k)
  kind_operations_once o kind.Empty = AllPairs-nil (λ x y. x ≢ y)
  kind_operations_once o (kind.Armature index pose) = row_once (PoseInit o) (PoseDone o) (Bone o) (λ i j e. cc) (omega arith) (λ i. refl) (omega arith) 0 (length pose)
  kind_operations_once o (kind.Pencil index modifiers) = row_once (Geometry o) (GeometryDone o) (ModifierOp o) (λ i j e. cc) (omega arith) (λ i. refl) (omega arith) 1 (length modifiers)

  kind_operation_marks : (o : ObjectId) (k : Kind) → All (λ p. 3 < operation_mark p) (kind_operations o k)
  kind_operation_marks o kind.Empty = All-nil (λ p. 3 < operation_mark p)
  kind_operation_marks o (kind.Armature index pose) = row_all (λ p. 3 < operation_mark p) (PoseInit o) (PoseDone o) (Bone o) (omega arith) (λ i. omega arith) (omega arith) 0 (length pose)
  kind_operation_marks o (kind.Pencil index modifiers) = row_all (λ p. 3 < operation_mark p) (Geometry o) (GeometryDone o) (ModifierOp o) (omega arith) (λ i. omega arith) (omega arith) 1 (length modifiers)

  kind_operations_owned : (o : ObjectId) (k : Kind) → All (λ p. operation_owner p ≡ Some (anim.Object o)) (kind_operations o k)
  kind_operations_owned o kind.Empty = All-nil (λ p. operation_owner p ≡ Some (anim.Object o))
  kind_operations_owned o (kind.Armature index pose) = row_all (λ p. operation_owner p ≡ Some (anim.Object o)) (PoseInit o) (PoseDone o) (Bone o) refl (λ i. refl) refl 0 (length pose)
  kind_operations_owned o (kind.Pencil index modifiers) = row_all (λ p. operation_owner p ≡ Some (anim.Object o)) (Geometry o) (GeometryDone o) (ModifierOp o) refl (λ i. refl) refl 1 (length modifiers)

  transform_operations_once : (o : ObjectId) (k : Kind) → NoneTwice (Local o ∷ World o ∷ kind_operations o k)
  transform_operations_once o k =
      NoneTwice-append operation_mark 2 (Local o ∷ []) (World o ∷ kind_operations o k) (AllPairs-single (λ x y. x ≢ y) (Local o))
      (NoneTwice-append operation_mark 3 (World o ∷ []) (kind_operations o k) (AllPairs-single (λ x y. x ≢ y) (World o)) (kind_operations_once o k) (one_mark 3 (World o) (omega arith)) (kind_operation_marks o k))
      (one_mark 2 (Local o) (omega arith))
      (All-cons (λ p. 2 < operation_mark p) (World o) (kind_operations o k) (omega arith) (All-weaker (λ p. 3 < operation_mark p) (λ p. 2 < operation_mark p) (λ p l. omega arith) (kind_operations o k) (kind_operation_marks o k)))

  transform_operation_marks : (o : ObjectId) (k : Kind) → All (λ p. 1 < operation_mark p) (Local o ∷ World o ∷ kind_operations o k)
  transform_operation_marks o k =
      All-cons (λ p. 1 < operation_mark p) (Local o) (World o ∷ kind_operations o k) (omega arith)
      (All-cons (λ p. 1 < operation_mark p) (World o) (kind_operations o k) (omega arith)
      (All-weaker (λ p. 3 < operation_mark p) (λ p. 1 < operation_mark p) (λ p l. omega arith) (kind_operations o k) (kind_operation_marks o k)))

  object_operations_once : (o : Object) → NoneTwice (object_operations s o)
  object_operations_once o =
      NoneTwice-append operation_mark 1 (animation_of s (anim.Object o.id) ++ driver_operations s (anim.Object o.id)) (Local o.id ∷ World o.id ∷ kind_operations o.id o.kind)
      (of_channels_once (anim.Object o.id)) (transform_operations_once o.id o.kind) (of_channels_marks (anim.Object o.id)) (transform_operation_marks o.id o.kind)

  object_operations_owned : (o : Object) → All (λ p. operation_owner p ≡ Some (anim.Object o.id)) (object_operations s o)
  object_operations_owned o =
      All-append (λ p. operation_owner p ≡ Some (anim.Object o.id)) (animation_of s (anim.Object o.id) ++ driver_operations s (anim.Object o.id)) (Local o.id ∷ World o.id ∷ kind_operations o.id o.kind) (of_channels_owned (anim.Object o.id))
      (All-cons (λ p. operation_owner p ≡ Some (anim.Object o.id)) (Local o.id) (World o.id ∷ kind_operations o.id o.kind) refl
      (All-cons (λ p. operation_owner p ≡ Some (anim.Object o.id)) (World o.id) (kind_operations o.id o.kind) refl (kind_operations_owned o.id o.kind)))

  pencil_operations_once : (p : ℕ) (pencil : PencilData) → NoneTwice (pencil_operations s p pencil)
  pencil_operations_once p pencil =
      NoneTwice-append operation_mark 1 (animation_of s (anim.Pencil p) ++ driver_operations s (anim.Pencil p)) (map (Layer p) (range_with_len 0 (length pencil.layers)))
      (of_channels_once (anim.Pencil p)) (numbered_once (Layer p) (λ i j e. cc) 0 (length pencil.layers)) (of_channels_marks (anim.Pencil p)) (All-map (λ o. 1 < operation_mark o) (Layer p) (range_with_len 0 (length pencil.layers)) (λ k d l. omega arith))

  pencil_operations_owned : (p : ℕ) (pencil : PencilData) → All (λ o. operation_owner o ≡ Some (anim.Pencil p)) (pencil_operations s p pencil)
  pencil_operations_owned p pencil =
      All-append (λ o. operation_owner o ≡ Some (anim.Pencil p)) (animation_of s (anim.Pencil p) ++ driver_operations s (anim.Pencil p)) (map (Layer p) (range_with_len 0 (length pencil.layers))) (of_channels_owned (anim.Pencil p))
      (All-map (λ o. operation_owner o ≡ Some (anim.Pencil p)) (Layer p) (range_with_len 0 (length pencil.layers)) (λ k d l. refl))

  pencils_operations_owned : All (λ o. operation_part (operation_owner o) ≡ 1) (flat_map (λ (e : ℕ × PencilData). pencil_operations s e.0 e.1) (enumerate_from 0 s.pencils))
  pencils_operations_owned =
      All-flat_map (λ o. operation_part (operation_owner o) ≡ 1) (λ (e : ℕ × PencilData). pencil_operations s e.0 e.1) (enumerate_from 0 s.pencils)
      (λ k d l. All-weaker (λ o. operation_owner o ≡ Some (anim.Pencil (get_or (enumerate_from 0 s.pencils) k d).0)) (λ o. operation_part (operation_owner o) ≡ 1) (λ o e. ap operation_part e)
      (pencil_operations s (get_or (enumerate_from 0 s.pencils) k d).0 (get_or (enumerate_from 0 s.pencils) k d).1) (pencil_operations_owned (get_or (enumerate_from 0 s.pencils) k d).0 (get_or (enumerate_from 0 s.pencils) k d).1))

  objects_operations_owned : All (λ o. operation_part (operation_owner o) ≡ 2) (flat_map (object_operations s) s.objects)
  objects_operations_owned =
      All-flat_map (λ o. operation_part (operation_owner o) ≡ 2) (object_operations s) s.objects
      (λ k d l. All-weaker (λ o. operation_owner o ≡ Some (anim.Object (get_or s.objects k d).id)) (λ o. operation_part (operation_owner o) ≡ 2) (λ o e. ap operation_part e)
      (object_operations s (get_or s.objects k d)) (object_operations_owned (get_or s.objects k d)))

  pub operations_once : NoneTwice (operations s)
  operations_once =
      NoneTwice-append (λ o. operation_part (operation_owner o)) 0 (Time ∷ []) (flat_map (λ (e : ℕ × PencilData). pencil_operations s e.0 e.1) (enumerate_from 0 s.pencils) ++ flat_map (object_operations s) s.objects)
      (AllPairs-single (λ x y. x ≢ y) Time)
      (NoneTwice-append (λ o. operation_part (operation_owner o)) 1 (flat_map (λ (e : ℕ × PencilData). pencil_operations s e.0 e.1) (enumerate_from 0 s.pencils)) (flat_map (object_operations s) s.objects)
      (NoneTwice-flat_map (λ (e : ℕ × PencilData). pencil_operations s e.0 e.1) operation_owner (λ e. Some (anim.Pencil e.0)) (λ e. pencil_operations_once e.0 e.1) (λ e. pencil_operations_owned e.0 e.1) (enumerate_from 0 s.pencils)
      (AllPairs-weaker (λ e f. anim.Pencil e.0 ≢ anim.Pencil f.0) (λ e f. Some (anim.Pencil e.0) ≢ Some (anim.Pencil f.0)) (λ e f ne same. ne cc) (enumerate_from 0 s.pencils) pencil_ids_once))
      (NoneTwice-flat_map (object_operations s) operation_owner (λ o. Some (anim.Object o.id)) object_operations_once object_operations_owned s.objects
      (AllPairs-weaker (λ o p. anim.Object o.id ≢ anim.Object p.id) (λ o p. Some (anim.Object o.id) ≢ Some (anim.Object p.id)) (λ o p ne same. ne cc) s.objects object_ids_once))
      (All-weaker (λ o. operation_part (operation_owner o) ≡ 1) (λ o. operation_part (operation_owner o) ≤ 1) (λ o e. omega arith) _ pencils_operations_owned)
      (All-weaker (λ o. operation_part (operation_owner o) ≡ 2) (λ o. 1 < operation_part (operation_owner o)) (λ o e. omega arith) _ objects_operations_owned))
      (All-cons (λ o. operation_part (operation_owner o) ≤ 0) Time [] (omega arith) (All-nil (λ o. operation_part (operation_owner o) ≤ 0)))
      (All-append (λ o. 0 < operation_part (operation_owner o)) (flat_map (λ (e : ℕ × PencilData). pencil_operations s e.0 e.1) (enumerate_from 0 s.pencils)) (flat_map (object_operations s) s.objects)
      (All-weaker (λ o. operation_part (operation_owner o) ≡ 1) (λ o. 0 < operation_part (operation_owner o)) (λ o e. omega arith) _ pencils_operations_owned)
      (All-weaker (λ o. operation_part (operation_owner o) ≡ 2) (λ o. 0 < operation_part (operation_owner o)) (λ o e. omega arith) _ objects_operations_owned))

-- How many operations and quantities a scene has, from its limits: each driver counts once, as no two ids are the same.
use Rattle.std.proofs.Common.{◌≡◌, ◌≢◌, ℕ, zero, suc, ◌+◌, ◌*◌, ◌<◌, ◌≤◌, Bool, true, false, cond, List, [], ◌∷◌, ◌++◌, map, length, get_or, Option, Some, None, refl, sym, ap, ◌∙◌, arith}
use Rattle.std.specs.List.{All, filter, filter_map, flat_map, sum_by, range_with_len, enumerate_from, cons_option}
use Rattle.std.proofs.lemmas.List.{length-append, length-map}
use Rattle.std.proofs.lemmas.List.Concat.{length-flat_map}
use Rattle.std.proofs.lemmas.List.Elements.{All-head, All-tail, All-nil, All-cons, All-map, All-weaker}
use Rattle.std.proofs.lemmas.List.Sums.{sum_by-cons, sum_by-append}
use Rattle.rig_scene.specs.declared.id.AnimId.{AnimId}
use Rattle.rig_scene.specs.declared.id.AnimId.TheVariants as anim
use Rattle.rig_scene.specs.declared.driver.Driver.{Driver as DriverRecord}
use Rattle.rig_scene.specs.declared.limits.TheConstants.{MAX_LAYERS, MAX_MODIFIERS}
use Rattle.rig_scene.specs.declared.object.Kind.{Kind}
use Rattle.rig_scene.specs.declared.object.Kind.TheVariants as kind
use Rattle.rig_scene.specs.declared.object.Object.{Object}
use Rattle.rig_scene.specs.declared.operation.OpId.{OpId}
use Rattle.rig_scene.specs.declared.operation.OpId.TheVariants.{Animation, Driver, Local, World, PoseInit, Bone, PoseDone, Layer, Geometry, ModifierOp, GeometryDone}
use Rattle.rig_scene.specs.declared.pencil.PencilData.{PencilData}
use Rattle.rig_scene.specs.Scene.{SceneRecord}
use Rattle.rig_scene.specs.Id.{same_id}
use Rattle.rig_scene.specs.WellFormed.{pose_count}
use Rattle.rig_scene.specs.Drivers.{drivers_of, has_action}
use Rattle.rig_scene.specs.Quantities.{quantities}
use Rattle.rig_scene.specs.Operations.{animation_of, driver_operations, pencil_operations, kind_operations, object_operations, operations}
use Rattle.rig_scene.specs.Facts.{SceneFacts, ObjectFacts, PencilFacts}
use Rattle.rig_scene.specs.OneOfEach.{is_of_object, pencil_ids_once, object_ids_once}
use Rattle.rig_scene.specs.Order.{quantities_in_order}
use Rattle.rig_scene.specs.Pairs.{NoneTwice, NoneTwice-append, AllPairs-head, AllPairs-tail, AllPairs-map}
use Rattle.rig_scene.specs.Same.{same_id-equal}
use Rattle.rig_scene.specs.StandsFor.{quantity_of}

-- ---- lengths and sums

range_length : (a n : ℕ) → length (range_with_len a n) ≡ n
range_length a zero = refl
range_length a (suc n) = ap suc (range_length (a + 1) n)

pub enumerate_length : {X : Type 0} (a : ℕ) (xs : List X) → length (enumerate_from a xs) ≡ length xs
enumerate_length a [] = refl
enumerate_length a (x ∷ xs) = ap suc (enumerate_length (a + 1) xs)

pub enumerate_all : {X : Type 0} (P : X → Type 0) (a : ℕ) (xs : List X) → All P xs → All (λ e. P e.1) (enumerate_from a xs)
enumerate_all P a [] h = All-nil (λ e. P e.1)
enumerate_all P a (x ∷ xs) h = All-cons (λ e. P e.1) (a, x) (enumerate_from (a + 1) xs) (All-head P x xs h) (enumerate_all P (a + 1) xs (All-tail P x xs h))

-- what a function gives of numbers in a row
numbered_length : {A : Type 0} (f : ℕ → A) (a n : ℕ) → length (map f (range_with_len a n)) ≡ n
numbered_length f a n = length-map (range_with_len a n) f ∙ range_length a n

sum_by-map : {X Y : Type 0} (f : Y → ℕ) (g : X → Y) (xs : List X) → sum_by f (map g xs) ≡ sum_by (λ x. f (g x)) xs
sum_by-map f g [] = refl
sum_by-map f g (x ∷ xs) = sum_by-cons f (g x) (map g xs) ∙ ap (λ n. f (g x) + n) (sum_by-map f g xs) ∙ sym (sum_by-cons (λ x. f (g x)) x xs)

-- a sum of terms of which each is at most a number, a second and a third term
pub sum_within : {X : Type 0} (f g h : X → ℕ) (n : ℕ) (xs : List X) → All (λ x. f x ≤ n + g x + h x) xs → sum_by f xs ≤ length xs * n + sum_by g xs + sum_by h xs
sum_within f g h n [] l = omega arith
sum_within f g h n (x ∷ xs) l =
    let here : f x ≤ n + g x + h x = All-head (λ x. f x ≤ n + g x + h x) x xs l in
    let rest : sum_by f xs ≤ length xs * n + sum_by g xs + sum_by h xs = sum_within f g h n xs (All-tail (λ x. f x ≤ n + g x + h x) x xs l) in
    let fs : sum_by f (x ∷ xs) ≡ f x + sum_by f xs = sum_by-cons f x xs in
    let gs : sum_by g (x ∷ xs) ≡ g x + sum_by g xs = sum_by-cons g x xs in
    let hs : sum_by h (x ∷ xs) ≡ h x + sum_by h xs = sum_by-cons h x xs in
    omega arith

sum_of_zeros : {X : Type 0} (f : X → ℕ) (xs : List X) → All (λ x. f x ≡ 0) xs → sum_by f xs ≡ 0
sum_of_zeros f [] h = refl
sum_of_zeros f (x ∷ xs) h =
    let here : f x ≡ 0 = All-head (λ x. f x ≡ 0) x xs h in
    let rest : sum_by f xs ≡ 0 = sum_of_zeros f xs (All-tail (λ x. f x ≡ 0) x xs h) in
    let fs : sum_by f (x ∷ xs) ≡ f x + sum_by f xs = sum_by-cons f x xs in
    omega arith

-- ---- drivers

module _ (i : AnimId) where
  none_of_others : (id : AnimId) → (i ≡ id → ⊥) → (b : Bool) → same_id i id ≡ b → cond {A = ℕ} b 1 0 ≡ 0
  none_of_others id other true e = absurd (other (same_id-equal i id e))
  none_of_others id other false e = refl

  at_most_one_if : (id : AnimId) (ids : List AnimId) → All (λ j. id ≢ j) ids → sum_by (λ j. cond (same_id i j) 1 0) ids ≤ 1 → (b : Bool) → same_id i id ≡ b → cond b 1 0 + sum_by (λ j. cond (same_id i j) 1 0) ids ≤ 1
  at_most_one_if id ids others rest true e =
      let none : sum_by (λ j. cond (same_id i j) 1 0) ids ≡ 0 =
      sum_of_zeros (λ j. cond (same_id i j) 1 0) ids (All-weaker (λ j. id ≢ j) (λ j. cond (same_id i j) 1 0 ≡ 0) (λ j ne. none_of_others j (λ same. ne (sym (same_id-equal i id e) ∙ same)) (same_id i j) refl) ids others) in
      omega arith
  at_most_one_if id ids others rest false e = omega arith

  -- of distinct ids at most one is the same
  at_most_one : (ids : List AnimId) → NoneTwice ids → sum_by (λ j. cond (same_id i j) 1 0) ids ≤ 1
  at_most_one [] once = omega arith
  at_most_one (id ∷ ids) once =
      let both = at_most_one_if id ids (AllPairs-head (λ x y. x ≢ y) id ids once) (at_most_one ids (AllPairs-tail (λ x y. x ≢ y) id ids once)) (same_id i id) refl in
      let first : sum_by (λ j. cond (same_id i j) 1 0) (id ∷ ids) ≡ cond (same_id i id) 1 0 + sum_by (λ j. cond (same_id i j) 1 0) ids = sum_by-cons (λ j. cond (same_id i j) 1 0) id ids in
      omega (arith, both)

-- how many drivers of a list are those of an id
abbrev pub drivers_for : List DriverRecord → AnimId → ℕ
drivers_for drivers id = length (filter (λ d. same_id d.id id) drivers)

one_driver : (d : DriverRecord) (drivers : List DriverRecord) (id : AnimId) (b : Bool) → length (cond b (d ∷ filter (λ d. same_id d.id id) drivers) (filter (λ d. same_id d.id id) drivers)) ≤ 0 + cond b 1 0 + drivers_for drivers id
one_driver d drivers id true = omega arith
one_driver d drivers id false = omega arith

-- of distinct ids together there are no more drivers than there are
drivers_within : (ids : List AnimId) → NoneTwice ids → (drivers : List DriverRecord) → sum_by (drivers_for drivers) ids ≤ length drivers
drivers_within ids once [] = omega (arith, sum_of_zeros (drivers_for []) ids (λ k d l. refl))
drivers_within ids once (d ∷ drivers) =
    let split : sum_by (drivers_for (d ∷ drivers)) ids ≤ length ids * 0 + sum_by (λ j. cond (same_id d.id j) 1 0) ids + sum_by (drivers_for drivers) ids =
    sum_within (drivers_for (d ∷ drivers)) (λ j. cond (same_id d.id j) 1 0) (drivers_for drivers) 0 ids (λ k e l. one_driver d drivers (get_or ids k e) (same_id d.id (get_or ids k e))) in
    let one : sum_by (λ j. cond (same_id d.id j) 1 0) ids ≤ 1 = at_most_one d.id ids once in
    let rest : sum_by (drivers_for drivers) ids ≤ length drivers = drivers_within ids once drivers in
    omega arith

-- ---- operations

animation_length : (id : AnimId) (b : Bool) → length (cond b (Animation id ∷ []) []) ≤ 1
animation_length id true = omega arith
animation_length id false = omega arith

module _ (s : SceneRecord) (facts : SceneFacts s) where
  of_channels_length : (id : AnimId) → length (animation_of s id ++ driver_operations s id) ≤ 1 + drivers_for s.drivers id
  of_channels_length id =
      let whole : length (animation_of s id ++ driver_operations s id) ≡ length (animation_of s id) + length (driver_operations s id) = length-append (animation_of s id) (driver_operations s id) in
      let drivers : length (driver_operations s id) ≡ drivers_for s.drivers id = length-map (drivers_of s id) (λ (d : DriverRecord). Driver d.id d.path) in
      omega (arith, animation_length id (has_action s id))

  pencil_length : (p : ℕ) (pencil : PencilData) → length pencil.layers ≤ MAX_LAYERS → length (pencil_operations s p pencil) ≤ 1 + MAX_LAYERS + drivers_for s.drivers (anim.Pencil p)
  pencil_length p pencil few =
      let whole : length (pencil_operations s p pencil) ≡ length (animation_of s (anim.Pencil p) ++ driver_operations s (anim.Pencil p)) + length (map (Layer p) (range_with_len 0 (length pencil.layers))) =
      length-append (animation_of s (anim.Pencil p) ++ driver_operations s (anim.Pencil p)) (map (Layer p) (range_with_len 0 (length pencil.layers))) in
      let layers : length (map (Layer p) (range_with_len 0 (length pencil.layers))) ≡ length pencil.layers = numbered_length (Layer p) 0 (length pencil.layers) in
      omega (arith, of_channels_length (anim.Pencil p))

  row_length : (first last : OpId) (f : ℕ → OpId) (a n : ℕ) → length (first ∷ (map f (range_with_len a n) ++ last ∷ [])) ≡ 2 + n
  row_length first last f a n =
      let whole : length (map f (range_with_len a n) ++ last ∷ []) ≡ length (map f (range_with_len a n)) + 1 = length-append (map f (range_with_len a n)) (last ∷ []) in
      let middle : length (map f (range_with_len a n)) ≡ n = numbered_length f a n in
      omega arith

  kind_length : (o : Object) → ObjectFacts s o → (k : Kind) → o.kind ≡ k → length (kind_operations o.id k) ≤ 2 + MAX_MODIFIERS + pose_count k
  kind_length o f kind.Empty e = omega arith
  kind_length o f (kind.Armature index pose) e = omega (arith, row_length (PoseInit o.id) (PoseDone o.id) (Bone o.id) 0 (length pose))
  kind_length o f (kind.Pencil index modifiers) e = omega (arith, (f.pencil index modifiers e).count, row_length (Geometry o.id) (GeometryDone o.id) (ModifierOp o.id) 1 (length modifiers))

  object_length : (o : Object) → ObjectFacts s o → length (object_operations s o) ≤ 5 + MAX_MODIFIERS + drivers_for s.drivers (anim.Object o.id) + pose_count o.kind
  object_length o f =
      let whole : length (object_operations s o) ≡ length (animation_of s (anim.Object o.id) ++ driver_operations s (anim.Object o.id)) + suc (suc (length (kind_operations o.id o.kind))) =
      length-append (animation_of s (anim.Object o.id) ++ driver_operations s (anim.Object o.id)) (Local o.id ∷ World o.id ∷ kind_operations o.id o.kind) in
      omega (arith, of_channels_length (anim.Object o.id), kind_length o f o.kind refl)

  -- the ids of pencils and objects
  ids : List AnimId
  ids = map (λ (e : ℕ × PencilData). anim.Pencil e.0) (enumerate_from 0 s.pencils) ++ map (λ (o : Object). anim.Object o.id) s.objects

  ids_once : NoneTwice ids
  unfolding ids
  ids_once =
      NoneTwice-append is_of_object 0 (map (λ (e : ℕ × PencilData). anim.Pencil e.0) (enumerate_from 0 s.pencils)) (map (λ (o : Object). anim.Object o.id) s.objects)
      (AllPairs-map (λ x y. x ≢ y) (λ (e : ℕ × PencilData). anim.Pencil e.0) (enumerate_from 0 s.pencils) (pencil_ids_once s facts))
      (AllPairs-map (λ x y. x ≢ y) (λ (o : Object). anim.Object o.id) s.objects (object_ids_once s facts))
      (All-map (λ id. is_of_object id ≤ 0) (λ (e : ℕ × PencilData). anim.Pencil e.0) (enumerate_from 0 s.pencils) (λ k d l. omega arith))
      (All-map (λ id. 0 < is_of_object id) (λ (o : Object). anim.Object o.id) s.objects (λ k d l. omega arith))

  pub drivers_together : sum_by (λ (e : ℕ × PencilData). drivers_for s.drivers (anim.Pencil e.0)) (enumerate_from 0 s.pencils) + sum_by (λ (o : Object). drivers_for s.drivers (anim.Object o.id)) s.objects ≤ length s.drivers
  unfolding ids
  drivers_together =
      let whole = sum_by-append (drivers_for s.drivers) (map (λ (e : ℕ × PencilData). anim.Pencil e.0) (enumerate_from 0 s.pencils)) (map (λ (o : Object). anim.Object o.id) s.objects) in
      let pencils = sum_by-map (drivers_for s.drivers) (λ (e : ℕ × PencilData). anim.Pencil e.0) (enumerate_from 0 s.pencils) in
      let objects = sum_by-map (drivers_for s.drivers) (λ (o : Object). anim.Object o.id) s.objects in
      omega (arith, whole, pencils, objects, drivers_within ids ids_once s.drivers)

  pub operations_count : length (operations s) < 65536
  operations_count =
      let pencils = flat_map (λ (e : ℕ × PencilData). pencil_operations s e.0 e.1) (enumerate_from 0 s.pencils) in
      let objects = flat_map (object_operations s) s.objects in
      let whole : length (operations s) ≡ suc (length pencils + length objects) = ap suc (length-append pencils objects) in
      let of_pencils = length-flat_map (λ (e : ℕ × PencilData). pencil_operations s e.0 e.1) (enumerate_from 0 s.pencils) in
      let of_objects = length-flat_map (object_operations s) s.objects in
      let few_pencils = sum_within (λ (e : ℕ × PencilData). length (pencil_operations s e.0 e.1)) (λ e. drivers_for s.drivers (anim.Pencil e.0)) (λ e. 0) (1 + MAX_LAYERS) (enumerate_from 0 s.pencils)
      (All-weaker (λ e. PencilFacts s e.1) (λ e. length (pencil_operations s e.0 e.1) ≤ 1 + MAX_LAYERS + drivers_for s.drivers (anim.Pencil e.0) + 0) (λ e f. more (pencil_length e.0 e.1 f.count)) (enumerate_from 0 s.pencils) (enumerate_all (PencilFacts s) 0 s.pencils facts.pencils.each)) in
      let few_objects = sum_within (λ (o : Object). length (object_operations s o)) (λ o. drivers_for s.drivers (anim.Object o.id)) (λ o. pose_count o.kind) (5 + MAX_MODIFIERS) s.objects
      (All-weaker (ObjectFacts s) (λ o. length (object_operations s o) ≤ 5 + MAX_MODIFIERS + drivers_for s.drivers (anim.Object o.id) + pose_count o.kind) object_length s.objects facts.objects.each) in
      let zeros = sum_of_zeros (λ (e : ℕ × PencilData). 0) (enumerate_from 0 s.pencils) (λ k d l. refl) in
      omega (arith, whole, of_pencils, of_objects, few_pencils, few_objects, zeros, drivers_together, enumerate_length 0 s.pencils, facts.pencils.count, facts.objects.count, facts.objects.pose_bones, facts.drivers.count)
    where
      more : {m n : ℕ} → m ≤ n → m ≤ n + 0
      more l = omega arith

-- ---- quantities

filter_map_length_if : {Y : Type 0} (o : Option Y) (ys : List Y) (n : ℕ) → length ys ≤ n → length (cons_option o ys) ≤ suc n
filter_map_length_if None ys n l = omega arith
filter_map_length_if (Some y) ys n l = omega arith

filter_map_length : {X Y : Type 0} (h : X → Option Y) (xs : List X) → length (filter_map h xs) ≤ length xs
filter_map_length h [] = omega arith
filter_map_length h (x ∷ xs) = filter_map_length_if (h x) (filter_map h xs) (length xs) (filter_map_length h xs)

-- there are no more quantities than operations
pub quantities_count : (s : SceneRecord) → length (quantities s) ≤ length (operations s)
quantities_count s = omega (arith, ap length (quantities_in_order s), filter_map_length quantity_of (operations s))

-- The slots of a scene: each id has one of its own, and the drivers at it are those of the id.
use Rattle.std.proofs.Common.{◌≡◌, ℕ, zero, suc, ◌+◌, ◌<◌, ◌≤◌, Bool, true, false, cond, List, [], ◌∷◌, length, map, Option, Some, None, refl, sym, ap, ◌∙◌, arith, lit≤}
use Rattle.std.proofs.lemmas.Bool.{lt-ltb, ltb-true, false≢true}
use Rattle.std.proofs.lemmas.Bool.Decides.{nat_tests, Decides-eqb}
use Rattle.std.proofs.lemmas.List.Elements.{All-contains, All-map, All-same, All-weaker}
use Rattle.std.proofs.lemmas.List.FromFn.{length-map-range_with_len}
use Rattle.std.proofs.lemmas.Option.{cond_some, option_and_then_some, slice_get_within, same_Some}
use Rattle.std.specs.Prelude.{◌==◌, IfSome, IsTrue, is_some, nat_lt, slice_get, option_and_then}
use Rattle.std.specs.Borrow.{Bor}
use Rattle.std.specs.List.{All, list_any}
use Rattle.std.specs.Option.{option_copied, option_map_or}
use Rattle.rig_rows.specs.Rows.{indices_of}
use Rattle.rig_scene.specs.declared.id.AnimId.{AnimId}
use Rattle.rig_scene.specs.declared.id.AnimId.TheVariants as anim
use Rattle.rig_scene.specs.declared.id.ObjectId.{ObjectId}
use Rattle.rig_scene.specs.declared.limits.TheConstants.{MAX_BONES, MAX_LAYERS, MAX_MODIFIERS}
use Rattle.rig_scene.specs.declared.object.Kind.{Kind}
use Rattle.rig_scene.specs.declared.object.Kind.TheVariants.{Empty, Armature, Pencil}
use Rattle.rig_scene.specs.declared.object.Object.{Object}
use Rattle.rig_scene.specs.declared.pencil.PencilData.{PencilData}
use Rattle.rig_scene.specs.declared.path.Path.{Path}
use Rattle.rig_scene.specs.declared.path.Path.TheVariants.{Own, Bone, Layer}
use Rattle.rig_scene.specs.declared.quantity.Quantity.TheVariants.{Chan}
use Rattle.rig_scene.specs.Facts.{ArmatureFacts, DriverFacts, ObjectFacts, PencilFacts, SceneFacts}
use Rattle.rig_scene.specs.Found.{Contains-slice_get}
use Rattle.rig_scene.specs.FactsHold.{object_is_there}
use Rattle.rig_scene.specs.Id.{same_id}
use Rattle.rig_scene.specs.Quantities.{chans_of, modifiers_of}
use Rattle.rig_scene.specs.Scene.{SceneRecord, object_of}
use Rattle.rig_scene.specs.Text.{same_text}
use Rattle.rig_scene.specs.WellFormed.{has_object, has_path, pose_count}
use Rattle.rig_quantities.proofs.DriverRows.{filter_agree_within, indices_below, picked, row_is}
use Rattle.rig_quantities.proofs.Rising.{found, at_index}
use Rattle.rig_quantities.specs.Find.{object_index, object_at}
use Rattle.rig_quantities.specs.Slots.{has_id, slot, driver_rows, chans_at}

number-itself : (n : ℕ) → (n == n) ≡ true
number-itself n = (Decides-eqb n n).1 refl

-- tests of two pairs of numbers that are equal together
tests_agree : (m n p q : ℕ) → (m ≡ n → p ≡ q) → (p ≡ q → m ≡ n) → (m == n) ≡ (p == q)
tests_agree m n p q there back = by (m == n) (p == q) refl refl
  where
    by : (a b : Bool) → (m == n) ≡ a → (p == q) ≡ b → a ≡ b
    by true true e f = refl
    by true false e f = absurd (false≢true (sym f ∙ (Decides-eqb p q).1 (there ((Decides-eqb m n).0 e))))
    by false true e f = absurd (false≢true (sym e ∙ (Decides-eqb m n).1 (back ((Decides-eqb p q).0 f))))
    by false false e f = refl

module _ (s : SceneRecord) where
  -- there is a row for each slot
  pub row_count : (rows : List (List ℕ)) → rows ≡ driver_rows s → length rows ≡ length s.pencils + length s.objects
  row_count rows e =
      ap length e ∙ length-map-range_with_len (λ key. indices_of key (map (λ d. slot s d.id) s.drivers)) 0 (length s.pencils + length s.objects)

  -- the row of a slot
  pub row_of : (rows : List (List ℕ)) (k : ℕ) (row : List ℕ) → rows ≡ driver_rows s → k < length rows → slice_get rows k ≡ Some row
      → row ≡ indices_of k (map (λ d. slot s d.id) s.drivers)
  row_of rows k row e l at =
      let count = length s.pencils + length s.objects in
      let keys = map (λ d. slot s d.id) s.drivers in
      let long = row_count rows e in
      same_Some row (indices_of k keys) (sym at ∙ ap (λ rows. slice_get rows k) e ∙ row_is count keys k (omega arith))

  pub row_below : (rows : List (List ℕ)) (k : ℕ) (row : List ℕ) → rows ≡ driver_rows s → k < length rows → slice_get rows k ≡ Some row
      → All (λ i. i < length s.drivers) row
  row_below rows k row e l at =
      All-same (λ i. i < length s.drivers) row (indices_of k (map (λ d. slot s d.id) s.drivers)) (row_of rows k row e l at) (indices_below (λ d. slot s d.id) k s.drivers)

module _ (s : SceneRecord) (facts : SceneFacts s) where
  -- the object of an id stands at its index
  pub index_finds : (id : ObjectId) → object_of s id ≡ object_at s.objects (object_index s id) id
  index_finds id = found (λ o. o.id.0) id.0 s.objects facts.objects.ids_rise

  -- where the object of an id that is there stands
  record Stands (id : ObjectId) : Type 0 where
    pub object : Object
    pub at : slice_get s.objects (object_index s id) ≡ Some object
    pub has_it : object.id.0 ≡ id.0

  stands : (id : ObjectId) → IsTrue (has_object s id) → Stands id
  stands id is =
      let there = object_is_there s id is in
      option_and_then_some (λ o. cond (o.id.0 == id.0) (Some o) None) (slice_get s.objects (object_index s id)) there.object
      (sym (index_finds id) ∙ there.is_object)
      (λ o at e. record { object = o; at = at; has_it = (Decides-eqb o.id.0 id.0).0 (cond_some (o.id.0 == id.0) o there.object e).0 })

  -- where the object of an id stands is its index
  pub index_is : (i : ℕ) (id : ObjectId) → is_some (object_at s.objects i id) ≡ true → i ≡ object_index s id
  index_is i id is = sym (at_index (λ o. o.id.0) id.0 s.objects i facts.objects.ids_rise is)

  object_at_its_index : (i : ℕ) (o : Object) → slice_get s.objects i ≡ Some o → object_at s.objects i o.id ≡ Some o
  object_at_its_index i o at =
      ap (λ found. option_and_then (λ x. cond (x.id.0 == o.id.0) (Some x) None) found) at ∙ ap (λ b. cond b (Some o) None) (number-itself o.id.0)

  pub index_of_object : (i : ℕ) (o : Object) → slice_get s.objects i ≡ Some o → i ≡ object_index s o.id
  index_of_object i o at = index_is i o.id (ap is_some (object_at_its_index i o at))

  pub has_object_at : (i : ℕ) (o : Object) → slice_get s.objects i ≡ Some o → IsTrue (has_object s o.id)
  has_object_at i o at =
      ap is_some (index_finds o.id ∙ ap (λ i. object_at s.objects i o.id) (sym (index_of_object i o at)) ∙ object_at_its_index i o at)

  -- ---- slots

  pub slot_below : (id : AnimId) → IsTrue (has_id s id) → slot s id < length s.pencils + length s.objects
  slot_below (anim.Object id) is =
      let here = stands id is in
      let within : object_index s id < length s.objects = slice_get_within s.objects (object_index s id) here.object here.at in
      omega arith
  slot_below (anim.Pencil p) is =
      let within : p < length s.pencils = ltb-true p (length s.pencils) is in
      omega arith

  same_index : (a b : ObjectId) → Stands a → Stands b → object_index s a ≡ object_index s b → a.0 ≡ b.0
  same_index a b x y e =
      let same : x.object ≡ y.object = same_Some x.object y.object (sym x.at ∙ ap (slice_get s.objects) e ∙ y.at) in
      sym x.has_it ∙ ap (λ o. o.id.0) same ∙ y.has_it

  -- ids have the same slot exactly where they are the same
  pub same_slot : (a b : AnimId) → IsTrue (has_id s a) → IsTrue (has_id s b) → (slot s a == slot s b) ≡ same_id a b
  same_slot (anim.Object a) (anim.Object b) h k =
      tests_agree (length s.pencils + object_index s a) (length s.pencils + object_index s b) a.0 b.0
      (λ e. same_index a b (stands a h) (stands b k) (omega arith))
      (λ e. ap (λ id. length s.pencils + object_index s (record { 0 = id })) e)
  same_slot (anim.Object a) (anim.Pencil q) h k =
      let within : q < length s.pencils = ltb-true q (length s.pencils) k in
      grind (arith, nat_tests)
  same_slot (anim.Pencil p) (anim.Object b) h k =
      let within : p < length s.pencils = ltb-true p (length s.pencils) h in
      grind (arith, nat_tests)
  same_slot (anim.Pencil p) (anim.Pencil q) h k = refl

  -- ---- drivers

  object_from_bones : {A B : Type 0} (o : Option A) (bones : A → Option B) (test : B → Bool)
      → option_map_or test (option_and_then bones o) false ≡ true → is_some o ≡ true
  object_from_bones None bones test e = e
  object_from_bones (Some x) bones test e = refl

  within_from_some : {A : Type 0} (xs : List A) (i : ℕ) (test : A → Bool) → option_map_or test (slice_get xs i) false ≡ true → nat_lt i (length xs) ≡ true
  within_from_some [] i test e = absurd (false≢true e)
  within_from_some (x ∷ xs) zero test e = lt-ltb 0 (length (x ∷ xs)) (omega arith)
  within_from_some (x ∷ xs) (suc i) test e =
      let rest : i < length xs = ltb-true i (length xs) (within_from_some xs i test e) in
      lt-ltb (suc i) (length (x ∷ xs)) (omega arith)

  has_id-from_path : (id : AnimId) (p : Path) → IsTrue (has_path s id p) → IsTrue (has_id s id)
  has_id-from_path (anim.Object o) (Own c) is = is
  has_id-from_path (anim.Object o) (Bone name c) is = object_from_bones (object_of s o) _ (λ bones. list_any (λ b. same_text b.name name) bones) is
  has_id-from_path (anim.Object o) (Layer name axis) is = absurd (false≢true is)
  has_id-from_path (anim.Pencil p) (Own c) is = absurd (false≢true is)
  has_id-from_path (anim.Pencil p) (Bone name c) is = absurd (false≢true is)
  has_id-from_path (anim.Pencil p) (Layer name axis) is = within_from_some s.pencils p (λ pencil. list_any (λ l. same_text l.name name) pencil.layers) is

  pub drivers_have_ids : All (λ d. IsTrue (has_id s d.id)) s.drivers
  drivers_have_ids = All-weaker (DriverFacts s) (λ d. IsTrue (has_id s d.id)) (λ d f. has_id-from_path d.id d.path f.path_is_there) s.drivers facts.drivers.each

  -- the drivers at the indices of an id's slot are those of the id
  pub chans_at_slot : (id : AnimId) → IsTrue (has_id s id) → chans_at s.drivers (indices_of (slot s id) (map (λ d. slot s d.id) s.drivers)) ≡ chans_of s id
  chans_at_slot id is =
      picked (λ d. slot s d.id) (slot s id) (λ d. Chan d.id d.path) s.drivers
      ∙ ap (map (λ d. Chan d.id d.path)) (filter_agree_within (λ d. slot s d.id == slot s id) (λ d. same_id d.id id) s.drivers
      (All-weaker (λ d. IsTrue (has_id s d.id)) (λ d. (slot s d.id == slot s id) ≡ same_id d.id id) (λ d h. same_slot d.id id h is) s.drivers drivers_have_ids))

  -- ---- rows

  -- each driver has a slot
  pub slots_below : All (λ k. k < length s.pencils + length s.objects) (map (λ d. slot s d.id) s.drivers)
  slots_below =
      All-map (λ k. k < length s.pencils + length s.objects) (λ d. slot s d.id) s.drivers
      (All-weaker (λ d. IsTrue (has_id s d.id)) (λ d. slot s d.id < length s.pencils + length s.objects) (λ d h. slot_below d.id h) s.drivers drivers_have_ids)

  pub chans_of_row : (rows : List (List ℕ)) (k : ℕ) (row : List ℕ) → rows ≡ driver_rows s → k < length rows → slice_get rows k ≡ Some row
      → (id : AnimId) → IsTrue (has_id s id) → slot s id ≡ k → chans_at s.drivers row ≡ chans_of s id
  chans_of_row rows k row e l at id is same =
      ap (chans_at s.drivers) (row_of s rows k row e l at ∙ ap (λ k. indices_of k (map (λ d. slot s d.id) s.drivers)) (sym same)) ∙ chans_at_slot id is

  -- ---- counts

  pub few_layers : (i : ℕ) (p : PencilData) → slice_get s.pencils i ≡ Some p → length p.layers ≤ MAX_LAYERS
  few_layers i p at = (All-contains (PencilFacts s) s.pencils p facts.pencils.each (Contains-slice_get s.pencils i p at)).count

  pub few_layers_if : (i : ℕ) (r : Option (Bor PencilData)) → option_copied r ≡ slice_get s.pencils i → IfSome r (λ p. length p.now.layers ≤ MAX_LAYERS)
  few_layers_if i None e = tt
  few_layers_if i (Some p) e = few_layers i p.now (sym e)

  few_bones : (o : Object) → ObjectFacts s o → (kind : Kind) → o.kind ≡ kind → pose_count kind ≤ MAX_BONES
  few_bones o f Empty is = lit≤ tt
  few_bones o f (Armature armature pose) is =
      let there = f.armature armature pose is in
      let few : length there.armature.bones ≤ MAX_BONES =
      (All-contains ArmatureFacts s.armatures there.armature facts.armatures.each (Contains-slice_get s.armatures armature there.armature there.is_armature)).count in
      let poses = there.poses in
      omega arith
  few_bones o f (Pencil pencil modifiers) is = lit≤ tt

  few_modifiers : (o : Object) → ObjectFacts s o → (kind : Kind) → o.kind ≡ kind → length (modifiers_of kind) ≤ MAX_MODIFIERS
  few_modifiers o f Empty is = lit≤ tt
  few_modifiers o f (Armature armature pose) is = lit≤ tt
  few_modifiers o f (Pencil pencil modifiers) is = (f.pencil pencil modifiers is).count

  -- an object has few bones and few modifiers
  pub few_of_kind : (i : ℕ) (o : Object) → slice_get s.objects i ≡ Some o → (pose_count o.kind ≤ MAX_BONES) × (length (modifiers_of o.kind) ≤ MAX_MODIFIERS)
  few_of_kind i o at =
      let f = All-contains (ObjectFacts s) s.objects o facts.objects.each (Contains-slice_get s.objects i o at) in
      (few_bones o f o.kind refl, few_modifiers o f o.kind refl)

-- Where objects of rising ids stand, and which row the id of a driver has.
use Rattle.std.proofs.Common.{◌≡◌, ℕ, zero, suc, ◌+◌, ◌^◌, ◌<◌, ◌≤◌, true, false, cond, List, [], ◌∷◌, length, get_or, slice_get, Option, Some, None, refl, sym, ap, ◌∙◌, subst, ⊎_elim, arith}
use Rattle.std.specs.Prelude.{◌==◌, IsTrue, nat_lt, is_some}
use Rattle.std.specs.List.{prefix_len, AllPairs, find, list_any}
use Rattle.std.specs.List.Sorted.{IsPartitionPoint, IsNonDecreasingBy}
use Rattle.std.specs.Option.{option_map_or, option_and_then, option_map}
use Rattle.std.proofs.Math.Nat.{eq-or-lt_of_le}
use Rattle.std.proofs.lemmas.Bool.{lt-ltb, le-ltb, ne_eqb, false≢true}
use Rattle.std.proofs.lemmas.Bool.Decides.{Decides-eqb, Decides-like, same_from_decides}
use Rattle.std.proofs.lemmas.List.Sums.{prefix_len_is, prefix_len-le-length}
use Rattle.std.proofs.lemmas.Option.{slice_get_within, get_or_from_slice_get, slice_get-get_or, same_Some}
use Rattle.rig_scene.specs.declared.id.AnimId.{AnimId}
use Rattle.rig_scene.specs.declared.limits.TheConstants.{MAX_OBJECTS, MAX_PENCILS, MAX_DRIVERS}
use Rattle.rig_scene.specs.declared.id.AnimId.TheVariants as anim
use Rattle.rig_scene.specs.declared.id.ObjectId.{ObjectId}
use Rattle.rig_scene.specs.declared.object.Object.{Object}
use Rattle.rig_scene.specs.declared.path.Path.{Path}
use Rattle.rig_scene.specs.declared.path.Path.TheVariants.{Own, Bone, Layer}
use Rattle.rig_scene.specs.declared.pencil.PencilData.{PencilData}
use Rattle.rig_scene.specs.declared.pencil.Layer.{Layer as LayerRecord}
use Rattle.rig_scene.specs.FactsHold.{scene_facts}
use Rattle.rig_scene.specs.Found.{find-contains}
use Rattle.rig_scene.specs.Id.{same_object, same_id}
use Rattle.rig_scene.specs.Pairs.{AllPairs-head, AllPairs-tail}
use Rattle.rig_scene.specs.Same.{same_object-equal, same_object-itself, same_id-Decides}
use Rattle.rig_scene.specs.Scene.{SceneRecord, object_of, armature_of}
use Rattle.rig_scene.specs.Text.{same_text}
use Rattle.rig_scene.specs.WellFormed.{has_path, is_scene}
use Rattle.rig_nodes.specs.Slots.{slot_of}

-- ---- rising ids

module _ (objects : List Object) (rise : AllPairs (λ o p. o.id.0 < p.id.0) objects) where
  -- as many objects have lower ids as an object's index says
  pub lower_ids : (i : ℕ) (o : Object) → slice_get objects i ≡ Some o → prefix_len (λ p. nat_lt p.id.0 o.id.0) objects ≡ i
  lower_ids i o at =
      let within : i < length objects = slice_get_within objects i o at in
      let here : get_or objects i o ≡ o = get_or_from_slice_get objects i o o at in
      prefix_len_is (λ p. nat_lt p.id.0 o.id.0) objects i o (omega arith)
      (λ k l. lt-ltb (get_or objects k o).id.0 o.id.0 (subst (λ (p : Object). (get_or objects k o).id.0 < p.id.0) here (rise k i o l within)))
      (λ l. subst (λ (p : Object). nat_lt p.id.0 o.id.0 ≡ false) (sym here) (le-ltb o.id.0 o.id.0 (omega arith)))

  -- the ids don't fall
  pub ids_sorted : IsNonDecreasingBy (λ (o : Object). o.id.0) objects
  ids_sorted i j d le within =
      ⊎_elim
      (λ (e : i ≡ j). subst (λ k. (get_or objects i d).id.0 ≤ (get_or objects k d).id.0) e (omega arith))
      (λ (l : i < j). let lower : (get_or objects i d).id.0 < (get_or objects j d).id.0 = rise i j d l within in omega arith)
      (eq-or-lt_of_le le)

-- what a search by halves gives
pub lower_searched : (n : ℕ) (objects : List Object) (i : ℕ) → i ≤ length objects
    → IsPartitionPoint (λ o. nat_lt o.id.0 n ≡ true) (λ o. nat_lt o.id.0 n ≡ false) objects i → prefix_len (λ o. nat_lt o.id.0 n) objects ≡ i
lower_searched n [] i within point = omega arith
lower_searched n (o ∷ objects) i within point =
    prefix_len_is (λ o. nat_lt o.id.0 n) (o ∷ objects) i o within (λ k l. point.0 k o (omega arith) l) (λ l. point.1 i o (omega arith) l)

-- the object at an index is the one of its id
object_found : (objects : List Object) → AllPairs (λ o p. o.id.0 < p.id.0) objects → (i : ℕ) (o : Object) → slice_get objects i ≡ Some o → find (λ p. same_object p.id o.id) objects ≡ Some o
object_found [] rise i o at = absurd cc
object_found (p ∷ objects) rise zero o at =
    let same : p ≡ o = same_Some p o at in
    subst (λ (q : Object). cond (same_object q.id o.id) (Some q) (find (λ p. same_object p.id o.id) objects) ≡ Some o) (sym same)
    (ap (λ b. cond b (Some o) (find (λ p. same_object p.id o.id) objects)) (same_object-itself o.id))
object_found (p ∷ objects) rise (suc i) o at =
    let lower : p.id.0 < o.id.0 =
    subst (λ (q : Object). p.id.0 < q.id.0) (get_or_from_slice_get objects i o o at) (AllPairs-head (λ (o p : Object). o.id.0 < p.id.0) p objects rise i o (slice_get_within objects i o at)) in
    ap (λ b. cond b (Some p) (find (λ p. same_object p.id o.id) objects)) (ne_eqb p.id.0 o.id.0 (λ e. omega arith))
    ∙ object_found objects (AllPairs-tail (λ (o p : Object). o.id.0 < p.id.0) p objects rise) i o at

pub object_at : (s : SceneRecord) → AllPairs (λ o p. o.id.0 < p.id.0) s.objects → (i : ℕ) (o : Object) → slice_get s.objects i ≡ Some o → object_of s o.id ≡ Some o
object_at s rise i o at = object_found s.objects rise i o at

-- ---- the ids of drivers

-- an id's pencil is there, or its object is, at an index
abbrev IsThere : SceneRecord → AnimId → Type 0
IsThere s (anim.Pencil p) = p < length s.pencils
IsThere s (anim.Object id) = (i : ℕ) × (o : Object) × (slice_get s.objects i ≡ Some o) × (o.id ≡ id)

module _ (s : SceneRecord) where
  object_there : (id : ObjectId) → (r : Option Object) → object_of s id ≡ r → is_some r ≡ true → IsThere s (anim.Object id)
  object_there id None e is = absurd (false≢true is)
  object_there id (Some o) e is =
      let found = find-contains (λ (o : Object). same_object o.id id) s.objects o e in
      (found.0.0, o, slice_get-get_or s.objects found.0.0 o found.0.1 ∙ ap Some found.0.2, same_object-equal o.id id found.1)

  bone_there : (id : ObjectId) (name : List ℕ) → (r : Option Object) → object_of s id ≡ r
      → option_map_or (λ bones. list_any (λ b. same_text b.name name) bones) (option_and_then (λ o. option_map (λ a. a.bones) (armature_of s o.kind)) r) false ≡ true
      → IsThere s (anim.Object id)
  bone_there id name None e is = absurd (false≢true is)
  bone_there id name (Some o) e is = object_there id (Some o) e refl

  layer_there : (p : ℕ) (name : List ℕ) → (r : Option PencilData) → slice_get s.pencils p ≡ r
      → option_map_or (λ pencil. list_any (λ (l : LayerRecord). same_text l.name name) pencil.layers) r false ≡ true → p < length s.pencils
  layer_there p name None e is = absurd (false≢true is)
  layer_there p name (Some pencil) e is = slice_get_within s.pencils p pencil e

  -- what has a path is there
  is_there : (id : AnimId) (path : Path) → has_path s id path ≡ true → IsThere s id
  is_there (anim.Object o) (Own channel) has = object_there o (object_of s o) refl has
  is_there (anim.Object o) (Bone name channel) has = bone_there o name (object_of s o) refl has
  is_there (anim.Object o) (Layer name axis) has = absurd (false≢true has)
  is_there (anim.Pencil p) (Own channel) has = absurd (false≢true has)
  is_there (anim.Pencil p) (Bone name channel) has = absurd (false≢true has)
  is_there (anim.Pencil p) (Layer name axis) has = layer_there p name (slice_get s.pencils p) refl has

  module _ (rise : AllPairs (λ o p. o.id.0 < p.id.0) s.objects) where
    -- the row of an object, by its index
    pub object_slot : (i : ℕ) (o : Object) → slice_get s.objects i ≡ Some o → slot_of s (anim.Object o.id) ≡ length s.pencils + i
    object_slot i o at = ap (λ n. length s.pencils + n) (lower_ids s.objects rise i o at)

    there_object_slot : (id : ObjectId) → (there : IsThere s (anim.Object id)) → slot_of s (anim.Object id) ≡ length s.pencils + there.0
    there_object_slot id there = subst (λ id. slot_of s (anim.Object id) ≡ length s.pencils + there.0) there.3 (object_slot there.0 there.1 there.2)

    slot_there_within : (id : AnimId) → IsThere s id → slot_of s id < length s.pencils + length s.objects
    slot_there_within (anim.Pencil p) there = omega arith
    slot_there_within (anim.Object id) there = omega (arith, there_object_slot id there, slice_get_within s.objects there.0 there.1 there.2)

    pencil_from_slot : (p : ℕ) → p < length s.pencils → (id : AnimId) → IsThere s id → slot_of s id ≡ p → id ≡ anim.Pencil p
    pencil_from_slot p within (anim.Pencil q) there e = ap anim.Pencil e
    pencil_from_slot p within (anim.Object id) there e = absurd (omega (arith, there_object_slot id there))

    object_from_slot : (i : ℕ) (o : Object) → slice_get s.objects i ≡ Some o → (id : AnimId) → IsThere s id → slot_of s id ≡ length s.pencils + i → id ≡ anim.Object o.id
    object_from_slot i o at (anim.Pencil q) there e = absurd (omega arith)
    object_from_slot i o at (anim.Object id) there e =
        let index : there.0 ≡ i = omega (arith, there_object_slot id there) in
        let same : there.1 ≡ o = same_Some there.1 o (sym there.2 ∙ ap (slice_get s.objects) index ∙ at) in
        ap anim.Object (sym there.3 ∙ ap (λ (o : Object). o.id) same)

    module _ (id : AnimId) (path : Path) (has : IsTrue (has_path s id path)) where
      -- the row of the id of a driver is one of those for the pencils and objects
      pub slot_within : slot_of s id < length s.pencils + length s.objects
      slot_within = slot_there_within id (is_there id path has)

      -- it is a pencil's exactly where the id is the pencil's
      pub is_pencil_slot : (p : ℕ) → p < length s.pencils → (slot_of s id == p) ≡ same_id id (anim.Pencil p)
      is_pencil_slot p within =
          same_from_decides (slot_of s id == p) (same_id id (anim.Pencil p))
          (Decides-like (slot_of s id == p) (pencil_from_slot p within id (is_there id path has)) (λ e. ap (slot_of s) e) (Decides-eqb (slot_of s id) p))
          (same_id-Decides id (anim.Pencil p))

      -- and an object's exactly where the id is the object's
      pub is_object_slot : (i : ℕ) (o : Object) → slice_get s.objects i ≡ Some o → (slot_of s id == length s.pencils + i) ≡ same_id id (anim.Object o.id)
      is_object_slot i o at =
          same_from_decides (slot_of s id == length s.pencils + i) (same_id id (anim.Object o.id))
          (Decides-like (slot_of s id == length s.pencils + i) (object_from_slot i o at id (is_there id path has)) (λ e. ap (slot_of s) e ∙ object_slot i o at) (Decides-eqb (slot_of s id) (length s.pencils + i)))
          (same_id-Decides id (anim.Object o.id))

-- ---- how many rows there are

module _ (s : SceneRecord) (is : IsTrue (is_scene s)) where
  -- they are numbered by a `u32`
  pub few_rows : length s.pencils + length s.objects < 2 ^ 32
  few_rows =
      let pencils : length s.pencils ≤ MAX_PENCILS = (scene_facts s is).pencils.count in
      let objects : length s.objects ≤ MAX_OBJECTS = (scene_facts s is).objects.count in
      omega arith

  pub index_fits : (id : ObjectId) (objects : List Object) → objects ≡ s.objects → length s.pencils + prefix_len (λ o. nat_lt o.id.0 id.0) objects < 2 ^ 32
  index_fits id objects e =
      let within : prefix_len (λ (o : Object). nat_lt o.id.0 id.0) objects ≤ length objects = prefix_len-le-length (λ (o : Object). nat_lt o.id.0 id.0) objects in
      omega (arith, few_rows, ap length e)

  pub few_drivers : length s.drivers < 2 ^ 32
  few_drivers = let drivers : length s.drivers ≤ MAX_DRIVERS = (scene_facts s is).drivers.count in omega arith

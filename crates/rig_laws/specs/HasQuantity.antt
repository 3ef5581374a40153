-- The quantities of a scene are those whose parts it has.
use Rattle.std.specs.Prelude.{◌≡◌, ◌↔◌, ℕ, zero, suc, ◌+◌, ◌<◌, ◌&&◌, List, [], ◌∷◌, map, length, true, false, IsTrue, Some, is_some, slice_get, option_map, option_and_then, nat_lt, Contains, All, AllPairs}
use Rattle.std.specs.Option.{option_map_or}
use Rattle.std.specs.List.{find, flat_map, range_with_len, enumerate_from, slice_index_or}
use Rattle.std.proofs.Common.{refl, sym, ap, subst, cond, arith, ◌∙◌, true≢false}
use Rattle.std.proofs.lemmas.Bool.{and_parts, and_from, ltb-true, lt-ltb, leb-true, le-leb, ne_eqb, eq-eqb}
use Rattle.std.proofs.lemmas.List.Elements.{All-nil, All-cons, All-append, All-map, All-filter, All-contains, Contains-append_left, Contains-append_right}
use Rattle.rig_cycles.specs.Elements.{element_first, element_later, element_map, element_kept}
use Rattle.rig_scene.specs.declared.armature.ArmatureData.{ArmatureData}
use Rattle.rig_scene.specs.declared.id.AnimId.{AnimId}
use Rattle.rig_scene.specs.declared.id.AnimId.TheVariants as anim
use Rattle.rig_scene.specs.declared.channel.Channels.{Channels}
use Rattle.rig_scene.specs.declared.id.ObjectId.{ObjectId}
use Rattle.rig_scene.specs.declared.path.Path.{Path}
use Rattle.rig_scene.specs.declared.path.Path.TheVariants as path
use Rattle.rig_scene.specs.declared.driver.Driver.{Driver}
use Rattle.rig_scene.specs.declared.object.Kind.{Kind}
use Rattle.rig_scene.specs.declared.object.Kind.TheVariants as kind
use Rattle.rig_scene.specs.declared.object.Object.{Object}
use Rattle.rig_scene.specs.declared.pencil.PencilData.{PencilData}
use Rattle.rig_scene.specs.declared.quantity.Quantity.{Quantity}
use Rattle.rig_scene.specs.declared.quantity.Quantity.TheVariants.{Chan, Local, World, Bone, Layer, Geom}
use Rattle.rig_scene.specs.Scene.{SceneRecord, object_of, armature_of}
use Rattle.rig_scene.specs.Id.{same_object}
use Rattle.rig_scene.specs.Path.{same_path}
use Rattle.rig_scene.specs.Pairs.{AllPairs-head, AllPairs-tail, All-flat_map}
use Rattle.rig_scene.specs.WellFormed.{is_scene, has_path, has_bone, bones_of}
use Rattle.rig_scene.specs.Id.{same_id}
use Rattle.rig_scene.specs.Facts.{ObjectFacts, DriverFacts}
use Rattle.rig_scene.specs.FactsHold.{scene_facts, bone_is_there}
use Rattle.rig_scene.specs.Drivers.{drivers_of, driver_of, is_driven}
use Rattle.rig_scene.specs.Quantities.{chans_of, pencil_quantities, kind_quantities, object_quantities, quantities}
use Rattle.rig_laws.specs.Lists.{All-elements, All-numbered, All-below, Contains-flat_map, Contains-numbered, Contains-below, find-is_some, find-Some, is_some-Some, some_where, option_and_then-Some}
use Rattle.rig_scene.specs.Same.{same_id-Decides, same_path-Decides}
use Rattle.rig_laws.specs.FoundObject.{found_id, found_object}
use Rattle.rig_laws.specs.Members.{has_layer, has_modifiers, has_geometry, has_quantity}

-- ---- objects, by their ids

found_first : (xs : List Object) (o : Object) → AllPairs (λ o p. o.id.0 < p.id.0) xs → (k : ℕ) → k < length xs → slice_index_or xs k o ≡ o → find (λ x. same_object x.id o.id) xs ≡ Some o
found_first [] o rise k l e = absurd (omega arith)
found_first (x ∷ xs) o rise zero l e = ap (λ b. cond b (Some x) (find (λ y. same_object y.id o.id) xs)) (ap (λ y. same_object y.id o.id) e ∙ eq-eqb o.id.0 o.id.0 refl) ∙ ap Some e
found_first (x ∷ xs) o rise (suc k) l e =
    let later : x.id.0 < o.id.0 = All-contains (λ p. x.id.0 < p.id.0) xs o (AllPairs-head (λ o p. o.id.0 < p.id.0) x xs rise) (k, omega arith, e) in
    ap (λ b. cond b (Some x) (find (λ y. same_object y.id o.id) xs)) (ne_eqb x.id.0 o.id.0 (λ s. absurd (omega arith)))
    ∙ found_first xs o (AllPairs-tail (λ o p. o.id.0 < p.id.0) x xs rise) k (omega arith) e

module _ (s : SceneRecord) (met : IsTrue (is_scene s)) where
  -- an object of a scene is found by its id
  pub object_found : (o : Object) → Contains s.objects o → object_of s o.id ≡ Some o
  object_found o e = found_first s.objects o (scene_facts s met).objects.ids_rise e.0 e.1 e.2

  pub bones_found : (id : ObjectId) (o : Object) (n : ℕ) (pose : List Channels) (a : ArmatureData) → object_of s id ≡ Some o → o.kind ≡ kind.Armature n pose → slice_get s.armatures n ≡ Some a → bones_of s id ≡ Some a.bones
  bones_found id o n pose a e f g =
      ap (option_and_then (λ o. option_map (λ a. a.bones) (armature_of s o.kind))) e
      ∙ ap (λ k. option_map (λ a. a.bones) (armature_of s k)) f ∙ ap (option_map (λ a. a.bones)) g

  -- ---- each quantity of a scene is there

  chans_there : (id : AnimId) → All (λ q. IsTrue (has_quantity s q)) (chans_of s id)
  chans_there id =
      All-map (λ q. IsTrue (has_quantity s q)) (λ d. Chan d.id d.path) (drivers_of s id)
      (All-filter (λ d. same_id d.id id) (λ d. IsTrue (is_driven s d.id d.path)) s.drivers
      (All-elements (λ d. IsTrue (is_driven s d.id d.path)) s.drivers
      (λ d e. find-is_some (λ x. same_id x.id d.id && same_path x.path d.path) s.drivers d e
      (and_from (same_id d.id d.id) (same_path d.path d.path) ((same_id-Decides d.id d.id).1 refl) ((same_path-Decides d.path d.path).1 refl)))))

  pencil_there : (p : ℕ) (pencil : PencilData) → slice_get s.pencils p ≡ Some pencil → All (λ q. IsTrue (has_quantity s q)) (pencil_quantities s p pencil)
  pencil_there p pencil e =
      All-append (λ q. IsTrue (has_quantity s q)) (chans_of s (anim.Pencil p)) (map (Layer p) (range_with_len 0 (length pencil.layers)))
      (chans_there (anim.Pencil p))
      (All-map (λ q. IsTrue (has_quantity s q)) (Layer p) (range_with_len 0 (length pencil.layers))
      (All-below (λ l. IsTrue (has_layer s p l)) (length pencil.layers)
      (λ l h. ap (λ f. option_map_or (λ pencil. nat_lt l (length pencil.layers)) f false) e ∙ lt-ltb l (length pencil.layers) h)))

  pub kind_there : (o : Object) → Contains s.objects o → (k : Kind) → o.kind ≡ k → All (λ q. IsTrue (has_quantity s q)) (kind_quantities o.id k)
  kind_there o e kind.Empty f = All-nil (λ q. IsTrue (has_quantity s q))
  kind_there o e (kind.Armature n pose) f =
      let facts = (All-contains (ObjectFacts s) s.objects o (scene_facts s met).objects.each e).armature n pose f in
      All-map (λ q. IsTrue (has_quantity s q)) (Bone o.id) (range_with_len 0 (length pose))
      (All-below (λ b. IsTrue (has_bone s o.id b)) (length pose)
      (λ b h. ap (λ f. option_map_or (λ bones. nat_lt b (length bones)) f false) (bones_found o.id o n pose facts.armature (object_found o e) f facts.is_armature)
      ∙ lt-ltb b (length facts.armature.bones) (omega (arith, facts.poses))))
  kind_there o e (kind.Pencil p modifiers) f =
      All-map (λ q. IsTrue (has_quantity s q)) (Geom o.id) (range_with_len 0 (length modifiers + 1))
      (All-below (λ i. IsTrue (has_geometry s o.id i)) (length modifiers + 1)
      (λ i h. ap (λ f. option_map_or (λ object. has_modifiers i object.kind) f false) (object_found o e) ∙ ap (has_modifiers i) f ∙ le-leb i (length modifiers) (omega arith)))

  object_there : (o : Object) → Contains s.objects o → All (λ q. IsTrue (has_quantity s q)) (object_quantities s o)
  object_there o e =
      All-append (λ q. IsTrue (has_quantity s q)) (chans_of s (anim.Object o.id)) (Local o.id ∷ World o.id ∷ kind_quantities o.id o.kind) (chans_there (anim.Object o.id))
      (All-cons (λ q. IsTrue (has_quantity s q)) (Local o.id) (World o.id ∷ kind_quantities o.id o.kind) (ap is_some (object_found o e))
      (All-cons (λ q. IsTrue (has_quantity s q)) (World o.id) (kind_quantities o.id o.kind) (ap is_some (object_found o e)) (kind_there o e o.kind refl)))

  pub quantities_are_there : All (λ q. IsTrue (has_quantity s q)) (quantities s)
  quantities_are_there =
      All-append (λ q. IsTrue (has_quantity s q)) (flat_map (λ e. pencil_quantities s e.0 e.1) (enumerate_from 0 s.pencils)) (flat_map (object_quantities s) s.objects)
      (All-flat_map (λ q. IsTrue (has_quantity s q)) (λ e. pencil_quantities s e.0 e.1) (enumerate_from 0 s.pencils)
      (All-numbered (λ e. All (λ q. IsTrue (has_quantity s q)) (pencil_quantities s e.0 e.1)) s.pencils pencil_there))
      (All-flat_map (λ q. IsTrue (has_quantity s q)) (object_quantities s) s.objects
      (All-elements (λ o. All (λ q. IsTrue (has_quantity s q)) (object_quantities s o)) s.objects object_there))

  -- ---- what is there is a quantity of the scene

  in_object : (o : Object) → Contains s.objects o → (q : Quantity) → Contains (object_quantities s o) q → Contains (quantities s) q
  in_object o e q h =
      Contains-append_right (flat_map (λ e. pencil_quantities s e.0 e.1) (enumerate_from 0 s.pencils)) (flat_map (object_quantities s) s.objects) q
      (Contains-flat_map (object_quantities s) s.objects o q e h)

  in_pencil : (p : ℕ) (pencil : PencilData) → slice_get s.pencils p ≡ Some pencil → (q : Quantity) → Contains (pencil_quantities s p pencil) q → Contains (quantities s) q
  in_pencil p pencil e q h =
      Contains-append_left (flat_map (λ e. pencil_quantities s e.0 e.1) (enumerate_from 0 s.pencils)) (flat_map (object_quantities s) s.objects) q
      (Contains-flat_map (λ e. pencil_quantities s e.0 e.1) (enumerate_from 0 s.pencils) (p, pencil) q (Contains-numbered s.pencils p pencil e) h)

  in_kind : (o : Object) → Contains s.objects o → (k : Kind) → o.kind ≡ k → (q : Quantity) → Contains (kind_quantities o.id k) q → Contains (quantities s) q
  in_kind o e k f q h =
      in_object o e q
      (Contains-append_right (chans_of s (anim.Object o.id)) (Local o.id ∷ World o.id ∷ kind_quantities o.id o.kind) q
      (element_later (Local o.id) (World o.id ∷ kind_quantities o.id o.kind) q
      (element_later (World o.id) (kind_quantities o.id o.kind) q (subst (λ k. Contains (kind_quantities o.id k) q) (sym f) h))))

  in_chans : (d : Driver) → Contains s.drivers d → (id : AnimId) → d.id ≡ id → Contains (chans_of s id) (Chan d.id d.path)
  in_chans d e id f = element_map (λ d. Chan d.id d.path) (drivers_of s id) d (element_kept (λ d. same_id d.id id) s.drivers d e ((same_id-Decides d.id id).1 f))

  of_owner : (d : Driver) → Contains s.drivers d → (o : ObjectId) → d.id ≡ anim.Object o → (object : Object) → object_of s o ≡ Some object → Contains (quantities s) (Chan d.id d.path)
  of_owner d e o f object g =
      in_object object (found_object s o object g) (Chan d.id d.path)
      (Contains-append_left (chans_of s (anim.Object object.id)) (Local object.id ∷ World object.id ∷ kind_quantities object.id object.kind) (Chan d.id d.path)
      (in_chans d e (anim.Object object.id) (f ∙ ap anim.Object (sym (found_id s o object g)))))

  of_driver : (d : Driver) → Contains s.drivers d → (id : AnimId) → d.id ≡ id → (p : Path) → IsTrue (has_path s id p) → Contains (quantities s) (Chan d.id d.path)
  of_driver d e (anim.Object o) f (path.Own channel) h = let found = is_some-Some (object_of s o) h in of_owner d e o f found.0 found.1
  of_driver d e (anim.Object o) f (path.Bone name channel) h =
      let bones = some_where _ (bones_of s o) h in
      let found = option_and_then-Some (λ o. option_map (λ a. a.bones) (armature_of s o.kind)) (object_of s o) bones.0 bones.1 in
      of_owner d e o f found.0 found.1
  of_driver d e (anim.Object o) f (path.Layer name axis) h = absurd (true≢false (sym h))
  of_driver d e (anim.Pencil p) f (path.Own channel) h = absurd (true≢false (sym h))
  of_driver d e (anim.Pencil p) f (path.Bone name channel) h = absurd (true≢false (sym h))
  of_driver d e (anim.Pencil p) f (path.Layer name axis) h =
      let found = some_where _ (slice_get s.pencils p) h in
      in_pencil p found.0 found.1 (Chan d.id d.path)
      (Contains-append_left (chans_of s (anim.Pencil p)) (map (Layer p) (range_with_len 0 (length found.0.layers))) (Chan d.id d.path) (in_chans d e (anim.Pencil p) f))

  of_geometry : (o : Object) → Contains s.objects o → (i : ℕ) (k : Kind) → o.kind ≡ k → has_modifiers i k ≡ true → Contains (quantities s) (Geom o.id i)
  of_geometry o e i kind.Empty f h = absurd (true≢false (sym h))
  of_geometry o e i (kind.Armature n pose) f h = absurd (true≢false (sym h))
  of_geometry o e i (kind.Pencil p modifiers) f h =
      let l = leb-true i (length modifiers) h in
      in_kind o e (kind.Pencil p modifiers) f (Geom o.id i)
      (element_map (Geom o.id) (range_with_len 0 (length modifiers + 1)) i (Contains-below (length modifiers + 1) i (omega arith)))

  -- the driver of a driven channel, which has its id and path
  pub driver_found : (id : AnimId) (p : Path) → IsTrue (is_driven s id p) → (d : Driver) × Contains s.drivers d × (d.id ≡ id) × (d.path ≡ p) × (driver_of s id p ≡ Some d)
  driver_found id p h =
      let found = is_some-Some (driver_of s id p) h in
      let is = find-Some (λ d. same_id d.id id && same_path d.path p) s.drivers found.0 found.1 in
      let parts = and_parts (same_id found.0.id id) (same_path found.0.path p) is.1 in
      (found.0, is.0, (same_id-Decides found.0.id id).0 parts.0, (same_path-Decides found.0.path p).0 parts.1, found.1)

  pub quantity_is_there : (q : Quantity) → IsTrue (has_quantity s q) → Contains (quantities s) q
  quantity_is_there (Chan id p) h =
      let d = driver_found id p h in
      let facts = All-contains (DriverFacts s) s.drivers d.0 (scene_facts s met).drivers.each d.1 in
      subst (λ q. Contains (quantities s) q) (λ i. Chan (d.2 i) (d.3 i)) (of_driver d.0 d.1 d.0.id refl d.0.path facts.path_is_there)
  quantity_is_there (Local o) h =
      let found = is_some-Some (object_of s o) h in
      let object = found.0 in
      subst (λ id. Contains (quantities s) (Local id)) (found_id s o object found.1)
      (in_object object (found_object s o object found.1) (Local object.id)
      (Contains-append_right (chans_of s (anim.Object object.id)) (Local object.id ∷ World object.id ∷ kind_quantities object.id object.kind) (Local object.id)
      (element_first (Local object.id) (World object.id ∷ kind_quantities object.id object.kind))))
  quantity_is_there (World o) h =
      let found = is_some-Some (object_of s o) h in
      let object = found.0 in
      subst (λ id. Contains (quantities s) (World id)) (found_id s o object found.1)
      (in_object object (found_object s o object found.1) (World object.id)
      (Contains-append_right (chans_of s (anim.Object object.id)) (Local object.id ∷ World object.id ∷ kind_quantities object.id object.kind) (World object.id)
      (element_later (Local object.id) (World object.id ∷ kind_quantities object.id object.kind) (World object.id)
      (element_first (World object.id) (kind_quantities object.id object.kind)))))
  quantity_is_there (Bone o b) h =
      let has = bone_is_there s o b h in
      let object = has.object in
      let within = found_object s o object has.is_object in
      let facts = (All-contains (ObjectFacts s) s.objects object (scene_facts s met).objects.each within).armature has.index has.pose has.is_kind in
      let one : facts.armature ≡ has.armature = cc (facts.is_armature, has.is_armature) in
      let same : length facts.armature.bones ≡ length has.armature.bones = ap (λ a. length a.bones) one in
      let below : b < length has.pose = omega (arith, facts.poses, has.bone_is_there) in
      subst (λ id. Contains (quantities s) (Bone id b)) (found_id s o object has.is_object)
      (in_kind object within (kind.Armature has.index has.pose) has.is_kind (Bone object.id b)
      (element_map (Bone object.id) (range_with_len 0 (length has.pose)) b (Contains-below (length has.pose) b below)))
  quantity_is_there (Layer p l) h =
      let found = some_where (λ pencil. nat_lt l (length pencil.layers)) (slice_get s.pencils p) h in
      in_pencil p found.0 found.1 (Layer p l)
      (Contains-append_right (chans_of s (anim.Pencil p)) (map (Layer p) (range_with_len 0 (length found.0.layers))) (Layer p l)
      (element_map (Layer p) (range_with_len 0 (length found.0.layers)) l (Contains-below (length found.0.layers) l (ltb-true l (length found.0.layers) found.2))))
  quantity_is_there (Geom o i) h =
      let found = some_where (λ object. has_modifiers i object.kind) (object_of s o) h in
      subst (λ id. Contains (quantities s) (Geom id i)) (found_id s o found.0 found.1)
      (of_geometry found.0 (found_object s o found.0 found.1) i found.0.kind refl found.2)

  pub quantity_exactly : (q : Quantity) → Contains (quantities s) q ↔ IsTrue (has_quantity s q)
  quantity_exactly q = (All-contains (λ q. IsTrue (has_quantity s q)) (quantities s) q quantities_are_there, quantity_is_there q)

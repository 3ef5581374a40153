-- What a plain scene promises of its records, one named fact for each condition, and that none of its reads is cut.
use Rattle.std.proofs.Common.{int_eq, ◌≡◌, ℕ, ◌<◌, true, false, not, cond, ltb, List, [], ◌∷◌, ◌++◌, map, length, get_or, Option, Some, None, pos, refl, sym, ap, ◌∙◌, subst, arith}
use Rattle.std.specs.Prelude.{◌==◌, slice_get, is_some}
use Rattle.std.specs.List.{All, list_all, filter, flat_map, position, position_or_len, enumerate_from}
use Rattle.std.specs.Option.{option_map_or}
use Rattle.std.proofs.lemmas.Bool.{eqb-true, eq-eqb, ne_eqb, lt-ltb, true≢false, and_parts}
use Rattle.std.proofs.lemmas.Bool.Decides.{Decides-int_eq}
use Rattle.std.proofs.lemmas.List.Elements.{All-cons, All-nil, All-head, All-tail, All-map, All-contains, All-weaker, filter-append}
use Rattle.std.proofs.lemmas.List.Folds.{find_at}
use Rattle.std.proofs.lemmas.List.Sums.{position_or_len_is}
use Rattle.std.proofs.lemmas.Option.{slice_get_within, get_or_from_slice_get}
use Rattle.rig_fixed.specs.Fixed.{unit}
use Rattle.rig_fixed.specs.declared.rotation.Raw.{Raw}
use Rattle.rig_cycles.specs.Cut.{Arrow, cuts_from}
use Rattle.rig_scene.specs.declared.action.Action.{Action}
use Rattle.rig_scene.specs.declared.action.Curve.{Curve}
use Rattle.rig_scene.specs.declared.id.AnimId.TheVariants as anim
use Rattle.rig_scene.specs.declared.id.ObjectId.{ObjectId}
use Rattle.rig_scene.specs.declared.object.Kind.{Kind}
use Rattle.rig_scene.specs.declared.object.Kind.TheVariants.{Empty, Armature, Pencil}
use Rattle.rig_scene.specs.declared.object.Object.{Object}
use Rattle.rig_scene.specs.declared.path.Path.TheVariants as path
use Rattle.rig_scene.specs.declared.quantity.Quantity.{Quantity}
use Rattle.rig_scene.specs.declared.quantity.Quantity.TheVariants.{Chan, Local, World}
use Rattle.rig_scene.specs.declared.quantity.Read.{Read}
use Rattle.rig_scene.specs.Channel.{channels}
use Rattle.rig_scene.specs.Cut.{inner_arrows, cuts}
use Rattle.rig_scene.specs.Drivers.{driven_paths}
use Rattle.rig_scene.specs.FactsHold.{scene_facts}
use Rattle.rig_scene.specs.Found.{find-contains}
use Rattle.rig_scene.specs.Id.{same_object, same_id}
use Rattle.rig_scene.specs.Pairs.{all_pass}
use Rattle.rig_scene.specs.Parts.{three_parts, four_parts, five_parts}
use Rattle.rig_scene.specs.Quantities.{same_quantity, pencil_quantities, kind_quantities, object_quantities, quantities, inner_read, parent_reads, reads}
use Rattle.rig_scene.specs.Scene.{SceneRecord, object_of}
use Rattle.rig_scene.specs.WellFormed.{is_scene}
use Rattle.rig_play.specs.Plain.{has_no_axis, is_own_location, is_constant, is_plain_curve, is_empty_kind, is_unturned, is_plain_object, is_plain_scene}

-- ---- what each record promises

-- an object of a plain scene: nothing carries, turns or scales it
pub record PlainObject (o : Object) : Type 0 where
  pub kind : o.kind ≡ Empty
  pub parent : o.parent ≡ None
  pub rot : o.own.rot ≡ record { w = unit; x = pos 0; y = pos 0; z = pos 0 }
  pub scale : o.own.scale ≡ unit

-- a plain scene: it has objects and actions alone, and the curves of its actions are those of locations
pub record PlainFacts (s : SceneRecord) : Type 0 where
  pub armatures : s.armatures ≡ []
  pub pencils : s.pencils ≡ []
  pub drivers : s.drivers ≡ []
  pub objects : All PlainObject s.objects
  pub actions : All (λ a. All (λ c. is_own_location c.path ≡ true) a.curves) s.actions

-- a list of no length has no elements
no_elements : {X : Type 0} (xs : List X) → (length xs == 0) ≡ true → xs ≡ []
no_elements [] e = refl
no_elements (x ∷ xs) e = absurd (omega (arith, eqb-true (length (x ∷ xs)) 0 e))

-- the tests of one record, one by one: an empty kind, no value, and no rotation
empty_kind : (k : Kind) → is_empty_kind k ≡ true → k ≡ Empty
empty_kind Empty e = refl
empty_kind (Armature armature pose) e = absurd (true≢false (sym e))
empty_kind (Pencil pencil modifiers) e = absurd (true≢false (sym e))

no_value : {X : Type 0} (o : Option X) → not (is_some o) ≡ true → o ≡ None
no_value None e = refl
no_value (Some x) e = absurd (true≢false (sym e))

unturned : (rot : Raw) → is_unturned rot ≡ true → rot ≡ record { w = unit; x = pos 0; y = pos 0; z = pos 0 }
unturned rot is =
    let parts = and_parts (int_eq rot.w unit) (has_no_axis rot) is in
    let axis = three_parts _ _ _ parts.1 in
    let w : rot.w ≡ unit = (Decides-int_eq rot.w unit).0 parts.0 in
    let x : rot.x ≡ pos 0 = (Decides-int_eq rot.x (pos 0)).0 axis.0 in
    let y : rot.y ≡ pos 0 = (Decides-int_eq rot.y (pos 0)).0 axis.1 in
    let z : rot.z ≡ pos 0 = (Decides-int_eq rot.z (pos 0)).0 axis.2 in
    λ i. record { w = w i; x = x i; y = y i; z = z i }

-- a plain object keeps its promises
pub plain_object : (o : Object) → is_plain_object o ≡ true → PlainObject o
plain_object o is =
    let parts = four_parts _ _ _ _ is in
    record {
      kind = empty_kind o.kind parts.0;
      parent = no_value o.parent parts.1;
      rot = unturned o.own.rot parts.2;
      scale = (Decides-int_eq o.own.scale unit).0 parts.3;
    }

-- a plain curve is that of a location
own_location : (c : Curve) → is_plain_curve c ≡ true → is_own_location c.path ≡ true
own_location c is = (and_parts (is_own_location c.path) (list_all (λ k. is_constant k.interp) c.keys) is).0

-- and so is each curve of an action of such
own_locations : (a : Action) → list_all is_plain_curve a.curves ≡ true → All (λ c. is_own_location c.path ≡ true) a.curves
own_locations a is = All-weaker (λ c. is_plain_curve c ≡ true) (λ c. is_own_location c.path ≡ true) own_location a.curves (all_pass is_plain_curve a.curves is)

-- a plain scene keeps each of these promises
pub plain_facts : (s : SceneRecord) → is_plain_scene s ≡ true → PlainFacts s
plain_facts s is =
    let parts = five_parts _ _ _ _ _ is in
    record {
      armatures = no_elements s.armatures parts.0;
      pencils = no_elements s.pencils parts.1;
      drivers = no_elements s.drivers parts.2;
      objects = All-weaker (λ o. is_plain_object o ≡ true) PlainObject plain_object s.objects (all_pass is_plain_object s.objects parts.3);
      actions = All-weaker (λ a. list_all is_plain_curve a.curves ≡ true) (λ a. All (λ c. is_own_location c.path ≡ true) a.curves) own_locations s.actions
          (all_pass (λ a. list_all is_plain_curve a.curves) s.actions parts.4);
    }

-- ---- objects by their ids

module _ (s : SceneRecord) (met : is_scene s ≡ true) where
  -- the first object of an id is the one that has it
  index_of_id : (k : ℕ) (o : Object) → slice_get s.objects k ≡ Some o → position_or_len (λ p. same_object p.id o.id) s.objects ≡ k
  index_of_id k o e =
      let within : k < length s.objects = slice_get_within s.objects k o e in
      let here : get_or s.objects k o ≡ o = get_or_from_slice_get s.objects k o o e in
      position_or_len_is (λ p. same_object p.id o.id) s.objects k o (omega arith)
      (λ j l. ne_eqb (get_or s.objects j o).id.0 o.id.0
      (λ same. apart j (subst (λ p. (get_or s.objects j o).id.0 < p.id.0) here ((scene_facts s met).objects.ids_rise j k o l within)) same))
      (λ l. ap (λ p. same_object p.id o.id) here ∙ eq-eqb o.id.0 o.id.0 refl)
    where
      apart : (j : ℕ) → (get_or s.objects j o).id.0 < o.id.0 → (get_or s.objects j o).id.0 ≡ o.id.0 → ⊥
      apart j l same = omega arith

  -- the position of an object's id is its index
  pub position_of_id : (k : ℕ) (o : Object) → slice_get s.objects k ≡ Some o → position (λ p. same_object p.id o.id) s.objects ≡ Some k
  position_of_id k o e =
      ap (λ n. cond (ltb n (length s.objects)) (Some n) None) (index_of_id k o e)
      ∙ ap (λ b. cond b (Some k) None) (lt-ltb k (length s.objects) (slice_get_within s.objects k o e))

  -- the object at an index is found by its id
  pub object_of_id : (k : ℕ) (o : Object) → slice_get s.objects k ≡ Some o → object_of s o.id ≡ Some o
  object_of_id k o e =
      find_at (λ p. same_object p.id o.id) s.objects ∙ ap (slice_get s.objects) (index_of_id k o e) ∙ e

-- ---- quantities and reads

-- functions that agree at each element give the same lists, joined
pub flat_map_same : {X A : Type 0} (f g : X → List A) (xs : List X) → All (λ x. f x ≡ g x) xs → flat_map f xs ≡ flat_map g xs
flat_map_same f g [] h = refl
flat_map_same f g (x ∷ xs) h =
    let first = All-head (λ x. f x ≡ g x) x xs h in
    let rest = flat_map_same f g xs (All-tail (λ x. f x ≡ g x) x xs h) in
    λ i. first i ++ rest i

-- the quantities of a plain object
abbrev pub transforms_of : Object → List Quantity
transforms_of o = Local o.id ∷ World o.id ∷ []

module _ (s : SceneRecord) (facts : PlainFacts s) where
  -- those of one object
  of_plain_object : (o : Object) → PlainObject o → object_quantities s o ≡ transforms_of o
  of_plain_object o plain =
      ap (λ ds. map (λ d. Chan d.id d.path) (filter (λ d. same_id d.id (anim.Object o.id)) ds) ++ Local o.id ∷ World o.id ∷ kind_quantities o.id o.kind) facts.drivers
      ∙ ap (λ k. Local o.id ∷ World o.id ∷ kind_quantities o.id k) plain.kind

  -- the quantities of a plain scene are the transforms of its objects
  pub plain_quantities : quantities s ≡ flat_map transforms_of s.objects
  plain_quantities =
      ap (λ ps. flat_map (λ e. pencil_quantities s e.0 e.1) (enumerate_from 0 ps) ++ flat_map (object_quantities s) s.objects) facts.pencils
      ∙ flat_map_same (object_quantities s) transforms_of s.objects
      (All-weaker PlainObject (λ o. object_quantities s o ≡ transforms_of o) of_plain_object s.objects facts.objects)

  -- what is found by an id is a plain object
  pub found_plain : (id : ObjectId) (o : Object) → object_of s id ≡ Some o → PlainObject o
  found_plain id o e = All-contains PlainObject s.objects o facts.objects (find-contains (λ p. same_object p.id id) s.objects o e).0

-- the arrows of some reads of a quantity
abbrev arrows_of : Quantity → List Read → List (Arrow Quantity)
arrows_of q rs = map (λ r. record { reader = q; source = r.source; is_reference = r.reference }) rs

-- inner reads have no reference reads among them
none_of_inner : (q : Quantity) (rs : List Read) → All (λ r. r.reference ≡ false) rs → filter (λ a. a.is_reference) (arrows_of q rs) ≡ []
none_of_inner q [] h = refl
none_of_inner q (r ∷ rs) h =
    let here : r.reference ≡ false = All-head (λ r. r.reference ≡ false) r rs h in
    rw here (none_of_inner q rs (All-tail (λ r. r.reference ≡ false) r rs h))

module _ (s : SceneRecord) (facts : PlainFacts s) where
  -- an object's own transform reads driven channels alone
  local_inner : (id : ObjectId) → All (λ r. r.reference ≡ false) (reads s (Local id))
  local_inner id =
      All-map (λ r. r.reference ≡ false) (λ p. inner_read (Chan (anim.Object id) p)) (driven_paths s (anim.Object id) (map path.Own channels)) (λ k d l. refl)

  -- what is found by an id reads no parent
  parents_inner : (id : ObjectId) (found : Option Object) → object_of s id ≡ found → All (λ r. r.reference ≡ false) (option_map_or (λ object. parent_reads object.parent) found [])
  parents_inner id None e = All-nil (λ r. r.reference ≡ false)
  parents_inner id (Some o) e =
      subst (λ p. All (λ r. r.reference ≡ false) (parent_reads p)) (sym (found_plain s facts id o e).parent) (All-nil (λ r. r.reference ≡ false))

  -- its world transform reads the own one, and no parent
  world_inner : (id : ObjectId) → All (λ r. r.reference ≡ false) (reads s (World id))
  world_inner id =
      All-cons (λ r. r.reference ≡ false) (inner_read (Local id)) (option_map_or (λ object. parent_reads object.parent) (object_of s id) []) refl
      (parents_inner id (object_of s id) refl)

  -- no read of the transforms of objects is a reference read
  no_references : (objects : List Object)
      → filter (λ a. a.is_reference) (flat_map (λ q. arrows_of q (reads s q)) (flat_map transforms_of objects)) ≡ []
  no_references [] = refl
  no_references (o ∷ objects) =
      let local = none_of_inner (Local o.id) (reads s (Local o.id)) (local_inner o.id) in
      let world = none_of_inner (World o.id) (reads s (World o.id)) (world_inner o.id) in
      let rest = no_references objects in
      filter-append (λ a. a.is_reference) (arrows_of (Local o.id) (reads s (Local o.id))) _
      ∙ ap (λ ys. filter (λ a. a.is_reference) (arrows_of (Local o.id) (reads s (Local o.id))) ++ ys) (filter-append (λ a. a.is_reference) (arrows_of (World o.id) (reads s (World o.id))) _)
      ∙ (λ i. local i ++ (world i ++ rest i))

-- no read of a plain scene is cut
pub plain_cuts : (s : SceneRecord) → is_plain_scene s ≡ true → cuts s ≡ []
unfolding cuts
plain_cuts s is =
    let facts = plain_facts s is in
    ap (λ qs. map (λ a. record { source = a.source; reader = a.reader })
    (cuts_from same_quantity (inner_arrows s) (filter (λ a. a.is_reference) (flat_map (λ q. arrows_of q (reads s q)) qs)))) (plain_quantities s facts)
    ∙ ap (λ arrows. map (λ a. record { source = a.source; reader = a.reader }) (cuts_from same_quantity (inner_arrows s) arrows)) (no_references s facts s.objects)

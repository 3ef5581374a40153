-- Where neither pass lists a fault, the objects of the scene keep their conditions.
use Rattle.std.proofs.Common.{◌≡◌, ℕ, suc, ◌+◌, ◌-◌, ◌<◌, ◌≤◌, Bool, true, false, not, cond, if◌then◌else◌, ◌&&◌, ◌||◌, List, [], ◌∷◌, ◌++◌, map, length, Option, Some, None, ℤ, pos, negsuc, refl, sym, ap, ◌∙◌, arith}
use Rattle.std.specs.Prelude.{IsTrue, is_some, option_map, codes, nat_lt, nat_le, int_le, sum_by, count_by, filter, ◌==◌}
use Rattle.std.specs.List.{list_all}
use Rattle.std.specs.Option.{option_map_or}
use Rattle.std.proofs.lemmas.Bool.{and_from, lt-ltb, le-leb, leb-true, eq-eqb, cond-true}
use Rattle.std.proofs.lemmas.Int.{ints}
use Rattle.std.proofs.lemmas.List.{length-map}
use Rattle.std.proofs.lemmas.List.Sums.{length-filter}
use Rattle.serde_json.specs.Data.{Data, Items, no_items, item}
use Rattle.rig_fixed.specs.Fixed.{unit}
use Rattle.rig_scene.specs.declared.armature.ArmatureData.{ArmatureData}
use Rattle.rig_scene.specs.declared.channel.Channels.{Channels}
use Rattle.rig_scene.specs.declared.limits.TheConstants.{MAX_OBJECTS, MAX_PENCIL_OBJECTS, MAX_POSE_BONES, MAX_MODIFIERS, MAX_ARRAY_COUNT}
use Rattle.rig_scene.specs.declared.modifier.Effect.TheVariants.{Offset, Mirror, Array}
use Rattle.rig_scene.specs.declared.modifier.Modifier.{Modifier}
use Rattle.rig_scene.specs.declared.object.Kind.TheVariants.{Empty, Armature, Pencil}
use Rattle.rig_scene.specs.declared.object.Object.{Object}
use Rattle.rig_scene.specs.Distinct.{are_new_after, are_distinct, are_rising}
use Rattle.rig_scene.specs.Parts.{four_from, six_from}
use Rattle.rig_scene.specs.Scene.{SceneRecord}
use Rattle.rig_scene.specs.Text.{same_text}
use Rattle.rig_scene.specs.WellFormed.{is_below, has_object, has_bone, is_parent, is_effect, is_kind as is_kind_of, is_object, is_pencil_kind, pose_count, are_objects}
use Rattle.rig_scenejson.specs.declared.before.Catalog.{Catalog}
use Rattle.rig_scenejson.specs.declared.before.ObjectsBefore.{ObjectsBefore}
use Rattle.rig_scenejson.specs.declared.fault.Cause.TheVariants.{Count}
use Rattle.rig_scenejson.specs.declared.member.Member.TheVariants as m
use Rattle.rig_scenejson.specs.Given.{has, text_at, items_at, natural_at, vector_at, truth_at, fixed_at, small, is_kind, values, values_from, index_of, bones_at, bones_named, object_named, action_given, parent_given, pose_of_bone, effect_given, modifier_given, kind_given, object_given}
use Rattle.rig_scenejson.specs.PassOne.{where_true, after_any, new_name_faults, list_faults, after_named, modifier_faults, object_kind_faults, stack_faults, object_faults, after_object, no_objects}
use Rattle.rig_scenejson.specs.PassTwo.{each_from, each_faults, known_faults, bone_of_faults, armature_object_faults, data_bones, data_references, modifier_references, object_references, after_bones}
use Rattle.rig_scenejson.specs.Tests.{field, unless, in_member, required, optional, items_faults}
use Rattle.rig_scenejson.specs.Value.{whole_of, text_of, item_count, word_faults, is_among, whole_faults, vector_faults}
use Rattle.rig_scenejson.proofs.Lists.{left_none, right_none, both_none, in_member_none, unless_none, of_required, of_optional, head_none, rest_none, optional_list_none, each_none, each_head_none, each_rest_none, length_values_from, map_values_from, values_from_values}
use Rattle.rig_scenejson.proofs.Items.{all_values_from, new_values, total, total_fits, sum-values_from}
use Rattle.rig_scenejson.proofs.Numbers.{whole_none, new_name_none}
use Rattle.rig_scenejson.proofs.References.{known_none, required_known, known_from, Names, Stands, action_below, actions_many, object_is_there, bone_is_there, armature_is_there, pencil_is_there}

-- ---- what a record without a fault says

-- the tests of an object's record in the first pass, the last ones first
name_tests : (b : ObjectsBefore) (d : Data) → object_faults b d ≡ [] → required m.Name (new_name_faults b.names) d ≡ []
name_tests b d e = right_none _ _ (left_none _ _ (left_none _ _ (left_none _ _ (left_none _ _ (left_none _ _ e)))))

kind_tests : (b : ObjectsBefore) (d : Data) → object_faults b d ≡ [] → required m.Kind (object_kind_faults b.pencils_left) d ≡ []
kind_tests b d e = right_none _ _ (left_none _ _ (left_none _ _ (left_none _ _ (left_none _ _ e))))

stack_tests : (b : ObjectsBefore) (d : Data) → object_faults b d ≡ [] → stack_faults d ≡ []
stack_tests b d e = right_none _ _ e

-- the tests of an object's record in the second pass
reference_tests : (c : Catalog) (i left : ℕ) (d : Data) → object_references c i left d ≡ [] → data_references c left d ≡ []
reference_tests c i left d e = left_none _ _ (left_none _ _ (left_none _ _ (left_none _ _ (left_none _ _ e))))

parent_tests : (c : Catalog) (i left : ℕ) (d : Data) → object_references c i left d ≡ [] → optional m.Parent (known_faults c.objects) d ≡ []
parent_tests c i left d e = right_none _ _ (left_none _ _ (left_none _ _ (left_none _ _ (left_none _ _ e))))

parent_bone_tests : (c : Catalog) (i left : ℕ) (d : Data) → object_references c i left d ≡ [] → where_true (has m.Parent d) (optional m.ParentBone (bone_of_faults c (text_at m.Parent d)) d) ≡ []
parent_bone_tests c i left d e = right_none _ _ (left_none _ _ (left_none _ _ (left_none _ _ e)))

action_tests : (c : Catalog) (i left : ℕ) (d : Data) → object_references c i left d ≡ [] → optional m.Action (known_faults c.actions) d ≡ []
action_tests c i left d e = right_none _ _ (left_none _ _ (left_none _ _ e))

modifiers_tests : (c : Catalog) (i left : ℕ) (d : Data) → object_references c i left d ≡ [] → where_true (is_kind (codes "pencil") d) (each_faults m.Modifiers (modifier_references c) after_any tt d) ≡ []
modifiers_tests c i left d e = right_none _ _ e

-- ---- their names

objects_new : (armatures : List (List ℕ)) (i : ℕ) (b : ObjectsBefore) (ds : Items) → items_faults object_faults (after_object armatures) i b ds ≡ [] → are_new_after same_text b.names (values (text_at m.Name) ds) ≡ true
objects_new armatures i b ds e =
    new_values same_text (text_at m.Name) (λ (b : ObjectsBefore). b.names) object_faults (after_object armatures) (λ b d none. new_name_none b.names m.Name d (name_tests b d none)) (λ b d. refl) i b ds e

-- ---- their ids

ids_rise : (c : Catalog) (i : ℕ) (ds : Items) → are_rising (λ (o p : Object). nat_lt o.id.0 p.id.0) (values_from (object_given c) i ds) ≡ true
ids_rise c i no_items = refl
ids_rise c i (item d no_items) = refl
ids_rise c i (item d (item next ds)) =
    and_from (nat_lt i (suc i)) (are_rising (λ (o p : Object). nat_lt o.id.0 p.id.0) (values_from (object_given c) (suc i) (item next ds))) (lt-ltb i (suc i) (omega arith)) (ids_rise c (suc i) (item next ds))

-- ---- how many pencil objects there are

total_within : (f g : Data → ℕ) → ((d : Data) → f d ≤ g d) → (ds : Items) → total f ds ≤ total g ds
total_within f g le no_items = omega arith
total_within f g le (item d ds) = let first = le d in let rest = total_within f g le ds in omega (arith, first, rest)

pencil_fits : (left : ℕ) (d : Data) → required m.Kind (object_kind_faults left) d ≡ [] → cond (is_kind (codes "pencil") d) 1 0 ≤ left
pencil_fits left d e = by (is_kind (codes "pencil") d) tested
  where
    tested : (not (is_kind (codes "pencil") d) || nat_le 1 left) ≡ true
    tested =
        of_required (λ o. (not (same_text (option_map_or text_of o []) (codes "pencil")) || nat_le 1 left) ≡ true) m.Kind (object_kind_faults left) d
        (λ v none. unless_none (not (same_text (text_of v) (codes "pencil")) || nat_le 1 left) Count
        (right_none (word_faults (is_among (codes "empty" ∷ codes "armature" ∷ codes "pencil" ∷ [])) v) (unless (not (same_text (text_of v) (codes "pencil")) || nat_le 1 left) Count) none)) e

    by : (b : Bool) → (not b || nat_le 1 left) ≡ true → cond b 1 0 ≤ left
    by true is = leb-true 1 left is
    by false is = omega arith

pencils_taken : (armatures : List (List ℕ)) (b : ObjectsBefore) (d : Data) → (after_object armatures b d).pencils_left ≡ b.pencils_left - cond (is_kind (codes "pencil") d) 1 0
pencils_taken armatures b d = by (is_kind (codes "pencil") d)
  where
    by : (p : Bool) → (if p then b.pencils_left - 1 else b.pencils_left) ≡ b.pencils_left - cond p 1 0
    by true = refl
    by false = omega arith

pencil_kind : (c : Catalog) (d : Data) → cond (is_pencil_kind (kind_given c d)) 1 0 ≤ cond (is_kind (codes "pencil") d) 1 0
pencil_kind c d = by (is_kind (codes "armature") d) (is_kind (codes "pencil") d)
  where
    by : (a p : Bool)
        → cond (is_pencil_kind (if a
        then Armature (index_of c.armatures (text_at m.Data d)) (map (pose_of_bone (items_at m.Pose d)) (bones_at c (index_of c.armatures (text_at m.Data d))))
        else (if p then Pencil (index_of c.pencils (text_at m.Data d)) (values_from (modifier_given c) 0 (items_at m.Modifiers d)) else Empty))) 1 0 ≤ cond p 1 0
    by true p = omega arith
    by false true = omega arith
    by false false = omega arith

pencil_objects : (c : Catalog) (armatures : List (List ℕ)) (ds : Items) → items_faults object_faults (after_object armatures) 0 no_objects ds ≡ []
    → length (filter (λ (o : Object). is_pencil_kind o.kind) (values_from (object_given c) 0 ds)) ≤ MAX_PENCIL_OBJECTS
pencil_objects c armatures ds e =
    let counted = length-filter (λ (o : Object). is_pencil_kind o.kind) (values_from (object_given c) 0 ds) in
    let summed : count_by (λ (o : Object). is_pencil_kind o.kind) (values_from (object_given c) 0 ds) ≡ total (λ d. cond (is_pencil_kind (kind_given c d)) 1 0) ds =
    sum-values_from (λ (o : Object). cond (is_pencil_kind o.kind) 1 0) (object_given c) (λ d. cond (is_pencil_kind (kind_given c d)) 1 0) (λ i d. refl) 0 ds in
    let within = total_within (λ d. cond (is_pencil_kind (kind_given c d)) 1 0) (λ d. cond (is_kind (codes "pencil") d) 1 0) (pencil_kind c) ds in
    let fits = total_fits (λ d. cond (is_kind (codes "pencil") d) 1 0) (λ (b : ObjectsBefore). b.pencils_left) (after_object armatures) (pencils_taken armatures)
    object_faults (λ b d none. pencil_fits b.pencils_left d (kind_tests b d none)) 0 no_objects ds e in
    omega (arith, counted, summed, within, fits)

-- ---- how many bones their poses have

-- the bones of an object's record, with what is left after it, are at most what was left before it
pose_fits : (c : Catalog) (left : ℕ) (d : Data) → data_references c left d ≡ [] → (pose_count (kind_given c d) + after_bones c left d ≤ left)
pose_fits c left d e = by (is_kind (codes "armature") d) (is_kind (codes "pencil") d) (left_none _ _ e)
  where
    by : (a p : Bool)
        → where_true a (required m.Data (known_faults c.armatures) d ++ in_member m.Data (unless (nat_le (length (data_bones c d)) left) Count)) ≡ []
        → pose_count (if a
        then Armature (index_of c.armatures (text_at m.Data d)) (map (pose_of_bone (items_at m.Pose d)) (bones_at c (index_of c.armatures (text_at m.Data d))))
        else (if p then Pencil (index_of c.pencils (text_at m.Data d)) (values_from (modifier_given c) 0 (items_at m.Modifiers d)) else Empty))
        + (if a then left - length (data_bones c d) else left) ≤ left
    by true p e =
        let parts = both_none (required m.Data (known_faults c.armatures) d) (in_member m.Data (unless (nat_le (length (data_bones c d)) left) Count)) e in
        let within : length (data_bones c d) ≤ left =
        leb-true (length (data_bones c d)) left (unless_none (nat_le (length (data_bones c d)) left) Count (in_member_none m.Data (unless (nat_le (length (data_bones c d)) left) Count) parts.1)) in
        let same : data_bones c d ≡ bones_at c (index_of c.armatures (text_at m.Data d)) = known_from (bones_at c) [] c.armatures (text_at m.Data d) (required_known c.armatures m.Data d parts.0) in
        let long = length-map (bones_at c (index_of c.armatures (text_at m.Data d))) (pose_of_bone (items_at m.Pose d)) in
        omega (arith, within, ap length same, long)
    by false true e = omega arith
    by false false e = omega arith

poses_fit : (c : Catalog) (i left : ℕ) (ds : Items) → each_from (object_references c) (after_bones c) i left ds ≡ [] → total (λ d. pose_count (kind_given c d)) ds ≤ left
poses_fit c i left no_items e = omega arith
poses_fit c i left (item d ds) e =
    let first = pose_fits c left d (reference_tests c i left d (each_head_none (object_references c) (after_bones c) i left d ds e)) in
    let rest = poses_fit c (suc i) (after_bones c left d) ds (each_rest_none (object_references c) (after_bones c) i left d ds e) in
    omega (arith, first, rest)

pose_bones : (c : Catalog) (ds : Items) → each_from (object_references c) (after_bones c) 0 MAX_POSE_BONES ds ≡ [] → sum_by (λ (o : Object). pose_count o.kind) (values_from (object_given c) 0 ds) ≤ MAX_POSE_BONES
pose_bones c ds e =
    let summed = sum-values_from (λ (o : Object). pose_count o.kind) (object_given c) (λ d. pose_count (kind_given c d)) (λ i d. refl) 0 ds in
    let fits = poses_fit c 0 MAX_POSE_BONES ds e in
    omega (arith, summed, fits)

-- ---- modifiers

-- a number of copies within its limits is the number that the scene has
small_within : (z : ℤ) → int_le (pos 1) z ≡ true → int_le z (pos MAX_ARRAY_COUNT) ≡ true → (nat_le 1 (small z) && nat_le (small z) MAX_ARRAY_COUNT) ≡ true
small_within (pos n) low high =
    let least : 1 ≤ n = grind (arith, ints) in
    let most : n ≤ MAX_ARRAY_COUNT = grind (arith, ints) in
    let same : small (pos n) ≡ n = cond-true (nat_lt n 4294967296) n 0 (lt-ltb n 4294967296 (omega arith)) in
    ap (λ k. nat_le 1 k && nat_le k MAX_ARRAY_COUNT) same ∙ and_from (nat_le 1 n) (nat_le n MAX_ARRAY_COUNT) (le-leb 1 n least) (le-leb n MAX_ARRAY_COUNT most)
small_within (negsuc n) low high = absurd (grind (arith, ints))

count_within : (d : Data) → required m.Count (whole_faults (pos 1) (pos MAX_ARRAY_COUNT)) d ≡ [] → (nat_le 1 (natural_at m.Count d) && nat_le (natural_at m.Count d) MAX_ARRAY_COUNT) ≡ true
count_within d e =
    of_required (λ o. (nat_le 1 (option_map_or (λ n. small (whole_of n)) o 0) && nat_le (option_map_or (λ n. small (whole_of n)) o 0) MAX_ARRAY_COUNT) ≡ true)
    m.Count (whole_faults (pos 1) (pos MAX_ARRAY_COUNT)) d
    (λ v none. let parts = whole_none (pos 1) (pos MAX_ARRAY_COUNT) v none in small_within (whole_of v) parts.0 parts.1) e

-- the tests of a modifier's record
modifier_name_tests : (b : List (List ℕ)) (d : Data) → modifier_faults b d ≡ [] → required m.Name (new_name_faults b) d ≡ []
modifier_name_tests b d e = right_none _ _ (left_none _ _ (left_none _ _ (left_none _ _ (left_none _ _ e))))

array_tests : (b : List (List ℕ)) (d : Data) → modifier_faults b d ≡ [] → where_true (is_kind (codes "array") d) (required m.Count (whole_faults (pos 1) (pos MAX_ARRAY_COUNT)) d ++ optional m.Offset (vector_faults 3) d) ≡ []
array_tests b d e = right_none _ _ (right_none _ _ e)

module _ (s : SceneRecord) (c : Catalog) (whole : Data) (scene : Stands s c whole) (names : Names c whole) where
  -- a mirror's centre is there, and an array has as many copies as it may have
  effect_is : (b : List (List ℕ)) (i : ℕ) (d : Data) → modifier_faults b d ≡ [] → modifier_references c i tt d ≡ [] → is_effect s (effect_given c d) ≡ true
  effect_is b i d e h = by (is_kind (codes "mirror") d) (is_kind (codes "array") d) (array_tests b d e) h
    where
      by : (mirror array : Bool)
          → where_true array (required m.Count (whole_faults (pos 1) (pos MAX_ARRAY_COUNT)) d ++ optional m.Offset (vector_faults 3) d) ≡ []
          → where_true mirror (optional m.Object (known_faults c.objects) d) ≡ []
          → is_effect s (if mirror then Mirror (record {
            x = truth_at false m.X d;
            y = truth_at false m.Y d;
            z = truth_at false m.Z d;
            centre = option_map (λ o. object_named c (text_of o)) (field m.Object d);
          })
          else (if array then Array (natural_at m.Count d) (vector_at m.Offset d) else Offset (vector_at m.Loc d) (fixed_at unit m.Scale d))) ≡ true
      by true array e h =
          of_optional (λ o. option_map_or (has_object s) (option_map (λ o. object_named c (text_of o)) o) true ≡ true) m.Object (known_faults c.objects) d refl
          (λ v none. object_is_there s c whole scene names (text_of v) (known_none c.objects v none)) h
      by false true e h = count_within d (left_none (required m.Count (whole_faults (pos 1) (pos MAX_ARRAY_COUNT)) d) (optional m.Offset (vector_faults 3) d) e)
      by false false e h = refl

  -- few modifiers, with distinct names, each with what it names
  modifiers_are : (d : Data) → optional m.Modifiers (list_faults 0 MAX_MODIFIERS modifier_faults after_named []) d ≡ [] → each_faults m.Modifiers (modifier_references c) after_any tt d ≡ []
      → (nat_le (length (values_from (modifier_given c) 0 (items_at m.Modifiers d))) MAX_MODIFIERS ≡ true)
      × (are_distinct same_text (map (λ (o : Modifier). o.name) (values_from (modifier_given c) 0 (items_at m.Modifiers d))) ≡ true)
      × (list_all (λ (o : Modifier). is_effect s o.effect) (values_from (modifier_given c) 0 (items_at m.Modifiers d)) ≡ true)
  modifiers_are d e h =
      let ds : Items = items_at m.Modifiers d in
      let parts = optional_list_none m.Modifiers MAX_MODIFIERS modifier_faults after_named [] d e in (
        ap (λ n. nat_le n MAX_MODIFIERS) (length_values_from (modifier_given c) 0 ds) ∙ parts.0,
        ap (are_distinct same_text) (map_values_from (λ (o : Modifier). o.name) (modifier_given c) 0 ds ∙ values_from_values (text_at m.Name) 0 ds)
            ∙ new_values same_text (text_at m.Name) (λ b. b) modifier_faults after_named (λ b d none. new_name_none b m.Name d (modifier_name_tests b d none)) (λ b d. refl) 0 [] ds parts.1,
        all_values_from (λ (o : Modifier). is_effect s o.effect) (modifier_given c) modifier_faults after_named (modifier_references c) after_any (λ i b u d e h. effect_is b i d e h) 0 [] tt ds parts.1
            (each_none m.Modifiers (modifier_references c) after_any tt d h),
      )

  -- ---- kinds and parents

  kind_is : (b : ObjectsBefore) (i left : ℕ) (d : Data) → object_faults b d ≡ [] → object_references c i left d ≡ [] → is_kind_of s (kind_given c d) ≡ true
  kind_is b i left d e h =
      by (is_kind (codes "armature") d) (is_kind (codes "pencil") d) (left_none _ _ (reference_tests c i left d h)) (right_none _ _ (reference_tests c i left d h)) (right_none _ _ (stack_tests b d e)) (modifiers_tests c i left d h)
    where
      by : (a p : Bool)
          → where_true a (required m.Data (known_faults c.armatures) d ++ in_member m.Data (unless (nat_le (length (data_bones c d)) left) Count)) ≡ []
          → where_true p (required m.Data (known_faults c.pencils) d) ≡ []
          → where_true p (optional m.Modifiers (list_faults 0 MAX_MODIFIERS modifier_faults after_named []) d) ≡ []
          → where_true p (each_faults m.Modifiers (modifier_references c) after_any tt d) ≡ []
          → is_kind_of s (if a
          then Armature (index_of c.armatures (text_at m.Data d)) (map (pose_of_bone (items_at m.Pose d)) (bones_at c (index_of c.armatures (text_at m.Data d))))
          else (if p then Pencil (index_of c.pencils (text_at m.Data d)) (values_from (modifier_given c) 0 (items_at m.Modifiers d)) else Empty)) ≡ true
      by true p e f g h =
          let known = required_known c.armatures m.Data d (left_none (required m.Data (known_faults c.armatures) d) (in_member m.Data (unless (nat_le (length (data_bones c d)) left) Count)) e) in
          let its = armature_is_there s c whole scene names (text_at m.Data d) known in
          let pose : List Channels = map (pose_of_bone (items_at m.Pose d)) (bones_at c (index_of c.armatures (text_at m.Data d))) in
          ap (λ o. option_map_or (λ (a : ArmatureData). length pose == length a.bones) o false) its.1
          ∙ eq-eqb (length pose) (length its.0.bones) (length-map (bones_at c (index_of c.armatures (text_at m.Data d))) (pose_of_bone (items_at m.Pose d)) ∙ sym its.2)
      by false true e f g h =
          let its = modifiers_are d g h in
          four_from _ _ _ _ (pencil_is_there s c whole scene names (text_at m.Data d) (required_known c.pencils m.Data d f)) its.0 its.1 its.2
      by false false e f g h = refl

  parent_is : (d : Data) → optional m.Parent (known_faults c.objects) d ≡ [] → where_true (has m.Parent d) (optional m.ParentBone (bone_of_faults c (text_at m.Parent d)) d) ≡ []
      → option_map_or (is_parent s) (parent_given c d) true ≡ true
  parent_is d e h = by (field m.Parent d) e h
    where
      by : (o : Option Data) → in_member m.Parent (option_map_or (known_faults c.objects) o []) ≡ []
          → where_true (is_some o) (optional m.ParentBone (bone_of_faults c (option_map_or text_of o [])) d) ≡ []
          → option_map_or (is_parent s) (option_map (λ p. record {
            object = object_named c (text_of p);
            bone = option_map (λ b. index_of (bones_named c (text_of p)) (text_of b)) (field m.ParentBone d);
          }) o) true ≡ true
      by None e h = refl
      by (Some p) e h =
          and_from (has_object s (object_named c (text_of p)))
          (option_map_or (has_bone s (object_named c (text_of p))) (option_map (λ b. index_of (bones_named c (text_of p)) (text_of b)) (field m.ParentBone d)) true)
          (object_is_there s c whole scene names (text_of p) (known_none c.objects p (in_member_none m.Parent (known_faults c.objects p) e)))
          (of_optional (λ o. option_map_or (has_bone s (object_named c (text_of p))) (option_map (λ b. index_of (bones_named c (text_of p)) (text_of b)) o) true ≡ true)
          m.ParentBone (bone_of_faults c (text_of p)) d refl
          (λ v none. bone_is_there s c whole scene names (text_of p) (text_of v)
          (known_none (bones_named c (text_of p)) v (right_none (armature_object_faults c (text_of p)) (known_faults (bones_named c (text_of p)) v) none))) h)

  -- ---- each object

  object_is : (b : ObjectsBefore) (i left : ℕ) (d : Data) → i < s.next → object_faults b d ≡ [] → object_references c i left d ≡ [] → is_object s (object_given c i d) ≡ true
  object_is b i left d l e h =
      four_from _ _ _ _ (lt-ltb i s.next l) (ap (λ n. is_below n (action_given c d)) (actions_many s c whole scene names) ∙ action_below c d (action_tests c i left d h))
      (parent_is d (parent_tests c i left d h) (parent_bone_tests c i left d h)) (kind_is b i left d e h)

  objects_each : (armatures : List (List ℕ)) (i : ℕ) (b : ObjectsBefore) (left : ℕ) (ds : Items) → i + item_count ds ≤ s.next
      → items_faults object_faults (after_object armatures) i b ds ≡ [] → each_from (object_references c) (after_bones c) i left ds ≡ []
      → list_all (is_object s) (values_from (object_given c) i ds) ≡ true
  objects_each armatures i b left no_items l e h = refl
  objects_each armatures i b left (item d ds) l e h =
      and_from (is_object s (object_given c i d)) (list_all (is_object s) (values_from (object_given c) (suc i) ds))
      (object_is b i left d (omega arith) (head_none object_faults (after_object armatures) i b d ds e) (each_head_none (object_references c) (after_bones c) i left d ds h))
      (objects_each armatures (suc i) (after_object armatures b d) (after_bones c left d) ds (omega arith)
      (rest_none object_faults (after_object armatures) i b d ds e) (each_rest_none (object_references c) (after_bones c) i left d ds h))

  -- the objects of a scene whose records have no fault in either pass
  pub are_objects_given : (armatures : List (List ℕ)) → optional m.Objects (list_faults 0 MAX_OBJECTS object_faults (after_object armatures) no_objects) whole ≡ []
      → each_faults m.Objects (object_references c) (after_bones c) MAX_POSE_BONES whole ≡ [] → IsTrue (are_objects s)
  are_objects_given armatures e h =
      let ds : Items = items_at m.Objects whole in
      let os : List Object = values_from (object_given c) 0 ds in
      let parts = optional_list_none m.Objects MAX_OBJECTS object_faults (after_object armatures) no_objects whole e in
      let refers = each_none m.Objects (object_references c) (after_bones c) MAX_POSE_BONES whole h in
      six_from _ _ _ _ _ _
      (ap (λ os. nat_le (length os) MAX_OBJECTS) scene.objects ∙ ap (λ n. nat_le n MAX_OBJECTS) (length_values_from (object_given c) 0 ds) ∙ parts.0)
      (ap (λ os. nat_le (length (filter (λ (o : Object). is_pencil_kind o.kind) os)) MAX_PENCIL_OBJECTS) scene.objects
      ∙ le-leb (length (filter (λ (o : Object). is_pencil_kind o.kind) os)) MAX_PENCIL_OBJECTS (pencil_objects c armatures ds parts.1))
      (ap (λ os. nat_le (sum_by (λ (o : Object). pose_count o.kind) os) MAX_POSE_BONES) scene.objects
      ∙ le-leb (sum_by (λ (o : Object). pose_count o.kind) os) MAX_POSE_BONES (pose_bones c ds refers))
      (ap (λ os. are_distinct same_text (map (λ (o : Object). o.name) os)) scene.objects
      ∙ ap (are_distinct same_text) (map_values_from (λ (o : Object). o.name) (object_given c) 0 ds ∙ values_from_values (text_at m.Name) 0 ds)
      ∙ objects_new armatures 0 no_objects ds parts.1)
      (ap (are_rising (λ (o p : Object). nat_lt o.id.0 p.id.0)) scene.objects ∙ ids_rise c 0 ds)
      (ap (list_all (is_object s)) scene.objects ∙ objects_each armatures 0 no_objects MAX_POSE_BONES ds (omega (arith, scene.next)) parts.1 refers)

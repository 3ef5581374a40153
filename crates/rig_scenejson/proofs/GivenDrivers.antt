-- Where neither pass lists a fault, the drivers of the scene keep their conditions.
use Rattle.std.proofs.Common.{◌≡◌, ℕ, suc, Bool, true, false, not, if◌then◌else◌, ◌&&◌, ◌||◌, List, [], ◌∷◌, ◌++◌, length, Option, Some, None, refl, sym, ap, ◌∙◌}
use Rattle.std.specs.Prelude.{IsTrue, unwrap_or, codes, nat_le}
use Rattle.std.specs.List.{list_all, list_any}
use Rattle.std.specs.Option.{option_map_or}
use Rattle.std.proofs.lemmas.Bool.{and_parts, and_from, or_parts, or_from, eqb-true, not-true, not_from_false, both_ways, false_from_ne_true}
use Rattle.serde_json.specs.Data.{Data, Items, no_items, item}
use Rattle.serde_json.specs.Find.{as_str}
use Rattle.rig_scene.specs.declared.driver.Driver.{Driver}
use Rattle.rig_scene.specs.declared.driver.Space.TheVariants as space
use Rattle.rig_scene.specs.declared.driver.Variable.TheVariants.{Property, Transform}
use Rattle.rig_scene.specs.declared.id.AnimId.TheVariants as anim
use Rattle.rig_scene.specs.declared.limits.TheConstants.{MAX_DRIVERS, MAX_VARIABLES}
use Rattle.rig_scene.specs.declared.path.Path.TheVariants.{Own, Bone, Layer}
use Rattle.rig_scene.specs.Distinct.{are_new_after}
use Rattle.rig_scene.specs.Id.{same_id}
use Rattle.rig_scene.specs.Parts.{three_from, four_from}
use Rattle.rig_scene.specs.Path.{same_path}
use Rattle.rig_scene.specs.Same.{same_text-Decides}
use Rattle.rig_scene.specs.Scene.{SceneRecord}
use Rattle.rig_scene.specs.Text.{same_text}
use Rattle.rig_scene.specs.WellFormed.{has_path, has_space, is_variable, is_driver, same_target, are_drivers}
use Rattle.rig_scenejson.specs.declared.before.Catalog.{Catalog}
use Rattle.rig_scenejson.specs.declared.before.Target.{Target}
use Rattle.rig_scenejson.specs.declared.fault.Cause.TheVariants.{WrongKind, WrongIdKind, OutOfRange, Duplicate}
use Rattle.rig_scenejson.specs.declared.fault.Fault.{Fault}
use Rattle.rig_scenejson.specs.declared.member.Member.{Member}
use Rattle.rig_scenejson.specs.declared.member.Member.TheVariants as m
use Rattle.rig_scenejson.specs.Given.{has, text_at, items_at, is_kind, names_pencil, index_of, rig_at, bones_named, object_named, channel_given, axis_given, path_given, target_given, id_given, space_given, variable_given, driver_given, values_from}
use Rattle.rig_scenejson.specs.PassOne.{where_true, after_any, list_faults, variable_faults, driver_faults, after_driver, same_target as same_named}
use Rattle.rig_scenejson.specs.PassTwo.{each_from, each_faults, known_faults, is_armature_rig, armature_object_faults, bone_of_faults, id_references, layers_named, path_references, variable_references, driver_references}
use Rattle.rig_scenejson.specs.Tests.{fault, unless, in_member, required, optional, items_faults}
use Rattle.rig_scenejson.specs.Value.{text_of, word_faults, is_among}
use Rattle.rig_scenejson.proofs.Lists.{left_none, right_none, in_member_none, unless_none, of_required, of_optional, head_none, rest_none, optional_list_none, required_list_none, each_none, each_head_none, each_rest_none, length_values_from}
use Rattle.rig_scenejson.proofs.Items.{all_values_from}
use Rattle.rig_scenejson.proofs.References.{known_same, known_none, required_known, Names, Stands, object_is_there, bone_is_there, named_bone_is_there, layer_is_there}

-- ---- words

word_none : (may_stand : List ℕ → Bool) (d : Data) → word_faults may_stand d ≡ [] → may_stand (text_of d) ≡ true
word_none may_stand d e = by (as_str d) e
  where
    by : (o : Option (List ℕ)) → option_map_or (λ s. unless (may_stand s) OutOfRange) o (fault WrongKind) ≡ [] → may_stand (unwrap_or o []) ≡ true
    by None e = cc
    by (Some s) e = unless_none (may_stand s) OutOfRange e

-- a word without a fault is one that may stand there
word_at_none : (may_stand : List ℕ → Bool) (m : Member) (d : Data) → required m (word_faults may_stand) d ≡ [] → may_stand (text_at m d) ≡ true
word_at_none may_stand m d e = of_required (λ o. may_stand (option_map_or text_of o []) ≡ true) m (word_faults may_stand) d (word_none may_stand) e

-- ---- what a record without a fault says

target_tests : (b : List Target) (d : Data) → driver_faults b d ≡ [] → not (list_any (same_named (target_given d)) b) ≡ true
target_tests b d e =
    unless_none (not (list_any (same_named (target_given d)) b)) Duplicate
    (in_member_none m.Channel (unless (not (list_any (same_named (target_given d)) b)) Duplicate) (right_none _ _ (left_none _ _ (left_none _ _ e))))

variables_tests : (b : List Target) (d : Data) → driver_faults b d ≡ [] → required m.Variables (list_faults 1 MAX_VARIABLES variable_faults after_any tt) d ≡ []
variables_tests b d e = right_none _ _ e

id_tests : (c : Catalog) (i : ℕ) (d : Data) → driver_references c i tt d ≡ [] → id_references c d ≡ []
id_tests c i d h = left_none _ _ (left_none _ _ h)

path_tests : (c : Catalog) (i : ℕ) (d : Data) → driver_references c i tt d ≡ [] → path_references c d ≡ []
path_tests c i d h = right_none _ _ (left_none _ _ h)

kind_tests : (d : Data) → variable_faults tt d ≡ [] → is_among (codes "property" ∷ codes "transform" ∷ []) (text_at m.Kind d) ≡ true
kind_tests d e = word_at_none (is_among (codes "property" ∷ codes "transform" ∷ [])) m.Kind d (right_none _ _ (left_none _ _ (left_none _ _ e)))

-- ---- targets

-- targets that are one channel of one id are so by their names
one_target : (c : Catalog) (d e : Data) → id_references c d ≡ [] → id_references c e ≡ [] → same_id (id_given c d) (id_given c e) ≡ true → same_path (path_given d) (path_given e) ≡ true
    → same_named (target_given d) (target_given e) ≡ true
one_target c d e known too same path = by (names_pencil d) (names_pencil e) known too same
  where
    by : (p q : Bool)
        → (if p then required m.Pencil (known_faults c.pencils) d else required m.Object (known_faults c.objects) d) ≡ []
        → (if q then required m.Pencil (known_faults c.pencils) e else required m.Object (known_faults c.objects) e) ≡ []
        → same_id (if p then anim.Pencil (index_of c.pencils (text_at m.Pencil d)) else anim.Object (object_named c (text_at m.Object d)))
        (if q then anim.Pencil (index_of c.pencils (text_at m.Pencil e)) else anim.Object (object_named c (text_at m.Object e))) ≡ true
        → ((if p then q else not q)
        && same_text (if p then text_at m.Pencil d else text_at m.Object d) (if q then text_at m.Pencil e else text_at m.Object e)
        && same_path (path_given d) (path_given e)) ≡ true
    by true true k l is =
        three_from true (same_text (text_at m.Pencil d) (text_at m.Pencil e)) (same_path (path_given d) (path_given e)) refl
        ((same_text-Decides (text_at m.Pencil d) (text_at m.Pencil e)).1
        (known_same c.pencils (text_at m.Pencil d) (text_at m.Pencil e) (required_known c.pencils m.Pencil d k) (required_known c.pencils m.Pencil e l)
        (eqb-true (index_of c.pencils (text_at m.Pencil d)) (index_of c.pencils (text_at m.Pencil e)) is))) path
    by false false k l is =
        three_from true (same_text (text_at m.Object d) (text_at m.Object e)) (same_path (path_given d) (path_given e)) refl
        ((same_text-Decides (text_at m.Object d) (text_at m.Object e)).1
        (known_same c.objects (text_at m.Object d) (text_at m.Object e) (required_known c.objects m.Object d k) (required_known c.objects m.Object e l)
        (eqb-true (index_of c.objects (text_at m.Object d)) (index_of c.objects (text_at m.Object e)) is))) path
    by true false k l is = absurd cc
    by false true k l is = absurd cc

-- a driver and its target by names, of a record whose id is known
abbrev IsOf : Catalog → Driver → Target → Type 0
IsOf c driver target = (d : Data) × (id_references c d ≡ []) × (driver.id ≡ id_given c d) × (driver.path ≡ path_given d) × (target ≡ target_given d)

abbrev AreOf : Catalog → List Driver → List Target → Type 0
AreOf c [] [] = Unit {0}
AreOf c [] (t ∷ ts) = ⊥
AreOf c (x ∷ xs) [] = ⊥
AreOf c (x ∷ xs) (t ∷ ts) = IsOf c x t × AreOf c xs ts

are_of_push : (c : Catalog) (xs : List Driver) (ts : List Target) (x : Driver) (t : Target) → AreOf c xs ts → IsOf c x t → AreOf c (xs ++ x ∷ []) (ts ++ t ∷ [])
are_of_push c [] [] x t are is = (is, tt)
are_of_push c [] (u ∷ us) x t are is = absurd are
are_of_push c (y ∷ ys) [] x t are is = absurd are
are_of_push c (y ∷ ys) (u ∷ us) x t are is = (are.0, are_of_push c ys us x t are.1 is)

-- what is new among the names is new among the drivers
none_seen : (c : Catalog) (i : ℕ) (d : Data) → id_references c d ≡ [] → (xs : List Driver) (ts : List Target) → AreOf c xs ts
    → list_any (same_named (target_given d)) ts ≡ false → list_any (same_target (driver_given c i d)) xs ≡ false
none_seen c i d known [] [] are new = refl
none_seen c i d known [] (t ∷ ts) are new = absurd are
none_seen c i d known (x ∷ xs) [] are new = absurd are
none_seen c i d known (x ∷ xs) (t ∷ ts) are new =
    let parts = or_parts (same_named (target_given d) t) (list_any (same_named (target_given d)) ts) new in
    or_from (same_target (driver_given c i d) x) (list_any (same_target (driver_given c i d)) xs)
    (false_from_ne_true (same_target (driver_given c i d) x) (λ same. both_ways (same_named (target_given d) t) parts.0 (one same)))
    (none_seen c i d known xs ts are.1 parts.1)
  where
    one : same_target (driver_given c i d) x ≡ true → same_named (target_given d) t ≡ true
    one same =
        let its = are.0 in
        let both = and_parts (same_id (id_given c d) x.id) (same_path (path_given d) x.path) same in
        ap (same_named (target_given d)) its.4
        ∙ one_target c d its.0 known its.1 (ap (same_id (id_given c d)) (sym its.2) ∙ both.0) (ap (same_path (path_given d)) (sym its.3) ∙ both.1)

targets_new : (c : Catalog) (i : ℕ) (xs : List Driver) (ts : List Target) → AreOf c xs ts → (ds : Items) → items_faults driver_faults after_driver i ts ds ≡ []
    → each_from (driver_references c) after_any i tt ds ≡ [] → are_new_after same_target xs (values_from (driver_given c) i ds) ≡ true
targets_new c i xs ts are no_items e h = refl
targets_new c i xs ts are (item d ds) e h =
    let known = id_tests c i d (each_head_none (driver_references c) after_any i tt d ds h) in
    let new = not-true (list_any (same_named (target_given d)) ts) (target_tests ts d (head_none driver_faults after_driver i ts d ds e)) in
    and_from (not (list_any (same_target (driver_given c i d)) xs)) (are_new_after same_target (xs ++ driver_given c i d ∷ []) (values_from (driver_given c) (suc i) ds))
    (not_from_false (list_any (same_target (driver_given c i d)) xs) (none_seen c i d known xs ts are new))
    (targets_new c (suc i) (xs ++ driver_given c i d ∷ []) (ts ++ target_given d ∷ []) (are_of_push c xs ts (driver_given c i d) (target_given d) are (d, known, refl, refl, refl)) ds
    (rest_none driver_faults after_driver i ts d ds e) (each_rest_none (driver_references c) after_any i tt d ds h))

-- ---- what a driver refers to

if_none : (b : Bool) (xs : List Fault) (f : Fault) → (if b then xs else f ∷ []) ≡ [] → xs ≡ []
if_none true xs f e = e
if_none false xs f e = cc

module _ (s : SceneRecord) (c : Catalog) (whole : Data) (scene : Stands s c whole) (names : Names c whole) where
  -- an id has the path that its record gives
  path_is : (d : Data) → id_references c d ≡ [] → path_references c d ≡ [] → has_path s (id_given c d) (path_given d) ≡ true
  path_is d e h = by (names_pencil d) (has m.Bone d) (has m.Layer d) e h
    where
      by : (p b l : Bool)
          → (if p then required m.Pencil (known_faults c.pencils) d else required m.Object (known_faults c.objects) d) ≡ []
          → (if p
          then (if not b && l then required m.Layer (known_faults (layers_named c (text_at m.Pencil d))) d else in_member m.Channel (fault WrongIdKind))
          else (if b
          then (if is_armature_rig (rig_at c (index_of c.objects (text_at m.Object d))) then required m.Bone (known_faults (bones_named c (text_at m.Object d))) d else in_member m.Channel (fault WrongIdKind))
          else where_true l (in_member m.Channel (fault WrongIdKind)))) ≡ []
          → has_path s (if p then anim.Pencil (index_of c.pencils (text_at m.Pencil d)) else anim.Object (object_named c (text_at m.Object d)))
          (if b then Bone (text_at m.Bone d) (channel_given d) else (if l then Layer (text_at m.Layer d) (axis_given d) else Own (channel_given d))) ≡ true
      by true true l e h = absurd cc
      by true false true e h = layer_is_there s c whole scene names (text_at m.Pencil d) (text_at m.Layer d) (axis_given d) (required_known (layers_named c (text_at m.Pencil d)) m.Layer d h)
      by true false false e h = absurd cc
      by false true l e h =
          named_bone_is_there s c whole scene names (text_at m.Object d) (text_at m.Bone d)
          (required_known (bones_named c (text_at m.Object d)) m.Bone d
          (if_none (is_armature_rig (rig_at c (index_of c.objects (text_at m.Object d)))) (required m.Bone (known_faults (bones_named c (text_at m.Object d))) d) _ h))
      by false false true e h = absurd cc
      by false false false e h = object_is_there s c whole scene names (text_at m.Object d) (required_known c.objects m.Object d e)

  -- an object has the transform that a variable names
  space_is : (d : Data) → required m.Object (known_faults c.objects) d ≡ [] → optional m.Bone (bone_of_faults c (text_at m.Object d)) d ≡ [] → has_space s (object_named c (text_at m.Object d)) (space_given c d) ≡ true
  space_is d e h =
      of_optional (λ o. has_space s (object_named c (text_at m.Object d))
      (option_map_or (λ b. space.Pose (index_of (bones_named c (text_at m.Object d)) (text_of b))) o (if same_text (text_at m.Space d) (codes "local") then space.Local else space.World)) ≡ true)
      m.Bone (bone_of_faults c (text_at m.Object d)) d (by (same_text (text_at m.Space d) (codes "local")))
      (λ v none. bone_is_there s c whole scene names (text_at m.Object d) (text_of v)
      (known_none (bones_named c (text_at m.Object d)) v (right_none (armature_object_faults c (text_at m.Object d)) (known_faults (bones_named c (text_at m.Object d)) v) none))) h
    where
      by : (b : Bool) → has_space s (object_named c (text_at m.Object d)) (if b then space.Local else space.World) ≡ true
      by true = object_is_there s c whole scene names (text_at m.Object d) (required_known c.objects m.Object d e)
      by false = object_is_there s c whole scene names (text_at m.Object d) (required_known c.objects m.Object d e)

  variable_is : (i : ℕ) (d : Data) → variable_faults tt d ≡ [] → variable_references c i tt d ≡ [] → is_variable s (variable_given c i d) ≡ true
  variable_is i d e h = by (is_kind (codes "transform") d) (is_kind (codes "property") d) (kind_tests d e) (left_none _ _ h) (right_none _ _ h)
    where
      by : (t p : Bool) → (p || (t || false)) ≡ true
          → where_true p (id_references c d ++ path_references c d) ≡ []
          → where_true t (required m.Object (known_faults c.objects) d ++ optional m.Bone (bone_of_faults c (text_at m.Object d)) d) ≡ []
          → is_variable s (if t then Transform (object_named c (text_at m.Object d)) (space_given c d) (channel_given d) else Property (id_given c d) (path_given d)) ≡ true
      by true p k e h =
          space_is d (left_none (required m.Object (known_faults c.objects) d) (optional m.Bone (bone_of_faults c (text_at m.Object d)) d) h)
          (right_none (required m.Object (known_faults c.objects) d) (optional m.Bone (bone_of_faults c (text_at m.Object d)) d) h)
      by false true k e h = path_is d (left_none (id_references c d) (path_references c d) e) (right_none (id_references c d) (path_references c d) e)
      by false false k e h = absurd cc

  driver_is : (b : List Target) (i : ℕ) (d : Data) → driver_faults b d ≡ [] → driver_references c i tt d ≡ [] → is_driver s (driver_given c i d) ≡ true
  driver_is b i d e h =
      let ds : Items = items_at m.Variables d in
      let parts = required_list_none m.Variables 1 MAX_VARIABLES variable_faults after_any tt d (variables_tests b d e) in
      let refers = each_none m.Variables (variable_references c) after_any tt d (right_none _ _ h) in
      four_from _ _ _ _ (path_is d (id_tests c i d h) (path_tests c i d h))
      (ap (nat_le 1) (length_values_from (variable_given c) 0 ds) ∙ parts.0)
      (ap (λ n. nat_le n MAX_VARIABLES) (length_values_from (variable_given c) 0 ds) ∙ parts.1)
      (all_values_from (is_variable s) (variable_given c) variable_faults after_any (variable_references c) after_any (λ i b u d e h. variable_is i d e h) 0 tt tt ds parts.2 refers)

  -- the drivers of a scene whose records have no fault in either pass
  pub are_drivers_given : optional m.Drivers (list_faults 0 MAX_DRIVERS driver_faults after_driver []) whole ≡ [] → each_faults m.Drivers (driver_references c) after_any tt whole ≡ [] → IsTrue (are_drivers s)
  are_drivers_given e h =
      let ds : Items = items_at m.Drivers whole in
      let parts = optional_list_none m.Drivers MAX_DRIVERS driver_faults after_driver [] whole e in
      let refers = each_none m.Drivers (driver_references c) after_any tt whole h in
      three_from _ _ _
      (ap (λ ds. nat_le (length ds) MAX_DRIVERS) scene.drivers ∙ ap (λ n. nat_le n MAX_DRIVERS) (length_values_from (driver_given c) 0 ds) ∙ parts.0)
      (ap (are_new_after same_target []) scene.drivers ∙ targets_new c 0 [] [] tt ds parts.1 refers)
      (ap (list_all (is_driver s)) scene.drivers
      ∙ all_values_from (is_driver s) (driver_given c) driver_faults after_driver (driver_references c) after_any (λ i b u d e h. driver_is b i d e h) 0 [] tt ds parts.1 refers)

-- What the names of a scene refer to: the records that the members give at the places of the names that the catalog has.
use Rattle.std.proofs.Common.{◌≡◌, ℕ, zero, suc, ◌+◌, ◌<◌, ◌≤◌, Bool, true, false, cond, if◌then◌else◌, List, [], ◌∷◌, ◌++◌, map, length, get_or, Option, Some, None, refl, sym, ap, ◌∙◌, subst, inl, inr, arith}
use Rattle.std.specs.Prelude.{IsTrue, is_some, position, slice_get, unwrap_or, option_map, option_and_then, nat_lt, codes, ◌==◌, ◌⊎◌}
use Rattle.std.specs.List.{list_any, find}
use Rattle.std.specs.Option.{option_map_or}
use Rattle.std.proofs.lemmas.Bool.{lt-ltb, eq-eqb, ne_eqb, or_left, or_right, cases_lt}
use Rattle.std.proofs.lemmas.List.{append_assoc, append-nil, length-map}
use Rattle.std.proofs.lemmas.List.Quantifiers.{position-Some}
use Rattle.std.proofs.lemmas.Option.{slice_get_past}
use Rattle.serde_json.specs.Data.{Data, Items, no_items, item}
use Rattle.rig_scene.specs.declared.armature.ArmatureData.{ArmatureData}
use Rattle.rig_scene.specs.declared.armature.RestBone.{RestBone}
use Rattle.rig_scene.specs.declared.channel.Axis.{Axis}
use Rattle.rig_scene.specs.declared.channel.Channels.{Channels}
use Rattle.rig_scene.specs.declared.id.AnimId.TheVariants as anim
use Rattle.rig_scene.specs.declared.object.Kind.{Kind}
use Rattle.rig_scene.specs.declared.object.Kind.TheVariants.{Empty, Armature, Pencil}
use Rattle.rig_scene.specs.declared.object.Object.{Object}
use Rattle.rig_scene.specs.declared.path.Path.TheVariants as paths
use Rattle.rig_scene.specs.declared.pencil.Layer.{Layer}
use Rattle.rig_scene.specs.declared.pencil.PencilData.{PencilData}
use Rattle.rig_scene.specs.Same.{same_text-Decides}
use Rattle.rig_scene.specs.Scene.{SceneRecord, object_of, armature_of}
use Rattle.rig_scene.specs.Text.{same_text}
use Rattle.rig_scene.specs.WellFormed.{is_below, has_object, bones_of, has_bone, has_bone_named, has_path}
use Rattle.rig_scenejson.specs.declared.before.Catalog.{Catalog}
use Rattle.rig_scenejson.specs.declared.before.ArmaturesBefore.{ArmaturesBefore}
use Rattle.rig_scenejson.specs.declared.before.ActionsBefore.{ActionsBefore}
use Rattle.rig_scenejson.specs.declared.before.LayersBefore.{LayersBefore}
use Rattle.rig_scenejson.specs.declared.before.ObjectsBefore.{ObjectsBefore}
use Rattle.rig_scenejson.specs.declared.before.PencilsBefore.{PencilsBefore}
use Rattle.rig_scenejson.specs.declared.before.Rig.TheVariants as rigs
use Rattle.rig_scenejson.specs.declared.fault.Cause.TheVariants.{UnknownRef}
use Rattle.rig_scenejson.specs.declared.member.Member.{Member}
use Rattle.rig_scenejson.specs.declared.member.Member.TheVariants as m
use Rattle.rig_scenejson.specs.Given.{action_given, text_at, items_at, is_kind, pose_of_bone, modifier_given, values, values_from, index_of, rig_at, bones_at, rig_bones, bones_named, object_named, action_record, armature_given, bone_given, pencil_given, layer_given, object_given, driver_given, scene_given}
use Rattle.rig_scenejson.specs.PassOne.{after_named, after_action, after_armature, after_layer, after_pencil, after_object, after_armatures, no_actions, no_armatures, no_pencils, no_objects, rig_of, catalog_of}
use Rattle.rig_scenejson.specs.PassTwo.{layers_named, known_faults}
use Rattle.rig_scenejson.proofs.Lists.{unless_none, of_required, of_optional, length_values, length_values_from, map_values_from, values_from_values}
use Rattle.rig_scenejson.specs.Tests.{items_after, required, optional}
use Rattle.rig_scenejson.specs.Value.{text_of, item_at, item_count}

-- ---- names that are known

-- a text is one of these names
abbrev pub Known : List (List ℕ) → List ℕ → Type 0
Known names t = IsTrue (is_some (position (same_text t) names))

some_is : {A : Type 0} (o : Option A) (d : A) → IsTrue (is_some o) → o ≡ Some (unwrap_or o d)
some_is None d is = cc
some_is (Some x) d is = refl

-- its index is the one at which it is found
known_position : (names : List (List ℕ)) (t : List ℕ) → Known names t → position (same_text t) names ≡ Some (index_of names t)
known_position names t known = some_is (position (same_text t) names) 0 known

pub known_below : (names : List (List ℕ)) (t : List ℕ) → Known names t → index_of names t < length names
known_below names t known = (position-Some (same_text t) names (index_of names t) t (known_position names t known)).0

known_text : (names : List (List ℕ)) (t d : List ℕ) → Known names t → get_or names (index_of names t) d ≡ t
known_text names t d known =
    sym ((same_text-Decides t (get_or names (index_of names t) d)).0 (position-Some (same_text t) names (index_of names t) d (known_position names t known)).1)

-- names of one index are the same
pub known_same : (names : List (List ℕ)) (s t : List ℕ) → Known names s → Known names t → index_of names s ≡ index_of names t → s ≡ t
known_same names s t is too e = sym (known_text names s [] is) ∙ ap (λ i. get_or names i []) e ∙ known_text names t [] too

-- none of no names is known
nothing_known : (t : List ℕ) → Known [] t → ⊥
nothing_known t known = cc

-- a name without a fault is known
pub known_none : (names : List (List ℕ)) (v : Data) → known_faults names v ≡ [] → Known names (text_of v)
known_none names v e = unless_none (is_some (position (same_text (text_of v)) names)) UnknownRef e

pub required_known : (names : List (List ℕ)) (m : Member) (d : Data) → required m (known_faults names) d ≡ [] → Known names (text_at m d)
required_known names m d e = of_required (λ o. Known names (option_map_or text_of o [])) m (known_faults names) d (known_none names) e

-- an action that is known is one of so many
pub action_below : (c : Catalog) (d : Data) → optional m.Action (known_faults c.actions) d ≡ [] → is_below (length c.actions) (action_given c d) ≡ true
action_below c d e =
    of_optional (λ o. is_below (length c.actions) (option_map (λ a. index_of c.actions (text_of a)) o) ≡ true) m.Action (known_faults c.actions) d refl
    (λ v none. lt-ltb (index_of c.actions (text_of v)) (length c.actions) (known_below c.actions (text_of v) (known_none c.actions v none))) e

-- what is said of the index at which a known name is found is said of its index
pub known_from : {A : Type 0} (f : ℕ → A) (none : A) (names : List (List ℕ)) (t : List ℕ) → Known names t → option_map_or f (position (same_text t) names) none ≡ f (index_of names t)
known_from f none names t known = ap (λ o. option_map_or f o none) (known_position names t known)

-- a known name is one that a test of the list's elements finds
any_at : {X : Type 0} (f : X → List ℕ) (xs : List X) (i : ℕ) (d t : List ℕ) → i < length (map f xs) → get_or (map f xs) i d ≡ t → list_any (λ x. same_text (f x) t) xs ≡ true
any_at f [] i d t l e = absurd (omega arith)
any_at f (x ∷ xs) zero d t l e = or_left (same_text (f x) t) (list_any (λ x. same_text (f x) t) xs) ((same_text-Decides (f x) t).1 e)
any_at f (x ∷ xs) (suc i) d t l e = or_right (same_text (f x) t) (list_any (λ x. same_text (f x) t) xs) (any_at f xs i d t (omega arith) e)

any_known : {X : Type 0} (f : X → List ℕ) (xs : List X) (t : List ℕ) → Known (map f xs) t → list_any (λ x. same_text (f x) t) xs ≡ true
any_known f xs t known = any_at f xs (index_of (map f xs) t) [] t (known_below (map f xs) t known) (known_text (map f xs) t [] known)

-- ---- values by their index

pub nth_value : {A : Type 0} (f : Data → A) (ds : Items) (k : ℕ) → k < item_count ds → slice_get (values f ds) k ≡ Some (f (item_at k ds))
nth_value f no_items k l = absurd (omega arith)
nth_value f (item d ds) zero l = refl
nth_value f (item d ds) (suc k) l = nth_value f ds k (omega arith)

values_at : {A : Type 0} (f : ℕ → Data → A) (i : ℕ) (ds : Items) (k n : ℕ) → n ≡ i + k → k < item_count ds → slice_get (values_from f i ds) k ≡ Some (f n (item_at k ds))
values_at f i no_items k n e l = absurd (omega arith)
values_at f i (item d ds) zero n e l = let same : i ≡ n = omega arith in ap (λ i. Some (f i d)) same
values_at f i (item d ds) (suc k) n e l = values_at f (suc i) ds k n (omega arith) (omega arith)

pub nth_value_from : {A : Type 0} (f : ℕ → Data → A) (ds : Items) (k : ℕ) → k < item_count ds → slice_get (values_from f 0 ds) k ≡ Some (f k (item_at k ds))
nth_value_from f ds k l = values_at f 0 ds k k (omega arith) l

-- ---- what stands behind the last item of a list

module _ {B X : Type 0} (next : B → Data → B) (got : B → List X) (value : Data → X) (step : (b : B) (d : Data) → got (next b d) ≡ got b ++ value d ∷ []) where
  -- a list that each item adds one to has what each gives
  pub items_added : (b : B) (ds : Items) → got (items_after next b ds) ≡ got b ++ values value ds
  items_added b no_items = sym (append-nil (got b))
  items_added b (item d ds) = items_added (next b d) ds ∙ ap (λ xs. xs ++ values value ds) (step b d) ∙ append_assoc (got b) (value d ∷ []) (values value ds)

-- the names of a list of records
abbrev pub names_in : Items → List (List ℕ)
names_in ds = values (text_at m.Name) ds

names_after : (ds : Items) → items_after after_named [] ds ≡ names_in ds
names_after ds = items_added after_named (λ b. b) (text_at m.Name) (λ b d. refl) [] ds

-- the names of the bones of an armature's record, and of the layers of a pencil's
abbrev pub bone_names : Data → List (List ℕ)
bone_names d = names_in (items_at m.Bones d)

abbrev pub layer_names : Data → List (List ℕ)
layer_names d = names_in (items_at m.Layers d)

-- what a catalog has, each list by the records that it is of
pub record Names (c : Catalog) (d : Data) : Type 0 where
  pub actions : c.actions ≡ names_in (items_at m.Actions d)
  pub armatures : c.armatures ≡ names_in (items_at m.Armatures d)
  pub bones : c.bones ≡ values bone_names (items_at m.Armatures d)
  pub pencils : c.pencils ≡ names_in (items_at m.Pencils d)
  pub layers : c.layers ≡ values layer_names (items_at m.Pencils d)
  pub objects : c.objects ≡ names_in (items_at m.Objects d)
  pub rigs : c.rigs ≡ values (rig_of c.armatures) (items_at m.Objects d)

actions_named : (b : ActionsBefore) (ds : Items) → (items_after after_action b ds).names ≡ b.names ++ names_in ds
actions_named b ds = items_added after_action (λ (b : ActionsBefore). b.names) (text_at m.Name) (λ b d. refl) b ds

armatures_named : (b : ArmaturesBefore) (ds : Items) → (items_after after_armature b ds).names ≡ b.names ++ names_in ds
armatures_named b ds = items_added after_armature (λ (b : ArmaturesBefore). b.names) (text_at m.Name) (λ b d. refl) b ds

bones_listed : (b : ArmaturesBefore) (ds : Items) → (items_after after_armature b ds).bones ≡ b.bones ++ values bone_names ds
bones_listed b ds = items_added after_armature (λ (b : ArmaturesBefore). b.bones) bone_names (λ b d. ap (λ names. b.bones ++ names ∷ []) (names_after (items_at m.Bones d))) b ds

pencils_named : (b : PencilsBefore) (ds : Items) → (items_after after_pencil b ds).names ≡ b.names ++ names_in ds
pencils_named b ds = items_added after_pencil (λ (b : PencilsBefore). b.names) (text_at m.Name) (λ b d. refl) b ds

layers_named_in : (b : LayersBefore) (ds : Items) → (items_after after_layer b ds).names ≡ b.names ++ names_in ds
layers_named_in b ds = items_added after_layer (λ (b : LayersBefore). b.names) (text_at m.Name) (λ b d. refl) b ds

layers_listed : (b : PencilsBefore) (ds : Items) → (items_after after_pencil b ds).layers ≡ b.layers ++ values layer_names ds
layers_listed b ds =
    items_added after_pencil (λ (b : PencilsBefore). b.layers) layer_names
    (λ b d. ap (λ names. b.layers ++ names ∷ []) (layers_named_in (record { names = []; keys_left = b.keys_left }) (items_at m.Layers d))) b ds

objects_named : (armatures : List (List ℕ)) (b : ObjectsBefore) (ds : Items) → (items_after (after_object armatures) b ds).names ≡ b.names ++ names_in ds
objects_named armatures b ds = items_added (after_object armatures) (λ (b : ObjectsBefore). b.names) (text_at m.Name) (λ b d. refl) b ds

rigs_listed : (armatures : List (List ℕ)) (b : ObjectsBefore) (ds : Items) → (items_after (after_object armatures) b ds).rigs ≡ b.rigs ++ values (rig_of armatures) ds
rigs_listed armatures b ds = items_added (after_object armatures) (λ (b : ObjectsBefore). b.rigs) (rig_of armatures) (λ b d. refl) b ds

pub names_of : (d : Data) → Names (catalog_of d) d
unfolding catalog_of
names_of d = record {
  actions = actions_named no_actions (items_at m.Actions d);
  armatures = armatures_named no_armatures (items_at m.Armatures d);
  bones = bones_listed no_armatures (items_at m.Armatures d);
  pencils = pencils_named no_pencils (items_at m.Pencils d);
  layers = layers_listed no_pencils (items_at m.Pencils d);
  objects = objects_named (after_armatures d).names no_objects (items_at m.Objects d);
  rigs = rigs_listed (after_armatures d).names no_objects (items_at m.Objects d);
}

-- ---- the records that a scene has

-- what a scene has, each list by the records that it is of
pub record Stands (s : SceneRecord) (c : Catalog) (d : Data) : Type 0 where
  pub actions : s.actions ≡ values action_record (items_at m.Actions d)
  pub armatures : s.armatures ≡ values_from (armature_given c) 0 (items_at m.Armatures d)
  pub pencils : s.pencils ≡ values_from (pencil_given c) 0 (items_at m.Pencils d)
  pub objects : s.objects ≡ values_from (object_given c) 0 (items_at m.Objects d)
  pub drivers : s.drivers ≡ values_from (driver_given c) 0 (items_at m.Drivers d)
  pub next : s.next ≡ item_count (items_at m.Objects d)

pub stands : (c : Catalog) (d : Data) → Stands (scene_given c d) c d
unfolding scene_given
stands c d = record { actions = refl; armatures = refl; pencils = refl; objects = refl; drivers = refl; next = refl }

-- the object of an id that is an index
object_found : (c : Catalog) (first : ℕ) (ds : Items) (k n : ℕ) → n ≡ first + k → k < item_count ds
    → find (λ (o : Object). o.id.0 == n) (values_from (object_given c) first ds) ≡ Some (object_given c n (item_at k ds))
object_found c first no_items k n e l = absurd (omega arith)
object_found c first (item d ds) zero n e l =
    let same : first ≡ n = omega arith in
    ap (λ b. cond b (Some (object_given c first d)) (find (λ (o : Object). o.id.0 == n) (values_from (object_given c) (suc first) ds))) (eq-eqb first n same) ∙ ap (λ i. Some (object_given c i d)) same
object_found c first (item d ds) (suc k) n e l =
    ap (λ b. cond b (Some (object_given c first d)) (find (λ (o : Object). o.id.0 == n) (values_from (object_given c) (suc first) ds))) (ne_eqb first n (λ same. omega arith))
    ∙ object_found c (suc first) ds k n (omega arith) (omega arith)

module _ (s : SceneRecord) (c : Catalog) (d : Data) (scene : Stands s c d) (names : Names c d) where
  -- ---- how many there are

  pub actions_many : length s.actions ≡ length c.actions
  actions_many =
      ap length scene.actions ∙ length_values action_record (items_at m.Actions d) ∙ sym (ap length names.actions ∙ length_values (text_at m.Name) (items_at m.Actions d))

  armatures_many : length c.armatures ≡ item_count (items_at m.Armatures d)
  armatures_many = ap length names.armatures ∙ length_values (text_at m.Name) (items_at m.Armatures d)

  pencils_many : length c.pencils ≡ item_count (items_at m.Pencils d)
  pencils_many = ap length names.pencils ∙ length_values (text_at m.Name) (items_at m.Pencils d)

  objects_many : length c.objects ≡ item_count (items_at m.Objects d)
  objects_many = ap length names.objects ∙ length_values (text_at m.Name) (items_at m.Objects d)

  -- ---- objects

  pub object_at : (k : ℕ) → k < item_count (items_at m.Objects d) → object_of s (record { 0 = k }) ≡ Some (object_given c k (item_at k (items_at m.Objects d)))
  object_at k l = ap (find (λ (o : Object). o.id.0 == k)) scene.objects ∙ object_found c 0 (items_at m.Objects d) k k (omega arith) l

  pub object_is_there : (t : List ℕ) → Known c.objects t → has_object s (object_named c t) ≡ true
  object_is_there t known = ap is_some (object_at (index_of c.objects t) (rw (← objects_many) (known_below c.objects t known)))

  -- ---- armatures and their bones

  armature_at : (k : ℕ) → k < item_count (items_at m.Armatures d) → slice_get s.armatures k ≡ Some (armature_given c k (item_at k (items_at m.Armatures d)))
  armature_at k l = ap (λ xs. slice_get xs k) scene.armatures ∙ nth_value_from (armature_given c) (items_at m.Armatures d) k l

  bone_names_at : (k : ℕ) → k < item_count (items_at m.Armatures d) → bones_at c k ≡ bone_names (item_at k (items_at m.Armatures d))
  bone_names_at k l = ap (λ bones. unwrap_or (slice_get bones k) []) names.bones ∙ ap (λ o. unwrap_or o []) (nth_value bone_names (items_at m.Armatures d) k l)

  -- the bones of an armature have the names that the catalog has of it
  armature_bones : (k : ℕ) → k < item_count (items_at m.Armatures d) → map (λ (b : RestBone). b.name) (armature_given c k (item_at k (items_at m.Armatures d))).bones ≡ bones_at c k
  armature_bones k l =
      map_values_from (λ (b : RestBone). b.name) (bone_given (bones_at c k)) 0 (items_at m.Bones (item_at k (items_at m.Armatures d)))
      ∙ values_from_values (text_at m.Name) 0 (items_at m.Bones (item_at k (items_at m.Armatures d)))
      ∙ sym (bone_names_at k l)

  -- ---- the bones of an object

  -- what an armature object's kind has of bones, where what carries it has any
  BonesOf : List (List ℕ) → Kind → Type 0
  BonesOf known kind = (bones : List RestBone) × (option_map (λ (a : ArmatureData). a.bones) (armature_of s kind) ≡ Some bones) × (map (λ (b : RestBone). b.name) bones ≡ known)

  kind_bones : (x : Data) (b : List ℕ) (is_armature : Bool) (found : Option ℕ) → position (same_text (text_at m.Data x)) c.armatures ≡ found → (pose : List Channels) (other : Kind)
      → Known (rig_bones c (if is_armature then option_map_or rigs.Armature found rigs.UnknownArmature else rigs.NoArmature)) b
      → BonesOf (rig_bones c (if is_armature then option_map_or rigs.Armature found rigs.UnknownArmature else rigs.NoArmature)) (if is_armature then Armature (unwrap_or found 0) pose else other)
  unfolding BonesOf
  kind_bones x b false found is pose other known = absurd (nothing_known b known)
  kind_bones x b true None is pose other known = absurd (nothing_known b known)
  kind_bones x b true (Some k) is pose other known =
      let l : k < item_count (items_at m.Armatures d) = omega (arith, armatures_many, (position-Some (same_text (text_at m.Data x)) c.armatures k [] is).0) in
      ((armature_given c k (item_at k (items_at m.Armatures d))).bones, ap (option_map (λ (a : ArmatureData). a.bones)) (armature_at k l), armature_bones k l)

  -- what carries an object is what its record says
  rig_given : (k : ℕ) → k < item_count (items_at m.Objects d) → rig_at c k ≡ rig_of c.armatures (item_at k (items_at m.Objects d))
  rig_given k l =
      ap (λ rs. unwrap_or (slice_get rs k) rigs.NoArmature) names.rigs
      ∙ ap (λ o. unwrap_or o rigs.NoArmature) (nth_value (rig_of c.armatures) (items_at m.Objects d) k l)

  rig_past : (k : ℕ) → item_count (items_at m.Objects d) ≤ k → rig_at c k ≡ rigs.NoArmature
  rig_past k l =
      ap (λ rs. unwrap_or (slice_get rs k) rigs.NoArmature) names.rigs
      ∙ ap (λ o. unwrap_or o rigs.NoArmature) (slice_get_past (values (rig_of c.armatures) (items_at m.Objects d)) k (omega (arith, length_values (rig_of c.armatures) (items_at m.Objects d))))

  -- an object of a known bone is an armature object, whose bones have the names that the catalog has of it
  object_bones : (k : ℕ) (b : List ℕ) → Known (rig_bones c (rig_at c k)) b
      → (bones : List RestBone) × (bones_of s (record { 0 = k }) ≡ Some bones) × (map (λ (b : RestBone). b.name) bones ≡ rig_bones c (rig_at c k))
  unfolding BonesOf
  object_bones k b known = by (cases_lt k (item_count (items_at m.Objects d)))
    where
      by : (k < item_count (items_at m.Objects d)) ⊎ (item_count (items_at m.Objects d) ≤ k)
          → (bones : List RestBone) × (bones_of s (record { 0 = k }) ≡ Some bones) × (map (λ (b : RestBone). b.name) bones ≡ rig_bones c (rig_at c k))
      by (inr past) = absurd (nothing_known b (subst (λ r. Known (rig_bones c r) b) (rig_past k past) known))
      by (inl l) =
          let x : Data = item_at k (items_at m.Objects d) in
          let its = kind_bones x b (is_kind (codes "armature") x) (position (same_text (text_at m.Data x)) c.armatures) refl
          (map (pose_of_bone (items_at m.Pose x)) (bones_at c (index_of c.armatures (text_at m.Data x))))
          (if is_kind (codes "pencil") x then Pencil (index_of c.pencils (text_at m.Data x)) (values_from (modifier_given c) 0 (items_at m.Modifiers x)) else Empty)
          (subst (λ r. Known (rig_bones c r) b) (rig_given k l) known) in
          (its.0, ap (option_and_then (λ (o : Object). option_map (λ (a : ArmatureData). a.bones) (armature_of s o.kind))) (object_at k l) ∙ its.1, its.2 ∙ sym (ap (rig_bones c) (rig_given k l)))

  pub bone_is_there : (t b : List ℕ) → Known (bones_named c t) b → has_bone s (object_named c t) (index_of (bones_named c t) b) ≡ true
  bone_is_there t b known =
      let its = object_bones (index_of c.objects t) b known in
      ap (λ bones. option_map_or (λ (bones : List RestBone). nat_lt (index_of (bones_named c t) b) (length bones)) bones false) its.1
      ∙ lt-ltb (index_of (bones_named c t) b) (length its.0) (omega (arith, known_below (bones_named c t) b known, length-map its.0 (λ (b : RestBone). b.name), ap length its.2))

  pub named_bone_is_there : (t b : List ℕ) → Known (bones_named c t) b → has_bone_named s (object_named c t) b ≡ true
  named_bone_is_there t b known =
      let its = object_bones (index_of c.objects t) b known in
      ap (λ bones. option_map_or (λ (bones : List RestBone). list_any (λ bone. same_text bone.name b) bones) bones false) its.1
      ∙ any_known (λ (b : RestBone). b.name) its.0 b (subst (λ names. Known names b) (sym its.2) known)

  -- an armature that is known is there, with as many bones as it has names of bones
  pub armature_is_there : (t : List ℕ) → Known c.armatures t
      → (a : ArmatureData) × (slice_get s.armatures (index_of c.armatures t) ≡ Some a) × (length a.bones ≡ length (bones_at c (index_of c.armatures t)))
  armature_is_there t known =
      let k : ℕ = index_of c.armatures t in
      let l : k < item_count (items_at m.Armatures d) = omega (arith, armatures_many, known_below c.armatures t known) in
      let a : ArmatureData = armature_given c k (item_at k (items_at m.Armatures d)) in
      (a, armature_at k l, sym (length-map a.bones (λ (b : RestBone). b.name)) ∙ ap length (armature_bones k l))

  -- ---- the layers of a pencil

  pencil_at : (k : ℕ) → k < item_count (items_at m.Pencils d) → slice_get s.pencils k ≡ Some (pencil_given c k (item_at k (items_at m.Pencils d)))
  pencil_at k l = ap (λ xs. slice_get xs k) scene.pencils ∙ nth_value_from (pencil_given c) (items_at m.Pencils d) k l

  pub pencil_is_there : (t : List ℕ) → Known c.pencils t → nat_lt (index_of c.pencils t) (length s.pencils) ≡ true
  pencil_is_there t known =
      lt-ltb (index_of c.pencils t) (length s.pencils)
      (omega (arith, known_below c.pencils t known, pencils_many, ap length scene.pencils, length_values_from (pencil_given c) 0 (items_at m.Pencils d)))

  layer_names_at : (k : ℕ) → k < item_count (items_at m.Pencils d) → unwrap_or (slice_get c.layers k) [] ≡ layer_names (item_at k (items_at m.Pencils d))
  layer_names_at k l = ap (λ layers. unwrap_or (slice_get layers k) []) names.layers ∙ ap (λ o. unwrap_or o []) (nth_value layer_names (items_at m.Pencils d) k l)

  layers_past : (k : ℕ) → item_count (items_at m.Pencils d) ≤ k → unwrap_or (slice_get c.layers k) [] ≡ []
  layers_past k l =
      ap (λ layers. unwrap_or (slice_get layers k) []) names.layers
      ∙ ap (λ o. unwrap_or o []) (slice_get_past (values layer_names (items_at m.Pencils d)) k (omega (arith, length_values layer_names (items_at m.Pencils d))))

  pub layer_is_there : (t b : List ℕ) (axis : Axis) → Known (layers_named c t) b → has_path s (anim.Pencil (index_of c.pencils t)) (paths.Layer b axis) ≡ true
  layer_is_there t b axis known = by (cases_lt (index_of c.pencils t) (item_count (items_at m.Pencils d)))
    where
      by : (index_of c.pencils t < item_count (items_at m.Pencils d)) ⊎ (item_count (items_at m.Pencils d) ≤ index_of c.pencils t) → has_path s (anim.Pencil (index_of c.pencils t)) (paths.Layer b axis) ≡ true
      by (inr past) = absurd (nothing_known b (subst (λ names. Known names b) (layers_past (index_of c.pencils t) past) known))
      by (inl l) =
          let k : ℕ = index_of c.pencils t in
          let x : Data = item_at k (items_at m.Pencils d) in
          let same : layers_named c t ≡ map (λ (l : Layer). l.name) (pencil_given c k x).layers =
          layer_names_at k l ∙ sym (map_values_from (λ (l : Layer). l.name) (layer_given c) 0 (items_at m.Layers x) ∙ values_from_values (text_at m.Name) 0 (items_at m.Layers x)) in
          ap (λ o. option_map_or (λ (p : PencilData). list_any (λ l. same_text l.name b) p.layers) o false) (pencil_at k l)
          ∙ any_known (λ (l : Layer). l.name) (pencil_given c k x).layers b (subst (λ names. Known names b) same known)

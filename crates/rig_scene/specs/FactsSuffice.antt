-- The facts of a scene are all that the test of it asks: what has them is a scene.
use Rattle.std.proofs.Common.{◌≡◌, ◌≢◌, ℕ, ◌+◌, ◌<◌, Bool, true, false, ◌&&◌, ◌||◌, List, [], ◌∷◌, ◌++◌, map, length, get_or, Option, Some, None, refl, sym, ap, ◌∙◌}
use Rattle.std.specs.Prelude.{◌==◌, IsTrue, IfSome, is_some, nat_lt, int_le, pos, option_and_then, option_map}
use Rattle.std.specs.List.{All, AllPairs, list_all, list_any, enumerate_from}
use Rattle.std.specs.Option.{option_map_or}
use Rattle.std.proofs.lemmas.Bool.{and_parts, and_from, lt-ltb, le-leb, eq-eqb, not_from_false, false_from_ne_true}
use Rattle.std.proofs.lemmas.List.Elements.{All-weaker, All-cons, All-head, All-tail, All-append, All-nil}
use Rattle.std.proofs.lemmas.List.Sums.{list_all-from_AllPass}
use Rattle.rig_scene.specs.declared.action.Action.{Action}
use Rattle.rig_scene.specs.declared.action.Curve.{Curve}
use Rattle.rig_scene.specs.declared.armature.ArmatureData.{ArmatureData}
use Rattle.rig_scene.specs.declared.armature.RestBone.{RestBone}
use Rattle.rig_scene.specs.declared.driver.Driver.{Driver}
use Rattle.rig_scene.specs.declared.id.ObjectId.{ObjectId}
use Rattle.rig_scene.specs.declared.modifier.Effect.{Effect}
use Rattle.rig_scene.specs.declared.modifier.Effect.TheVariants.{Offset, Mirror, Array}
use Rattle.rig_scene.specs.declared.modifier.Modifier.{Modifier}
use Rattle.rig_scene.specs.declared.object.Kind.{Kind}
use Rattle.rig_scene.specs.declared.object.Kind.TheVariants.{Empty, Armature, Pencil}
use Rattle.rig_scene.specs.declared.object.Object.{Object}
use Rattle.rig_scene.specs.declared.object.Parent.{Parent}
use Rattle.rig_scene.specs.declared.pencil.Layer.{Layer}
use Rattle.rig_scene.specs.declared.pencil.LayerKey.{LayerKey}
use Rattle.rig_scene.specs.declared.pencil.PencilData.{PencilData}
use Rattle.rig_scene.specs.Distinct.{are_new_after, are_distinct, are_rising}
use Rattle.rig_scene.specs.Facts.{CurveFacts, ActionFacts, ActionsFacts, ArmatureFacts, ArmaturesFacts, HasObject, HasBone, LayerFacts, PencilFacts, PencilsFacts, ParentFacts, EffectFacts, ObjectFacts, ObjectsFacts, DriverFacts, DriversFacts, SceneFacts}
use Rattle.rig_scene.specs.Id.{same_id}
use Rattle.rig_scene.specs.Parts.{three_from, four_from, five_from, six_from}
use Rattle.rig_scene.specs.Pairs.{AllPairs-head, AllPairs-tail, AllPairs-map, AllPairs-weaker}
use Rattle.rig_scene.specs.Path.{same_path}
use Rattle.rig_scene.specs.Same.{same_text-Decides, same_path-equal, same_id-equal}
use Rattle.rig_scene.specs.Scene.{SceneRecord, armature_of}
use Rattle.rig_scene.specs.Text.{same_text}
use Rattle.rig_scene.specs.WellFormed.{is_frame, is_below, are_keys, is_action, are_actions, are_bones_from, is_armature, are_armatures, is_drawing, are_layer_keys, is_pencil, are_pencils, has_object, bones_of, has_bone, is_bound, are_bound, is_parent, is_effect, is_kind, is_object, are_objects, same_target, is_driver, are_drivers, is_scene}

-- ---- options and lists

none_or : {A : Type 0} (p : A → Bool) (P : A → Type 0) → ((x : A) → P x → IsTrue (p x)) → (o : Option A) → IfSome o P → IsTrue (option_map_or p o true)
none_or p P h None is = refl
none_or p P h (Some x) is = h x is

below : (count : ℕ) (o : Option ℕ) → IfSome o (λ n. n < count) → IsTrue (is_below count o)
below count o is = none_or (λ n. nat_lt n count) (λ n. n < count) (λ n l. lt-ltb n count l) o is

each : {A : Type 0} (p : A → Bool) (P : A → Type 0) → ((x : A) → P x → IsTrue (p x)) → (xs : List A) → All P xs → IsTrue (list_all p xs)
each p P h xs is = list_all-from_AllPass p xs (All-weaker P (λ x. IsTrue (p x)) h xs is)

module _ {A : Type 0} (same : A → A → Bool) where
  none_same : (x : A) (xs : List A) → All (λ y. same x y ≡ false) xs → list_any (same x) xs ≡ false
  none_same x [] h = refl
  none_same x (y ∷ ys) h = or_false (same x y) (list_any (same x) ys) (All-head (λ y. same x y ≡ false) y ys h) (none_same x ys (All-tail (λ y. same x y ≡ false) y ys h))
    where
      or_false : (a b : Bool) → a ≡ false → b ≡ false → (a || b) ≡ false
      or_false a b e f = (λ i. e i || f i)

  new_after : (seen xs : List A) → All (λ x. All (λ y. same x y ≡ false) seen) xs → AllPairs (λ x y. same y x ≡ false) xs → IsTrue (are_new_after same seen xs)
  new_after seen [] old pairs = refl
  new_after seen (x ∷ xs) old pairs =
      and_from _ _ (not_from_false (list_any (same x) seen) (none_same x seen (All-head (λ x. All (λ y. same x y ≡ false) seen) x xs old)))
      (new_after (seen ++ x ∷ []) xs (later xs (All-tail (λ x. All (λ y. same x y ≡ false) seen) x xs old) (AllPairs-head (λ x y. same y x ≡ false) x xs pairs)) (AllPairs-tail (λ x y. same y x ≡ false) x xs pairs))
    where
      later : (ys : List A) → All (λ z. All (λ y. same z y ≡ false) seen) ys → All (λ z. same z x ≡ false) ys → All (λ z. All (λ y. same z y ≡ false) (seen ++ x ∷ [])) ys
      later ys h k = λ i d l. All-append (λ y. same (get_or ys i d) y ≡ false) seen (x ∷ []) (h i d l) (All-cons (λ y. same (get_or ys i d) y ≡ false) x [] (k i d l) (All-nil (λ y. same (get_or ys i d) y ≡ false)))

  distinct_from_pairs : (xs : List A) → AllPairs (λ x y. same y x ≡ false) xs → IsTrue (are_distinct same xs)
  distinct_from_pairs xs pairs = new_after [] xs (λ k d l. All-nil (λ y. same (get_or xs k d) y ≡ false)) pairs

-- names and paths that no two have are distinct by a test that takes equal ones alone for the same
distinct_by : {X A : Type 0} (same : A → A → Bool) (f : X → A) → ((x y : A) → same x y ≡ true → x ≡ y) → (xs : List X) → AllPairs (λ x y. f x ≢ f y) xs → IsTrue (are_distinct same (map f xs))
distinct_by same f equal xs pairs =
    distinct_from_pairs same (map f xs) (AllPairs-map (λ x y. same y x ≡ false) f xs
    (AllPairs-weaker (λ x y. f x ≢ f y) (λ x y. same (f y) (f x) ≡ false) (λ x y ne. false_from_ne_true (same (f y) (f x)) (λ e. ne (sym (equal (f y) (f x) e)))) xs pairs))

rising_from_pairs : {A : Type 0} (below : A → A → Bool) (xs : List A) → AllPairs (λ x y. IsTrue (below x y)) xs → IsTrue (are_rising below xs)
rising_from_pairs below [] pairs = refl
rising_from_pairs below (x ∷ []) pairs = refl
rising_from_pairs below (x ∷ y ∷ ys) pairs =
    and_from _ _ (All-head (λ z. IsTrue (below x z)) y ys (AllPairs-head (λ x y. IsTrue (below x y)) x (y ∷ ys) pairs))
    (rising_from_pairs below (y ∷ ys) (AllPairs-tail (λ x y. IsTrue (below x y)) x (y ∷ ys) pairs))

same_text-equal : (a b : List ℕ) → same_text a b ≡ true → a ≡ b
same_text-equal a b = (same_text-Decides a b).0

-- ---- actions

curve_is : (c : Curve) → CurveFacts c → IsTrue (are_keys c.keys)
curve_is c f = and_from _ _ (list_all-from_AllPass (λ k. is_frame k.frame) c.keys f.frames_in_range) f.frames_rise

action_is : (a : Action) → ActionFacts a → IsTrue (is_action a)
action_is a f = and_from _ _ (distinct_by same_path (λ (c : Curve). c.path) same_path-equal a.curves f.paths_distinct) (each (λ (c : Curve). are_keys c.keys) CurveFacts curve_is a.curves f.curves)

actions_are : (s : SceneRecord) → ActionsFacts s → IsTrue (are_actions s.actions)
actions_are s f =
    five_from _ _ _ _ _ (le-leb _ _ f.count) (le-leb _ _ f.curves) (le-leb _ _ f.keys)
    (distinct_by same_text (λ (a : Action). a.name) same_text-equal s.actions f.names_distinct)
    (each is_action ActionFacts action_is s.actions f.each)

-- ---- armatures

bones_are : (first : ℕ) (bones : List RestBone) → IsTrue (list_all (λ (index, bone). is_below index bone.parent) (enumerate_from first bones)) → All (λ b. IsTrue (int_le (pos 1) b.rest.scale)) bones → IsTrue (are_bones_from first bones)
bones_are first [] parents scales = refl
bones_are first (bone ∷ bones) parents scales =
    let parts = and_parts _ _ parents in
    three_from _ _ _ parts.0 (All-head (λ b. IsTrue (int_le (pos 1) b.rest.scale)) bone bones scales)
    (bones_are (first + 1) bones parts.1 (All-tail (λ b. IsTrue (int_le (pos 1) b.rest.scale)) bone bones scales))

armature_is : (a : ArmatureData) → ArmatureFacts a → IsTrue (is_armature a)
armature_is a f =
    three_from _ _ _ (le-leb _ _ f.count) (distinct_by same_text (λ (b : RestBone). b.name) same_text-equal a.bones f.names_distinct)
    (bones_are 0 a.bones f.earlier_parents f.scales)

armatures_are : (s : SceneRecord) → ArmaturesFacts s → IsTrue (are_armatures s.armatures)
armatures_are s f =
    three_from _ _ _ (le-leb _ _ f.count) (distinct_by same_text (λ (a : ArmatureData). a.name) same_text-equal s.armatures f.names_distinct)
    (each is_armature ArmatureFacts armature_is s.armatures f.each)

-- ---- what names an object, or a bone of one

object_has : (s : SceneRecord) (id : ObjectId) → HasObject s id → IsTrue (has_object s id)
object_has s id h = ap is_some h.is_object

bone_has : (s : SceneRecord) (id : ObjectId) (bone : ℕ) → HasBone s id bone → IsTrue (has_bone s id bone)
bone_has s id bone h =
    let bones : bones_of s id ≡ Some h.armature.bones =
    ap (option_and_then (λ (o : Object). option_map (λ (a : ArmatureData). a.bones) (armature_of s o.kind))) h.is_object
    ∙ ap (λ k. option_map (λ (a : ArmatureData). a.bones) (armature_of s k)) h.is_kind
    ∙ ap (option_map (λ (a : ArmatureData). a.bones)) h.is_armature in
    ap (λ bones. option_map_or (λ bones. nat_lt bone (length bones)) bones false) bones ∙ lt-ltb _ _ h.bone_is_there

-- ---- pencils

layer_is : (s : SceneRecord) (p : PencilData) (l : Layer) → LayerFacts s p l → IsTrue (are_layer_keys (length p.drawings) l.keys)
layer_is s p l f =
    and_from _ _ (list_all-from_AllPass (λ (k : LayerKey). is_frame k.frame && nat_lt k.drawing (length p.drawings)) l.keys (λ i d h. and_from _ _ (f.frames_in_range i d h) (lt-ltb _ _ (f.drawings_are_there i d h)))) f.frames_rise

bound_is : (s : SceneRecord) (p : PencilData) (l : Layer) → LayerFacts s p l → IsTrue (is_bound s l.bound)
bound_is s p l f = none_or (λ b. has_bone s b.object b.bone) (λ b. HasBone s b.object b.bone) (λ b h. bone_has s b.object b.bone h) l.bound f.bound_bone_is_there

pencil_is : (s : SceneRecord) (p : PencilData) → PencilFacts s p → IsTrue (is_pencil (length s.actions) p)
pencil_is s p f =
    five_from _ _ _ _ _ (below (length s.actions) p.action f.action_is_there)
    (each is_drawing (λ d. All (λ k. 0 < length k.points) d.strokes) (λ d h. each (λ k. nat_lt 0 (length k.points)) (λ k. 0 < length k.points) (λ k l. lt-ltb _ _ l) d.strokes h) p.drawings f.strokes_have_points)
    (le-leb _ _ f.count) (distinct_by same_text (λ (l : Layer). l.name) same_text-equal p.layers f.names_distinct)
    (each (λ (l : Layer). are_layer_keys (length p.drawings) l.keys) (LayerFacts s p) (layer_is s p) p.layers f.layers)

pencils_are : (s : SceneRecord) → PencilsFacts s → IsTrue (are_pencils (length s.actions) s.pencils)
pencils_are s f =
    six_from _ _ _ _ _ _ (le-leb _ _ f.count) (le-leb _ _ f.drawings) (le-leb _ _ f.points) (le-leb _ _ f.layer_keys)
    (distinct_by same_text (λ (p : PencilData). p.name) same_text-equal s.pencils f.names_distinct)
    (each (is_pencil (length s.actions)) (PencilFacts s) (pencil_is s) s.pencils f.each)

all_bound : (s : SceneRecord) → PencilsFacts s → IsTrue (are_bound s)
all_bound s f = each (λ (p : PencilData). list_all (λ l. is_bound s l.bound) p.layers) (PencilFacts s) (λ p g. each (λ (l : Layer). is_bound s l.bound) (LayerFacts s p) (bound_is s p) p.layers g.layers) s.pencils f.each

-- ---- objects

parent_is : (s : SceneRecord) (parent : Parent) → ParentFacts s parent → IsTrue (is_parent s parent)
parent_is s parent f = and_from _ _ (object_has s parent.object f.object_is_there) (none_or (has_bone s parent.object) (HasBone s parent.object) (bone_has s parent.object) parent.bone f.bone_is_there)

effect_is : (s : SceneRecord) (e : Effect) → EffectFacts s e → IsTrue (is_effect s e)
effect_is s (Offset loc scale) f = refl
effect_is s (Mirror mirror) f = none_or (has_object s) (HasObject s) (object_has s) mirror.centre f
effect_is s (Array count offset) f = and_from _ _ (le-leb _ _ f.0) (le-leb _ _ f.1)

kind_is : (s : SceneRecord) (o : Object) → ObjectFacts s o → (k : Kind) → o.kind ≡ k → IsTrue (is_kind s k)
kind_is s o f Empty e = refl
kind_is s o f (Armature index pose) e =
    let g = f.armature index pose e in
    ap (λ a. option_map_or (λ (a : ArmatureData). length pose == length a.bones) a false) g.is_armature ∙ eq-eqb _ _ g.poses
kind_is s o f (Pencil index modifiers) e =
    let g = f.pencil index modifiers e in
    four_from _ _ _ _ (lt-ltb _ _ g.pencil_is_there) (le-leb _ _ g.count)
    (distinct_by same_text (λ (m : Modifier). m.name) same_text-equal modifiers g.names_distinct)
    (each (λ (m : Modifier). is_effect s m.effect) (λ m. EffectFacts s m.effect) (λ m h. effect_is s m.effect h) modifiers g.effects)

object_is : (s : SceneRecord) (o : Object) → ObjectFacts s o → IsTrue (is_object s o)
object_is s o f =
    four_from _ _ _ _ (lt-ltb _ _ f.id_below_next) (below (length s.actions) o.action f.action_is_there)
    (none_or (is_parent s) (ParentFacts s) (parent_is s) o.parent f.parent_is_there) (kind_is s o f o.kind refl)

objects_are : (s : SceneRecord) → ObjectsFacts s → IsTrue (are_objects s)
objects_are s f =
    six_from _ _ _ _ _ _ (le-leb _ _ f.count) (le-leb _ _ f.pencil_objects) (le-leb _ _ f.pose_bones)
    (distinct_by same_text (λ (o : Object). o.name) same_text-equal s.objects f.names_distinct)
    (rising_from_pairs (λ (o p : Object). nat_lt o.id.0 p.id.0) s.objects (AllPairs-weaker (λ o p. o.id.0 < p.id.0) (λ o p. IsTrue (nat_lt o.id.0 p.id.0)) (λ o p l. lt-ltb _ _ l) s.objects f.ids_rise))
    (each (is_object s) (ObjectFacts s) (object_is s) s.objects f.each)

-- ---- drivers

driver_is : (s : SceneRecord) (d : Driver) → DriverFacts s d → IsTrue (is_driver s d)
driver_is s d f = four_from _ _ _ _ f.path_is_there (le-leb _ _ f.has_variables) (le-leb _ _ f.count) (list_all-from_AllPass _ d.variables f.variables_are_there)

other_target : (d e : Driver) → ((d.id ≡ e.id) × (d.path ≡ e.path) → ⊥) → same_target e d ≡ false
other_target d e differ =
    false_from_ne_true (same_target e d) (λ is. let parts = and_parts (same_id e.id d.id) (same_path e.path d.path) is in differ (sym (same_id-equal e.id d.id parts.0), sym (same_path-equal e.path d.path parts.1)))

drivers_are : (s : SceneRecord) → DriversFacts s → IsTrue (are_drivers s)
drivers_are s f =
    three_from _ _ _ (le-leb _ _ f.count)
    (distinct_from_pairs same_target s.drivers (AllPairs-weaker (λ d e. ¬ ((d.id ≡ e.id) × (d.path ≡ e.path))) (λ d e. same_target e d ≡ false) other_target s.drivers f.targets_distinct))
    (each (is_driver s) (DriverFacts s) (driver_is s) s.drivers f.each)

-- ---- the whole

pub scene_from_facts : (s : SceneRecord) → SceneFacts s → IsTrue (is_scene s)
unfolding is_scene
scene_from_facts s f =
    six_from _ _ _ _ _ _ (actions_are s f.actions) (armatures_are s f.armatures) (pencils_are s f.pencils) (all_bound s f.pencils)
    (objects_are s f.objects) (drivers_are s f.drivers)

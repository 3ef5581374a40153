-- An object that is removed, with its own drivers, leaves a scene: nothing else refers to it.
use Rattle.std.proofs.Common.{◌≡◌, ◌≢◌, ℕ, ◌<◌, Bool, true, false, not, ◌&&◌, ◌||◌, List, filter, Option, Some, None, refl, sym, ap, ◌∙◌, subst, le_trans, arith}
use Rattle.std.specs.Prelude.{IfSome, IsTrue}
use Rattle.std.specs.List.{list_any}
use Rattle.std.specs.Option.{option_map_or}
use Rattle.std.proofs.lemmas.Bool.{or_parts, not-true, not_from_false, false_from_ne_true, false≢true}
use Rattle.std.proofs.lemmas.List.Elements.{All-weaker}
use Rattle.rig_scene.specs.declared.driver.Driver.{Driver}
use Rattle.rig_scene.specs.declared.driver.Variable.{Variable}
use Rattle.rig_scene.specs.declared.driver.Variable.TheVariants as variable
use Rattle.rig_scene.specs.declared.id.AnimId.{AnimId}
use Rattle.rig_scene.specs.declared.id.AnimId.TheVariants as anim
use Rattle.rig_scene.specs.declared.id.ObjectId.{ObjectId}
use Rattle.rig_scene.specs.declared.modifier.Effect.{Effect}
use Rattle.rig_scene.specs.declared.modifier.Effect.TheVariants as effect
use Rattle.rig_scene.specs.declared.modifier.Modifier.{Modifier}
use Rattle.rig_scene.specs.declared.object.Object.{Object}
use Rattle.rig_scene.specs.declared.object.Parent.{Parent}
use Rattle.rig_scene.specs.declared.pencil.BoneRef.{BoneRef}
use Rattle.rig_scene.specs.declared.pencil.Layer.{Layer}
use Rattle.rig_scene.specs.declared.pencil.PencilData.{PencilData}
use Rattle.rig_scene.specs.Facts.{ObjectFacts, DriverFacts, SceneFacts}
use Rattle.rig_scene.specs.FactsHold.{scene_facts}
use Rattle.rig_scene.specs.FactsSuffice.{scene_from_facts}
use Rattle.rig_scene.specs.Id.{same_object, same_id}
use Rattle.rig_scene.specs.Pairs.{AllPairs-filter}
use Rattle.rig_scene.specs.Same.{same_object-equal, same_object-itself}
use Rattle.rig_scene.specs.Scene.{SceneRecord, object_of}
use Rattle.rig_scene.specs.WellFormed.{is_pencil_kind, pose_count, is_scene}
use Rattle.rig_edits.specs.declared.edit.Edit.TheVariants.{RemoveObject}
use Rattle.rig_edits.specs.Named.{object_named, modifiers_of}
use Rattle.rig_edits.specs.Conditions.{is_centre_of, is_read_by, is_used_by_object, is_used_by_driver, is_in_use, first_cause}
use Rattle.rig_edits.specs.Edited.{without_object, edited}
use Rattle.rig_edits.specs.Accepted.{accepted}
use Rattle.rig_edits.specs.Carried.{EffectStays, LayersStay, ObjectStays, IdStays, VariableStays, object, driver, scene}
use Rattle.rig_edits.specs.Lists.{some_of, none_passes, find_kept, All-both, All-kept, filter_shorter, sum_kept, count_kept}

-- ---- tests

-- where no value passes a test
if_fails : {A : Type 0} (test : A → Bool) (P : A → Type 0) → ((x : A) → test x ≡ false → P x) → (o : Option A)
    → option_map_or test o false ≡ false → IfSome o P
if_fails test P h None e = tt
if_fails test P h (Some x) e = h x e

-- of a test in two parts of which the first holds, the second fails
second_fails : (a b : Bool) → a ≡ true → (a && b) ≡ false → b ≡ false
second_fails true b e f = f
second_fails false b e f = absurd (false≢true e)

module _ (s : SceneRecord) (facts : SceneFacts s) (id : ObjectId) where
  -- ---- what refers to another object alone

  -- another object than the one that is removed
  abbrev Other : ObjectId → Type 0
  Other o = o ≢ id

  -- tests of what refers to it
  abbrev is_bound_to : Layer → Bool
  is_bound_to l = option_map_or (λ (b : BoneRef). same_object id b.object) l.bound false

  abbrev has_bound_layer : PencilData → Bool
  has_bound_layer p = list_any is_bound_to p.layers

  abbrev is_parent_of : Object → Bool
  is_parent_of o = option_map_or (λ (p : Parent). same_object id p.object) o.parent false

  abbrev is_centre_for : Modifier → Bool
  is_centre_for m = is_centre_of id m.effect

  -- what isn't the same by a test is another
  is_other : (o : ObjectId) → same_object id o ≡ false → Other o
  is_other o differs same = false≢true (sym differs ∙ ap (same_object id) same ∙ same_object-itself id)

  -- an id that isn't the same
  other_id : (a : AnimId) → same_id (anim.Object id) a ≡ false → IdStays Other a
  other_id (anim.Object o) differs = is_other o differs
  other_id (anim.Pencil p) differs = tt

  -- an effect whose centre it isn't
  other_effect : (e : Effect) → is_centre_of id e ≡ false → EffectStays Other e
  other_effect (effect.Offset loc scale) differs = tt
  other_effect (effect.Mirror mirror) differs = if_fails (same_object id) Other is_other mirror.centre differs
  other_effect (effect.Array count offset) differs = tt

  -- a variable that doesn't read it
  other_variable : (v : Variable) → is_read_by id v ≡ false → VariableStays Other v
  other_variable (variable.Property a path) differs = other_id a differs
  other_variable (variable.Transform o space channel) differs = is_other o differs

  -- a pencil of which no layer is bound to it
  other_layers : (p : PencilData) → has_bound_layer p ≡ false → LayersStay Other p
  other_layers p unbound =
      All-weaker (λ l. is_bound_to l ≡ false) (λ l. IfSome l.bound (λ b. Other b.object))
      (λ l e. if_fails (λ (b : BoneRef). same_object id b.object) (λ b. Other b.object) (λ b. is_other b.object) l.bound e) p.layers
      (none_passes is_bound_to p.layers unbound)

  -- an object that doesn't use it
  other_object : (o : Object) → Other o.id → is_used_by_object id o ≡ false → ObjectStays Other o
  other_object o differs unused =
      let different : not (same_object id o.id) ≡ true =
      not_from_false _ (false_from_ne_true _ (λ e. differs (sym (same_object-equal id o.id e)))) in
      let parts = or_parts (is_parent_of o) (list_any is_centre_for (modifiers_of o.kind)) (second_fails _ _ different unused) in
      record {
        parent = if_fails (λ (p : Parent). same_object id p.object) (λ p. Other p.object) (λ p. is_other p.object) o.parent parts.0;
        effects = All-weaker (λ m. is_centre_for m ≡ false) (λ m. EffectStays Other m.effect) (λ m. other_effect m.effect) (modifiers_of o.kind)
            (none_passes is_centre_for (modifiers_of o.kind) parts.1);
      }

  -- ---- what is kept

  -- which objects and drivers are kept
  abbrev keeps_object : Object → Bool
  keeps_object o = not (same_object o.id id)

  abbrev keeps_driver : Driver → Bool
  keeps_driver d = not (same_id d.id (anim.Object id))

  -- an object that is kept is another
  kept_object : (o : Object) → keeps_object o ≡ true → Other o.id
  kept_object o kept same = false≢true (sym (not-true (same_object o.id id) kept) ∙ ap (λ i. same_object i id) same ∙ same_object-itself id)

  -- a driver that is kept is of another id
  kept_driver : (d : Driver) → keeps_driver d ≡ true → same_id (anim.Object id) d.id ≡ false
  kept_driver d kept = by d.id (not-true (same_id d.id (anim.Object id)) kept)
    where
      by : (a : AnimId) → same_id a (anim.Object id) ≡ false → same_id (anim.Object id) a ≡ false
      by (anim.Object o) differs =
          false_from_ne_true (same_object id o)
          (λ e. false≢true (sym differs ∙ ap (same_object o) (same_object-equal id o e) ∙ same_object-itself o))
      by (anim.Pencil p) differs = refl

  -- ---- the scene without the object

  -- another object is found by its id
  found_still : (o : ObjectId) (p : Object) → Other o → object_of s o ≡ Some p → object_of (without_object s id) o ≡ Some p
  found_still o p differs e = find_kept (λ (q : Object). same_object q.id o) keeps_object still s.objects ∙ e
    where
      still : (q : Object) → same_object q.id o ≡ true → keeps_object q ≡ true
      still q is =
          not_from_false (same_object q.id id)
          (false_from_ne_true (same_object q.id id) (λ e. differs (sym (same_object-equal q.id o is) ∙ same_object-equal q.id id e)))

  -- an object that is kept keeps its conditions
  carried_object : (o : Object) → is_used_by_object id o ≡ false → ObjectFacts s o → keeps_object o ≡ true → ObjectFacts (without_object s id) o
  carried_object o unused f kept =
      object s (filter keeps_object s.objects) (filter keeps_driver s.drivers) s.next Other found_still (omega arith) o
      (other_object o (kept_object o kept) unused) f

  -- a driver that is kept keeps its conditions
  carried_driver : (d : Driver) → is_used_by_driver id d ≡ false → DriverFacts s d → keeps_driver d ≡ true → DriverFacts (without_object s id) d
  carried_driver d unused f kept =
      let differs : same_id (anim.Object id) d.id ≡ false = kept_driver d kept in
      let unread : list_any (is_read_by id) d.variables ≡ false = second_fails _ _ (not_from_false _ differs) unused in
      driver s (filter keeps_object s.objects) (filter keeps_driver s.drivers) s.next Other found_still (omega arith) d (other_id d.id differs)
      (All-weaker (λ v. is_read_by id v ≡ false) (VariableStays Other) other_variable d.variables
      (none_passes (is_read_by id) d.variables unread)) f

  -- a scene without an object that isn't in use is a scene
  without_unused : is_in_use s id ≡ false → IsTrue (is_scene (without_object s id))
  without_unused unused =
      let last = or_parts (list_any (is_used_by_object id) s.objects || list_any has_bound_layer s.pencils)
      (list_any (is_used_by_driver id) s.drivers) unused in
      let front = or_parts (list_any (is_used_by_object id) s.objects) (list_any has_bound_layer s.pencils) last.0 in
      scene_from_facts (without_object s id)
      (scene s (filter keeps_object s.objects) (filter keeps_driver s.drivers) s.next Other found_still (omega arith) facts
      (All-weaker (λ p. has_bound_layer p ≡ false) (LayersStay Other) other_layers s.pencils (none_passes has_bound_layer s.pencils front.1))
      (record {
        count = le_trans (filter_shorter keeps_object s.objects) facts.objects.count;
        pencil_objects = le_trans (count_kept (λ (o : Object). is_pencil_kind o.kind) keeps_object s.objects) facts.objects.pencil_objects;
        pose_bones = le_trans (sum_kept (λ (o : Object). pose_count o.kind) keeps_object s.objects) facts.objects.pose_bones;
        names_distinct = AllPairs-filter (λ (o p : Object). o.name ≢ p.name) keeps_object s.objects facts.objects.names_distinct;
        ids_rise = AllPairs-filter (λ (o p : Object). o.id.0 < p.id.0) keeps_object s.objects facts.objects.ids_rise;
        each = All-kept keeps_object (ObjectFacts (without_object s id)) s.objects
            (All-both (λ o. is_used_by_object id o ≡ false) (ObjectFacts s) (λ o. keeps_object o ≡ true → ObjectFacts (without_object s id) o)
            carried_object s.objects (none_passes (is_used_by_object id) s.objects front.0) facts.objects.each);
      })
      (record {
        count = le_trans (filter_shorter keeps_driver s.drivers) facts.drivers.count;
        targets_distinct = AllPairs-filter (λ (d e : Driver). ¬ ((d.id ≡ e.id) × (d.path ≡ e.path))) keeps_driver s.drivers
            facts.drivers.targets_distinct;
        each = All-kept keeps_driver (DriverFacts (without_object s id)) s.drivers
            (All-both (λ d. is_used_by_driver id d ≡ false) (DriverFacts s) (λ d. keeps_driver d ≡ true → DriverFacts (without_object s id) d)
            carried_driver s.drivers (none_passes (is_used_by_driver id) s.drivers last.1) facts.drivers.each);
      }))

-- an object that is removed leaves a scene
pub keeps_remove_object : (s : SceneRecord) (name : List ℕ)
    → IsTrue (is_scene s) → first_cause s (RemoveObject name) ≡ None → IsTrue (is_scene (edited s (RemoveObject name)))
keeps_remove_object s name is none =
    let ok = accepted s (RemoveObject name) none in
    let o = some_of (object_named s name) ok.id_is_known in
    let unused : is_in_use s o.0.id ≡ false = sym (ap (λ r. option_map_or (λ (o : Object). is_in_use s o.id) r false) o.1) ∙ ok.is_unused in
    subst (λ r. IsTrue (is_scene (option_map_or (λ (o : Object). without_object s o.id) r s))) (sym o.1)
    (without_unused s (scene_facts s is) o.0.id unused)

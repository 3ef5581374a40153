-- An object that is added leaves a scene.
use Rattle.std.proofs.Common.{◌≡◌, ◌≢◌, ℕ, ◌+◌, ◌<◌, ◌≤◌, Bool, true, false, cond, List, [], ◌∷◌, ◌++◌, length, filter, replicate, Option, Some, None, refl, sym, ap, ◌∙◌, subst, arith}
use Rattle.std.specs.Prelude.{IfSome, IsTrue, nat_lt, slice_get, option_map, sum_by, ⊤}
use Rattle.std.specs.List.{All, find, position, position_or_len}
use Rattle.std.specs.Option.{option_or, option_map_or}
use Rattle.std.proofs.lemmas.Bool.{not-false, false≢true}
use Rattle.std.proofs.lemmas.List.{length-append, length-replicate}
use Rattle.std.proofs.lemmas.List.Elements.{All-nil, All-push, All-weaker, filter-append}
use Rattle.std.proofs.lemmas.List.Folds.{find_at, find-append}
use Rattle.std.proofs.lemmas.List.Quantifiers.{all_pairs_push}
use Rattle.std.proofs.lemmas.List.Sums.{sum_by_push}
use Rattle.std.proofs.lemmas.Option.{cond_some}
use Rattle.rig_scene.specs.declared.armature.ArmatureData.{ArmatureData}
use Rattle.rig_scene.specs.declared.id.ObjectId.{ObjectId}
use Rattle.rig_scene.specs.declared.limits.TheConstants.{MAX_OBJECTS, MAX_PENCIL_OBJECTS, MAX_POSE_BONES}
use Rattle.rig_scene.specs.declared.modifier.Modifier.{Modifier}
use Rattle.rig_scene.specs.declared.object.Kind.{Kind}
use Rattle.rig_scene.specs.declared.object.Kind.TheVariants.{Empty, Armature, Pencil}
use Rattle.rig_scene.specs.declared.object.Object.{Object}
use Rattle.rig_scene.specs.declared.pencil.PencilData.{PencilData}
use Rattle.rig_scene.specs.Facts.{ParentFacts, ArmatureKindFacts, PencilKindFacts, EffectFacts, ObjectFacts, DriverFacts, SceneFacts}
use Rattle.rig_scene.specs.FactsHold.{scene_facts}
use Rattle.rig_scene.specs.FactsSuffice.{scene_from_facts}
use Rattle.rig_scene.specs.Found.{some_slice_get}
use Rattle.rig_scene.specs.Id.{same_object}
use Rattle.rig_scene.specs.Pairs.{AllPairs-nil}
use Rattle.rig_scene.specs.Same.{same_text-itself}
use Rattle.rig_scene.specs.Scene.{SceneRecord, object_of}
use Rattle.rig_scene.specs.Text.{same_text}
use Rattle.rig_scene.specs.WellFormed.{is_pencil_kind, pose_count, is_scene}
use Rattle.rig_edits.specs.declared.edit.Edit.TheVariants.{AddObject}
use Rattle.rig_edits.specs.declared.edit.NewKind.{NewKind}
use Rattle.rig_edits.specs.declared.edit.NewKind.TheVariants as new
use Rattle.rig_edits.specs.declared.cause.EditCause.{EditCause}
use Rattle.rig_edits.specs.Named.{object_named, armature_index, pencil_index}
use Rattle.rig_edits.specs.Conditions.{lacks_data, new_bones, pencil_object_count, pose_bone_count, full_at, full_of_kind, first_cause}
use Rattle.rig_edits.specs.Edited.{at_rest, kind_of, new_object, edited}
use Rattle.rig_edits.specs.Accepted.{accepted, room_for}
use Rattle.rig_edits.specs.Carried.{with_others, object, scene, object_stays, layers_stay, driver_stays}
use Rattle.rig_edits.specs.Lists.{some_of, none_of, none_found, position_within}

-- ---- a list with one more element

-- what is found among some is found among more
found_more : {A : Type 0} (p : A → Bool) (xs ys : List A) (x : A) → find p xs ≡ Some x → find p (xs ++ ys) ≡ Some x
found_more p xs ys x e = find-append p xs ys ∙ ap (λ r. option_or r (find p ys)) e

-- the index of the first that passes is that of what is found
found_at : {A : Type 0} (p : A → Bool) (xs : List A) (i : ℕ) → position p xs ≡ Some i → slice_get xs i ≡ find p xs
found_at p xs i e =
    ap (slice_get xs) (sym (cond_some (nat_lt (position_or_len p xs) (length xs)) (position_or_len p xs) i e).1) ∙ sym (find_at p xs)

-- ---- a kind that is new

-- the conditions on an object's kind
abbrev KindFacts : SceneRecord → Kind → Type 0
KindFacts s Empty = ⊤
KindFacts s (Armature index pose) = ArmatureKindFacts s index pose
KindFacts s (Pencil index modifiers) = PencilKindFacts s index modifiers

-- a kind meets its conditions with whatever objects, and there is room for an object of it
record NewKindFacts (s : SceneRecord) (k : Kind) : Type 0 where
  pub is_kind : (objects : List Object) (next : ℕ) → KindFacts (with_others s objects s.drivers next) k
  -- how many pencil objects there are
  pub pencil_objects : length (filter (λ o. is_pencil_kind o.kind) s.objects) + cond (is_pencil_kind k) 1 0 ≤ MAX_PENCIL_OBJECTS
  pub pose_bones : sum_by (λ o. pose_count o.kind) s.objects + pose_count k ≤ MAX_POSE_BONES

module _ (s : SceneRecord) (facts : SceneFacts s) where
  -- a count stays within its limit where nothing is added
  no_more : (count limit : ℕ) → count ≤ limit → count + 0 ≤ limit
  no_more count limit l = omega arith

  -- the armature of a name, with the bones of a new object of it
  armature_of_name : (name : List ℕ) (i : ℕ) → armature_index s name ≡ Some i
      → (a : ArmatureData) × (slice_get s.armatures i ≡ Some a) × (new_bones s (new.Armature name) ≡ length a.bones)
  armature_of_name name i e =
      let a = some_slice_get s.armatures i (position_within (λ (a : ArmatureData). same_text a.name name) s.armatures i e) in
      let found : find (λ (a : ArmatureData). same_text a.name name) s.armatures ≡ Some a.0 =
      sym (found_at (λ (a : ArmatureData). same_text a.name name) s.armatures i e) ∙ a.1 in
      (a.0, a.1, ap (λ r. option_map_or (λ (a : ArmatureData). length a.bones) r 0) found)

  -- the kind of a new object, where its data is known and there is room for it
  new_kind : (kind : NewKind) → lacks_data s kind ≡ false → full_of_kind s kind ≡ None
      → (k : Kind) × (kind_of s kind ≡ Some k) × NewKindFacts s k
  new_kind new.Empty known room = (
    Empty,
    refl,
    record {
      is_kind = λ objects next. tt;
      pencil_objects = no_more _ _ facts.objects.pencil_objects;
      pose_bones = no_more _ _ facts.objects.pose_bones;
    },
  )
  new_kind (new.Armature name) known room =
      let i = some_of (armature_index s name) known in
      let bones : ℕ = new_bones s (new.Armature name) in
      let space : pose_bone_count s + bones ≤ MAX_POSE_BONES = room_for (pose_bone_count s) bones MAX_POSE_BONES room in
      let long : length (replicate bones at_rest) ≡ bones = length-replicate bones at_rest in
      let a = armature_of_name name i.0 i.1 in (
        Armature i.0 (replicate bones at_rest),
        ap (option_map (λ index. Armature index (replicate bones at_rest))) i.1,
        record {
          is_kind = λ objects next. record { armature = a.0; is_armature = a.1; poses = long ∙ a.2 };
          pencil_objects = no_more _ _ facts.objects.pencil_objects;
          pose_bones = subst (λ n. pose_bone_count s + n ≤ MAX_POSE_BONES) (sym long) space;
        },
      )
  new_kind (new.Pencil name) known room =
      let i = some_of (pencil_index s name) known in (
        Pencil i.0 [],
        ap (option_map (λ index. Pencil index [])) i.1,
        record {
          is_kind = λ objects next. record {
            pencil_is_there = position_within (λ (p : PencilData). same_text p.name name) s.pencils i.0 i.1;
            count = omega arith;
            names_distinct = AllPairs-nil (λ (m n : Modifier). m.name ≢ n.name);
            effects = All-nil (λ (m : Modifier). EffectFacts (with_others s objects s.drivers next) m.effect);
          };
          pencil_objects = room_for (pencil_object_count s) 1 MAX_PENCIL_OBJECTS room;
          pose_bones = no_more _ _ facts.objects.pose_bones;
        },
      )

-- ---- the scene with one more object

-- where there is room for an object of a kind, there is room for both
both_rooms : (s : SceneRecord) (kind : NewKind) (r : Option EditCause) → full_at (length s.objects) 1 MAX_OBJECTS ≡ r
    → option_or r (full_of_kind s kind) ≡ None → (full_at (length s.objects) 1 MAX_OBJECTS ≡ None) × (full_of_kind s kind ≡ None)
both_rooms s kind None e room = (e, room)
both_rooms s kind (Some cause) e room = cc

-- how many pencil objects there are with one more
pencil_objects_with : (o : Object) (b : Bool) → length (cond b (o ∷ []) []) ≡ cond b 1 0
pencil_objects_with o true = refl
pencil_objects_with o false = refl

module _ (s : SceneRecord) (facts : SceneFacts s) (o : Object) (id : o.id.0 ≡ s.next) (action : o.action ≡ None) (no_parent : o.parent ≡ None)
    (room : length s.objects + 1 ≤ MAX_OBJECTS) (is_new : All (λ p. p.name ≢ o.name) s.objects)
    (kind : NewKindFacts s o.kind) where
  -- the scene with it
  abbrev more : SceneRecord
  more = with_others s (s.objects ++ o ∷ []) s.drivers (s.next + 1)

  -- each object is still found by its id
  found_still : (id : ObjectId) (p : Object) → ⊤ → object_of s id ≡ Some p → object_of more id ≡ Some p
  found_still id p stays e = found_more (λ (o : Object). same_object o.id id) s.objects (o ∷ []) p e

  -- the others keep their conditions
  old_object : (p : Object) → ObjectFacts s p → ObjectFacts more p
  old_object p f =
      object s (s.objects ++ o ∷ []) s.drivers (s.next + 1) (λ _. ⊤) found_still (omega arith) p (object_stays (λ _. ⊤) (λ _. tt) p) f

  -- the new object meets its own
  added_object : ObjectFacts more o
  added_object = record {
    id_below_next = omega arith;
    action_is_there = subst (λ r. IfSome r (λ n. n < length s.actions)) (sym action) tt;
    parent_is_there = subst (λ r. IfSome r (ParentFacts more)) (sym no_parent) tt;
    armature = λ index pose e. subst (KindFacts more) e (kind.is_kind (s.objects ++ o ∷ []) (s.next + 1));
    pencil = λ index modifiers e. subst (KindFacts more) e (kind.is_kind (s.objects ++ o ∷ []) (s.next + 1));
  }

  pencil_objects : length (filter (λ o. is_pencil_kind o.kind) (s.objects ++ o ∷ []))
      ≡ length (filter (λ o. is_pencil_kind o.kind) s.objects) + cond (is_pencil_kind o.kind) 1 0
  pencil_objects =
      ap length (filter-append (λ (o : Object). is_pencil_kind o.kind) s.objects (o ∷ []))
      ∙ length-append (filter (λ (o : Object). is_pencil_kind o.kind) s.objects) (filter (λ (o : Object). is_pencil_kind o.kind) (o ∷ []))
      ∙ ap (λ n. length (filter (λ (o : Object). is_pencil_kind o.kind) s.objects) + n) (pencil_objects_with o (is_pencil_kind o.kind))

  -- the new id is above all others
  below_new : (p : Object) → ObjectFacts s p → p.id.0 < o.id.0
  below_new p f = let l = f.id_below_next in omega arith

  -- the scene with the new object is a scene
  with_added : IsTrue (is_scene (record s { objects = s.objects ++ o ∷ []; next = s.next + 1 }))
  with_added =
      scene_from_facts (record s { objects = s.objects ++ o ∷ []; next = s.next + 1 })
      (scene s (s.objects ++ o ∷ []) s.drivers (s.next + 1) (λ _. ⊤) found_still (omega arith) facts (layers_stay (λ _. ⊤) (λ _. tt) s.pencils)
      (record {
        count = subst (λ n. n ≤ MAX_OBJECTS) (sym (length-append s.objects (o ∷ []))) room;
        pencil_objects = subst (λ n. n ≤ MAX_PENCIL_OBJECTS) (sym pencil_objects) kind.pencil_objects;
        pose_bones = subst (λ n. n ≤ MAX_POSE_BONES) (sym (sum_by_push (λ (o : Object). pose_count o.kind) s.objects o)) kind.pose_bones;
        names_distinct = all_pairs_push (λ (o p : Object). o.name ≢ p.name) s.objects o facts.objects.names_distinct is_new;
        ids_rise = all_pairs_push (λ (o p : Object). o.id.0 < p.id.0) s.objects o facts.objects.ids_rise
            (All-weaker (ObjectFacts s) (λ p. p.id.0 < o.id.0) below_new s.objects facts.objects.each);
        each = All-push (ObjectFacts more) s.objects o
            (All-weaker (ObjectFacts s) (ObjectFacts more) old_object s.objects facts.objects.each) added_object;
      })
      (record {
        count = facts.drivers.count;
        targets_distinct = facts.drivers.targets_distinct;
        each = All-weaker (DriverFacts s) (DriverFacts more)
            (driver_stays (λ _. ⊤) (λ _. tt) s (s.objects ++ o ∷ []) s.drivers (s.next + 1) found_still (omega arith)) s.drivers
            facts.drivers.each;
      }))

-- ---- the edit

-- no object has a name that finds none
no_object_named : (s : SceneRecord) (name : List ℕ) → object_named s name ≡ None → All (λ (p : Object). p.name ≢ name) s.objects
no_object_named s name none =
    All-weaker (λ (p : Object). same_text p.name name ≡ false) (λ p. p.name ≢ name)
    (λ p differs same. false≢true (sym differs ∙ ap (λ n. same_text n name) same ∙ same_text-itself name)) s.objects
    (none_found (λ (p : Object). same_text p.name name) s.objects none)

-- an object that is added leaves a scene
pub keeps_add_object : (s : SceneRecord) (name : List ℕ) (kind : NewKind)
    → IsTrue (is_scene s) → first_cause s (AddObject name kind) ≡ None → IsTrue (is_scene (edited s (AddObject name kind)))
keeps_add_object s name kind is none =
    let facts = scene_facts s is in
    let ok = accepted s (AddObject name kind) none in
    let rooms = both_rooms s kind (full_at (length s.objects) 1 MAX_OBJECTS) refl ok.has_room in
    let free : object_named s name ≡ None = none_of (object_named s name) (not-false _ ok.is_new) in
    let k = new_kind s facts kind ok.id_is_known rooms.1 in
    let room : length s.objects + 1 ≤ MAX_OBJECTS = room_for (length s.objects) 1 MAX_OBJECTS rooms.0 in
    subst (λ r. IsTrue (is_scene
    (option_map_or (λ k. record s { objects = s.objects ++ new_object s name k ∷ []; next = s.next + 1 }) r s))) (sym k.1)
    (with_added s facts (new_object s name k.0) refl refl refl room (no_object_named s name free) k.2)

-- The stack of modifiers of a pencil object changed: two scenes have in common what isn't one of the changed modifiers.
use Rattle.std.proofs.Common.{◌≡◌, ℕ, zero, suc, ◌+◌, ◌-◌, ◌<◌, ◌≤◌, Bool, true, false, not, List, [], ◌∷◌, ◌++◌, map, filter, length, Some, None, refl, sym, ap, ◌∙◌, subst, arith, lt_of_not-le}
use Rattle.std.specs.Prelude.{IsTrue, Contains, slice_get, option_and_then, nat_lt, nat_le, cond}
use Rattle.std.specs.Option.{option_map_or}
use Rattle.std.specs.List.{position_or_len, range_with_len}
use Rattle.std.proofs.lemmas.Bool.{or_parts, and_parts, false≢true, leb-true, ltb-false}
use Rattle.rig_scene.specs.declared.id.ObjectId.{ObjectId}
use Rattle.rig_scene.specs.declared.modifier.Mode.{Mode}
use Rattle.rig_scene.specs.declared.modifier.Modifier.{Modifier}
use Rattle.rig_scene.specs.declared.object.Kind.{Kind}
use Rattle.rig_scene.specs.declared.object.Kind.TheVariants.{Empty, Armature, Pencil}
use Rattle.rig_scene.specs.declared.object.Object.{Object}
use Rattle.rig_scene.specs.declared.operation.OpId.{OpId}
use Rattle.rig_scene.specs.declared.operation.OpId.TheVariants.{Time, Animation, Driver, Local, World, PoseInit, Bone, PoseDone, Layer, Geometry, ModifierOp, GeometryDone}
use Rattle.rig_scene.specs.ChannelNumber.{pose_of}
use Rattle.rig_scene.specs.FactsHold.{scene_facts}
use Rattle.rig_scene.specs.Id.{same_object}
use Rattle.rig_scene.specs.Operations.{operations, ins}
use Rattle.rig_scene.specs.Quantities.{modifiers_of}
use Rattle.rig_scene.specs.Same.{same_object-equal, same_object-itself}
use Rattle.rig_scene.specs.Scene.{SceneRecord, armature_of, pencil_of}
use Rattle.rig_scene.specs.Text.{same_text}
use Rattle.rig_scene.specs.WellFormed.{is_scene}
use Rattle.rig_laws.specs.HasOperation.{operation_has}
use Rattle.rig_laws.specs.Lists.{Contains-range}
use Rattle.rig_laws.specs.Members.{has_modifiers, has_geometry}
use Rattle.rig_edits.specs.declared.edit.Edit.TheVariants.{SetFlag, AddModifier, RemoveModifier}
use Rattle.rig_edits.specs.declared.edit.Flag.TheVariants.{Switch}
use Rattle.rig_edits.specs.declared.edit.NewEffect.{NewEffect}
use Rattle.rig_edits.specs.Accepted.{accepted}
use Rattle.rig_edits.specs.Conditions.{first_cause, lacks_object, lacks_centre}
use Rattle.rig_edits.specs.Edited.{stack_changed, with_stack, with_switch, new_modifier, edited}
use Rattle.rig_edits.specs.KeepsObjects.{known_object}
use Rattle.rig_edits.specs.Named.{object_named, update_first}
use Rattle.rig_edits.specs.NamedFacts.{named_by_id}
use Rattle.rig_touch.specs.Agree.{Agree, modifier_at}
use Rattle.rig_touch.specs.AgreeObjects.{untouched_of, Keeps, Rest, agree_rest, originals_still, own_still, parent_still, bone_still}
use Rattle.rig_touch.specs.FirstChanged.{first_other}
use Rattle.rig_touch.specs.Listed.{Contains-map, slice_get-before, kept_before}
use Rattle.rig_touch.specs.OneObject.{viewed_then, another}
use Rattle.rig_touch.specs.Touch.{touch, modifier_place}

-- ---- a stack changed

-- the bones and the pencil of a kind don't depend on its stack
stack_armature : (s : SceneRecord) (change : List Modifier → List Modifier) (k : Kind)
    → armature_of s (stack_changed change k) ≡ armature_of s k
stack_armature s change Empty = refl
stack_armature s change (Armature index pose) = refl
stack_armature s change (Pencil index modifiers) = refl

stack_pencil : (s : SceneRecord) (change : List Modifier → List Modifier) (k : Kind) → pencil_of s (stack_changed change k) ≡ pencil_of s k
stack_pencil s change Empty = refl
stack_pencil s change (Armature index pose) = refl
stack_pencil s change (Pencil index modifiers) = refl

stack_pose : (change : List Modifier → List Modifier) (k : Kind) (b : ℕ) → pose_of (stack_changed change k) b ≡ pose_of k b
stack_pose change Empty b = refl
stack_pose change (Armature index pose) b = refl
stack_pose change (Pencil index modifiers) b = refl

-- a modifier of a kind is that of its stack
stack_modifier : (change : List Modifier → List Modifier) (k : Kind) (i : ℕ)
    → slice_get (change (modifiers_of k)) i ≡ slice_get (modifiers_of k) i
    → slice_get (modifiers_of (stack_changed change k)) i ≡ slice_get (modifiers_of k) i
stack_modifier change Empty i e = refl
stack_modifier change (Armature index pose) i e = refl
stack_modifier change (Pencil index modifiers) i e = e

module _ (s : SceneRecord) (name : List ℕ) (change : List Modifier → List Modifier) (x : Object) (named : object_named s name ≡ Some x) where
  abbrev changed : Object → Object
  changed o = record o { kind = stack_changed change o.kind }

  keeps : Keeps s x (changed x)
  keeps = record { id = refl; action = refl; armature = stack_armature s change x.kind; pencil = stack_pencil s change x.kind }

  -- an operation that is no modifier whose place in the stack has another than before
  abbrev IsSameModifier : OpId → Type 0
  IsSameModifier op = (i : ℕ) → op ≡ ModifierOp x.id (suc i) → slice_get (change (modifiers_of x.kind)) i ≡ slice_get (modifiers_of x.kind) i

  modifier_rest : (o : ObjectId) (i : ℕ) → IsSameModifier (ModifierOp o i) → modifier_at s o i ≡ modifier_at (with_stack s name change) o i
  modifier_rest o zero h = refl
  modifier_rest o (suc i) h = by (same_object x.id o) refl
    where
      by : (b : Bool) → same_object x.id o ≡ b → modifier_at s o (suc i) ≡ modifier_at (with_stack s name change) o (suc i)
      by true is =
          viewed_then s name changed x named refl (λ (q : Object). slice_get (modifiers_of q.kind) i)
          (stack_modifier change x.kind i (h i (ap (λ o. ModifierOp o (suc i)) (sym (same_object-equal x.id o is))))) o
      by false is =
          ap (option_and_then (λ (q : Object). slice_get (modifiers_of q.kind) i))
          (another s name changed x named refl o (λ e. false≢true (sym is ∙ ap (same_object x.id) (sym e) ∙ same_object-itself x.id)))

  rest : (op : OpId) → IsSameModifier op → Rest s name changed x named keeps op
  rest Time h = tt
  rest (Animation id) h = tt
  rest (Driver id path) h = originals_still s name changed x named keeps refl (stack_pose change x.kind) id path
  rest (Local o) h = own_still s name changed x named keeps refl o
  rest (World o) h = parent_still s name changed x named keeps refl o
  rest (PoseInit o) h = tt
  rest (Bone o b) h = bone_still s name changed x named keeps b (stack_pose change x.kind b) o
  rest (PoseDone o) h = tt
  rest (Layer p l) h = tt
  rest (Geometry o) h = tt
  rest (ModifierOp o i) h = modifier_rest o i h
  rest (GeometryDone o) h = tt

  pub agree_stack : (op : OpId) → IsSameModifier op → Agree s (with_stack s name change) op
  agree_stack op h = agree_rest s name changed x named keeps op (rest op h)

  -- a modifier of the scene is within the stack
  pub within_stack : IsTrue (is_scene s) → (i : ℕ) → Contains (operations s) (ModifierOp x.id (suc i)) → i < length (modifiers_of x.kind)
  within_stack is i there =
      by x.kind
      (sym (ap (λ r. option_map_or (λ (o : Object). has_modifiers (suc i) o.kind) r false) (named_by_id s (scene_facts s is) name x named))
      ∙ (and_parts (nat_le 1 (suc i)) (has_geometry s x.id (suc i)) (operation_has s is (ModifierOp x.id (suc i)) there)).1)
    where
      by : (k : Kind) → has_modifiers (suc i) k ≡ true → i < length (modifiers_of k)
      by Empty e = absurd (false≢true e)
      by (Armature index pose) e = absurd (false≢true e)
      by (Pencil index modifiers) e = let l : suc i ≤ length modifiers = leb-true (suc i) (length modifiers) e in omega (arith, l)

-- ---- a switch

-- the modifier of a name isn't touched alone where it isn't that of the operation
not_the_place : (s : SceneRecord) (object modifier : List ℕ) (mode : Mode) (on : Bool) (x : Object) (i : ℕ) → object_named s object ≡ Some x
    → (Contains (touch s (SetFlag (Switch object modifier mode) on)) (ModifierOp x.id (suc i)) → ⊥) → modifier_place x modifier ≡ Some i → ⊥
unfolding touch
not_the_place s object modifier mode on x i named untouched at =
    untouched_of (λ (o : Object). option_map_or (λ i. ModifierOp o.id (i + 1) ∷ []) (modifier_place o modifier) []) (object_named s object) x
    (ModifierOp x.id (suc i)) named untouched
    (subst (λ r. Contains (option_map_or (λ i. ModifierOp x.id (i + 1) ∷ []) r []) (ModifierOp x.id (suc i))) (sym at)
    (let next : i + 1 ≡ suc i = omega arith in (0, omega arith, ap (ModifierOp x.id) next)))

-- what isn't touched by a switch
pub agree_set_switch : (s : SceneRecord) → IsTrue (is_scene s) → (object modifier : List ℕ) (mode : Mode) (on : Bool)
    → first_cause s (SetFlag (Switch object modifier mode) on) ≡ None → (op : OpId) → Contains (operations s) op
    → Contains (operations (edited s (SetFlag (Switch object modifier mode) on))) op
    → (Contains (touch s (SetFlag (Switch object modifier mode) on)) op → ⊥)
    → ins s op ≡ ins (edited s (SetFlag (Switch object modifier mode) on)) op
    → Agree s (edited s (SetFlag (Switch object modifier mode) on)) op
agree_set_switch s is object modifier mode on accept op old new untouched links =
    let there = known_object s object (accepted s (SetFlag (Switch object modifier mode) on) accept).id_is_known in
    let x = there.0 in
    let test = λ (m : Modifier). same_text m.name modifier in
    agree_stack s object (update_first test (with_switch mode on)) x there.1 op
    (λ i e. first_other test (with_switch mode on) (modifiers_of x.kind) i
    (not_the_place s object modifier mode on x i there.1
    (subst (λ op. Contains (touch s (SetFlag (Switch object modifier mode) on)) op → ⊥) e untouched)))

-- ---- a modifier added

-- what isn't changed by a modifier that is added behind the others
pub agree_add_modifier : (s : SceneRecord) → IsTrue (is_scene s) → (object name : List ℕ) (viewport render : Bool) (effect : NewEffect)
    → first_cause s (AddModifier object name viewport render effect) ≡ None → (op : OpId) → Contains (operations s) op
    → Contains (operations (edited s (AddModifier object name viewport render effect))) op
    → (Contains (touch s (AddModifier object name viewport render effect)) op → ⊥)
    → ins s op ≡ ins (edited s (AddModifier object name viewport render effect)) op
    → Agree s (edited s (AddModifier object name viewport render effect)) op
agree_add_modifier s is object name viewport render effect accept op old new untouched links =
    let known = (accepted s (AddModifier object name viewport render effect) accept).id_is_known in
    let there = known_object s object (or_parts (lacks_object s object) (lacks_centre s effect) known).0 in
    let more = new_modifier s name viewport render effect ∷ [] in
    let change = λ (modifiers : List Modifier). modifiers ++ more in
    agree_stack s object change there.0 there.1 op
    (λ i e. slice_get-before (modifiers_of there.0.kind) more i
    (within_stack s object change there.0 there.1 is i (subst (Contains (operations s)) e old)))

-- ---- a modifier taken out

-- a place that isn't touched is before the modifier that is taken out
before_place : (s : SceneRecord) (object modifier : List ℕ) (x : Object) (i : ℕ) → object_named s object ≡ Some x
    → i < length (modifiers_of x.kind) → (Contains (touch s (RemoveModifier object modifier)) (ModifierOp x.id (suc i)) → ⊥)
    → i < position_or_len (λ (m : Modifier). same_text m.name modifier) (modifiers_of x.kind)
unfolding touch
before_place s object modifier x i named within untouched =
    by (nat_lt place size) refl
    (untouched_of (λ (o : Object). option_map_or (λ i. map (ModifierOp o.id) (range_with_len (i + 1) (length (modifiers_of o.kind) - i)))
    (modifier_place o modifier) [])
    (object_named s object) x (ModifierOp x.id (suc i)) named untouched)
  where
    place : ℕ
    place = position_or_len (λ (m : Modifier). same_text m.name modifier) (modifiers_of x.kind)

    size : ℕ
    size = length (modifiers_of x.kind)

    from_place : place ≤ i → Contains (map (ModifierOp x.id) (range_with_len (place + 1) (size - place))) (ModifierOp x.id (suc i))
    from_place l =
        Contains-map (ModifierOp x.id) (range_with_len (place + 1) (size - place)) (suc i)
        (subst (Contains (range_with_len (place + 1) (size - place))) (omega (arith, l))
        (Contains-range (place + 1) (size - place) (i - place) (omega (arith, l, within))))

    by : (b : Bool) → nat_lt place size ≡ b
        → (Contains (option_map_or (λ i. map (ModifierOp x.id) (range_with_len (i + 1) (size - i))) (cond b (Some place) None) [])
        (ModifierOp x.id (suc i)) → ⊥)
        → i < place
    by true e h = lt_of_not-le (λ l. h (from_place l))
    by false e h = let l : size ≤ place = ltb-false place size e in omega (arith, l, within)

-- what isn't touched by a modifier that is taken out
pub agree_remove_modifier : (s : SceneRecord) → IsTrue (is_scene s) → (object modifier : List ℕ)
    → first_cause s (RemoveModifier object modifier) ≡ None → (op : OpId) → Contains (operations s) op
    → Contains (operations (edited s (RemoveModifier object modifier))) op → (Contains (touch s (RemoveModifier object modifier)) op → ⊥)
    → ins s op ≡ ins (edited s (RemoveModifier object modifier)) op → Agree s (edited s (RemoveModifier object modifier)) op
agree_remove_modifier s is object modifier accept op old new untouched links =
    let there = known_object s object (accepted s (RemoveModifier object modifier) accept).id_is_known in
    let x = there.0 in
    let test = λ (m : Modifier). same_text m.name modifier in
    let change = filter (λ m. not (test m)) in
    agree_stack s object change x there.1 op
    (λ i e. kept_before test (modifiers_of x.kind) i
    (before_place s object modifier x i there.1 (within_stack s object change x there.1 is i (subst (Contains (operations s)) e old))
    (subst (λ op. Contains (touch s (RemoveModifier object modifier)) op → ⊥) e untouched)))

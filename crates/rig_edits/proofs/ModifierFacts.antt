-- What a modifier that is found by its indices tells of the edits by names.
use Rattle.std.proofs.Common.{◌≡◌, ◌≢◌, ℕ, ◌≤◌, Bool, true, false, not, List, [], ◌∷◌, ◌++◌, length, Option, Some, None, refl, sym, ap, ◌∙◌, arith}
use Rattle.std.specs.Prelude.{IsTrue, slice_get, slice_set, ◌||◌, is_none, remove, option_and_then}
use Rattle.std.specs.List.{AllPairs, filter}
use Rattle.std.specs.Option.{option_or, option_map_or}
use Rattle.std.proofs.lemmas.Bool.{false_from_ne_true}
use Rattle.std.proofs.lemmas.List.Elements.{All-contains}
use Rattle.rig_scene.specs.declared.limits.TheConstants.{MAX_MODIFIERS}
use Rattle.rig_scene.specs.declared.modifier.Mode.{Mode}
use Rattle.rig_scene.specs.declared.modifier.Modifier.{Modifier}
use Rattle.rig_scene.specs.declared.object.Kind.{Kind}
use Rattle.rig_scene.specs.declared.object.Kind.TheVariants.{Empty, Armature, Pencil}
use Rattle.rig_scene.specs.declared.object.Object.{Object}
use Rattle.rig_scene.specs.Facts.{ObjectFacts}
use Rattle.rig_scene.specs.FactsHold.{scene_facts}
use Rattle.rig_scene.specs.Found.{Contains-slice_get, find-contains}
use Rattle.rig_scene.specs.Pairs.{AllPairs-nil, AllPairs-weaker}
use Rattle.rig_scene.specs.Same.{same_text-Decides}
use Rattle.rig_scene.specs.Scene.{SceneRecord}
use Rattle.rig_scene.specs.Text.{same_text}
use Rattle.rig_scene.specs.WellFormed.{is_scene, is_pencil_kind}
use Rattle.rig_edits.specs.declared.cause.EditCause.{EditCause}
use Rattle.rig_edits.specs.declared.cause.EditCause.TheVariants.{UnknownId, WrongKind, UnknownPart}
use Rattle.rig_edits.specs.declared.edit.Edit.TheVariants.{SetFlag, AddModifier, RemoveModifier}
use Rattle.rig_edits.specs.declared.edit.Flag.TheVariants.{Switch}
use Rattle.rig_edits.specs.declared.edit.NewEffect.{NewEffect}
use Rattle.rig_edits.specs.Conditions.{lacks_object, lacks_centre, lacks_modifier, is_pencil_object, when, first_cause}
use Rattle.rig_edits.specs.Edited.{new_modifier, stack_changed, with_stack, with_switch, edited}
use Rattle.rig_edits.specs.Modifiers.{NewModifierAt, modifier_cause, stack_cause, adding_cause, ModifierAt, stack_changed_at}
use Rattle.rig_edits.specs.Named.{object_named, modifiers_of, modifier_named, update_at, update_first}
use Rattle.rig_edits.proofs.FirstPassing.{remove_only}
use Rattle.rig_edits.specs.Steps.{FoundAt}

-- ---- causes

option_or-None : {A : Type 0} (o : Option A) → option_or o None ≡ o
option_or-None None = refl
option_or-None (Some x) = refl

-- the causes against a modifier of an object that is there
pub modifier_cause-found : (s : SceneRecord) (object modifier : List ℕ) (o : Object) → object_named s object ≡ Some o
    → modifier_cause s object modifier ≡ stack_cause o.kind modifier
modifier_cause-found s object modifier o found =
    ap (λ r. option_or (when UnknownId (is_none r))
    (option_or (when WrongKind (not (option_map_or (λ (o : Object). is_pencil_kind o.kind) r false)))
    (when UnknownPart (is_none (option_and_then (λ (o : Object). modifier_named o.kind modifier) r))))) found

-- an edit of a modifier is refused by its causes alone
module _ (s : SceneRecord) (object modifier : List ℕ) where
  abbrev chain : Option EditCause → Option EditCause
  chain last = option_or (when UnknownId (lacks_object s object)) (option_or (when WrongKind (not (is_pencil_object s object))) last)

  pub switch_cause : (mode : Mode) (on : Bool) → first_cause s (SetFlag (Switch object modifier mode) on) ≡ modifier_cause s object modifier
  switch_cause mode on = ap chain (option_or-None (when UnknownPart (lacks_modifier s object modifier)))

  pub remove_cause : first_cause s (RemoveModifier object modifier) ≡ modifier_cause s object modifier
  remove_cause = ap chain (option_or-None (when UnknownPart (lacks_modifier s object modifier)))

-- ---- a new modifier

-- two causes of one name are looked for one after the other
both : (a b : Bool) (last : Option EditCause) → option_or (when UnknownId (a || b)) last ≡ option_or (when UnknownId a) (option_or (when UnknownId b) last)
both true b last = refl
both false b last = refl

-- a new modifier is refused by its causes alone
pub add_cause : (s : SceneRecord) (object name : List ℕ) (viewport render : Bool) (effect : NewEffect)
    → first_cause s (AddModifier object name viewport render effect) ≡ adding_cause s object name effect
add_cause s object name viewport render effect = both (lacks_object s object) (lacks_centre s effect) _

-- ---- stacks

-- a scene whose objects alone are changed
pub objects_changed : {v s : SceneRecord} → v ≡ s → (change : List Object → List Object) (objects : List Object) → objects ≡ change v.objects
    → record v { objects = objects } ≡ record s { objects = change s.objects }
objects_changed {v} {s} same change objects e =
    ap (λ (t : SceneRecord). record t { objects = objects }) same
    ∙ ap (λ (os : List Object). record s { objects = os }) (e ∙ ap (λ (t : SceneRecord). change t.objects) same)

-- two changes that make the same of a stack make the same of its kind
stack_changed-same : (f g : List Modifier → List Modifier) (k : Kind) → f (modifiers_of k) ≡ g (modifiers_of k) → stack_changed f k ≡ stack_changed g k
stack_changed-same f g Empty e = refl
stack_changed-same f g (Armature armature pose) e = refl
stack_changed-same f g (Pencil pencil modifiers) e = ap (Pencil pencil) e

-- the stack of the object at an index, changed, is that of the object of a name
pub stack_updated : (s : SceneRecord) (name : List ℕ) (i : ℕ) (f g : List Modifier → List Modifier)
    (at : FoundAt (λ (o : Object). same_text o.name name) s.objects i) → f (modifiers_of at.element.kind) ≡ g (modifiers_of at.element.kind)
    → record s { objects = stack_changed_at f i s.objects } ≡ with_stack s name g
stack_updated s name i f g at same =
    let o = at.element in
    let change = λ (h : List Modifier → List Modifier) (o : Object). record o { kind = stack_changed h o.kind } in
    let left : update_at (change f) i s.objects ≡ slice_set s.objects i (change f o) =
    ap (λ r. option_map_or (λ (x : Object). slice_set s.objects i (change f x)) r s.objects) at.is_at in
    let right : update_first (λ (o : Object). same_text o.name name) (change g) s.objects ≡ slice_set s.objects i (change g o) =
    ap (λ r. option_map_or (λ i. update_at (change g) i s.objects) r s.objects) at.is_position
    ∙ ap (λ r. option_map_or (λ (x : Object). slice_set s.objects i (change g x)) r s.objects) at.is_at in
    ap (λ objects. record s { objects = objects })
    (left ∙ ap (λ k. slice_set s.objects i (record o { kind = k })) (stack_changed-same f g o.kind same) ∙ sym right)

-- a stack has few modifiers, whose names are distinct
module _ (s : SceneRecord) (is : IsTrue (is_scene s)) (i : ℕ) (o : Object) (at : slice_get s.objects i ≡ Some o) where
  facts : ObjectFacts s o
  facts = All-contains (ObjectFacts s) s.objects o (scene_facts s is).objects.each (Contains-slice_get s.objects i o at)

  pub few_in_stack : length (modifiers_of o.kind) ≤ MAX_MODIFIERS
  few_in_stack = go o.kind refl
    where
      go : (k : Kind) → o.kind ≡ k → length (modifiers_of k) ≤ MAX_MODIFIERS
      go Empty e = omega arith
      go (Armature armature pose) e = omega arith
      go (Pencil pencil modifiers) e = (facts.pencil pencil modifiers e).count

  distinct_in_stack : AllPairs (λ (m n : Modifier). m.name ≢ n.name) (modifiers_of o.kind)
  distinct_in_stack = go o.kind refl
    where
      go : (k : Kind) → o.kind ≡ k → AllPairs (λ (m n : Modifier). m.name ≢ n.name) (modifiers_of k)
      go Empty e = AllPairs-nil (λ (m n : Modifier). m.name ≢ n.name)
      go (Armature armature pose) e = AllPairs-nil (λ (m n : Modifier). m.name ≢ n.name)
      go (Pencil pencil modifiers) e = (facts.pencil pencil modifiers e).names_distinct

-- ---- a modifier that is there

module _ (s : SceneRecord) (object modifier : List ℕ) (i j : ℕ) (at : ModifierAt s object modifier i j) where
  abbrev stack : List Modifier
  stack = modifiers_of at.in_objects.element.kind

  abbrev has_name : Modifier → Bool
  has_name m = same_text m.name modifier

  -- the scene that a switch makes
  pub switched : (mode : Mode) (on : Bool)
      → record s { objects = stack_changed_at (update_at (with_switch mode on) j) i s.objects } ≡ edited s (SetFlag (Switch object modifier mode) on)
  switched mode on =
      stack_updated s object i (update_at (with_switch mode on) j) (update_first has_name (with_switch mode on)) at.in_objects
      (sym (ap (λ r. option_map_or (λ j. update_at (with_switch mode on) j stack) r stack) at.in_stack.is_position))

  -- and the one without the modifier
  pub removed : IsTrue (is_scene s)
      → record s { objects = stack_changed_at (λ modifiers. remove modifiers j) i s.objects } ≡ edited s (RemoveModifier object modifier)
  removed is =
      stack_updated s object i (λ modifiers. remove modifiers j) (filter (λ (m : Modifier). not (same_text m.name modifier))) at.in_objects
      (remove_only has_name stack j at.in_stack.element at.in_stack.is_at
      (find-contains has_name stack at.in_stack.element at.in_stack.is_found).1
      (AllPairs-weaker (λ (m n : Modifier). m.name ≢ n.name) (λ m n. has_name m ≡ true → has_name n ≡ false)
      (λ m n differ is. false_from_ne_true (has_name n)
      (λ other. differ ((same_text-Decides m.name modifier).0 is ∙ sym ((same_text-Decides n.name modifier).0 other))))
      stack (distinct_in_stack s is i at.in_objects.element at.in_objects.is_at)))

-- ---- a modifier that is added

-- the scene with a new modifier
pub added : (s : SceneRecord) (object name : List ℕ) (viewport render : Bool) (effect : NewEffect) (i : ℕ) (m : Modifier)
    → NewModifierAt s object effect i m.effect → m.name ≡ name → m.viewport ≡ viewport → m.render ≡ render
    → record s { objects = stack_changed_at (λ modifiers. modifiers ++ m ∷ []) i s.objects } ≡ edited s (AddModifier object name viewport render effect)
added s object name viewport render effect i m at is_name is_viewport is_render =
    let same : m ≡ new_modifier s name viewport render effect =
    ap (λ n. record m { name = n }) is_name
    ∙ ap (λ b. record m { name = name; viewport = b }) is_viewport
    ∙ ap (λ b. record m { name = name; viewport = viewport; render = b }) is_render
    ∙ ap (λ e. record { name = name; viewport = viewport; render = render; effect = e }) at.is_effect in
    stack_updated s object i (λ modifiers. modifiers ++ m ∷ []) (λ modifiers. modifiers ++ new_modifier s name viewport render effect ∷ [])
    at.in_objects (ap (λ n. modifiers_of at.in_objects.element.kind ++ n ∷ []) same)

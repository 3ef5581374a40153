-- Edits of a pencil object's stack of modifiers leave a scene.
use Rattle.std.proofs.Common.{◌≡◌, ◌≢◌, ℕ, ◌+◌, ◌<◌, ◌≤◌, Bool, true, false, List, [], ◌∷◌, ◌++◌, length-append, length, Option, Some, None, refl, sym, ap, ◌∙◌, subst, arith}
use Rattle.std.specs.Prelude.{IsTrue, IfSome, pos, negsuc, int_le, nat_le, not, if◌then◌else◌, is_none, option_and_then, option_map}
use Rattle.std.specs.List.{All, AllPairs, find, filter}
use Rattle.std.proofs.lemmas.Bool.{false≢true, or_parts, not-false, leb-true}
use Rattle.std.proofs.lemmas.List.Elements.{All-weaker, All-filter, All-push}
use Rattle.std.proofs.lemmas.List.Quantifiers.{all_pairs_push}
use Rattle.rig_scene.specs.declared.channel.Channels.{Channels}
use Rattle.rig_scene.specs.declared.limits.TheConstants.{MAX_MODIFIERS, MAX_ARRAY_COUNT}
use Rattle.rig_scene.specs.declared.modifier.Mode.{Mode}
use Rattle.rig_scene.specs.declared.modifier.Mode.TheVariants.{Viewport, Render}
use Rattle.rig_scene.specs.declared.modifier.Modifier.{Modifier}
use Rattle.rig_scene.specs.declared.object.Kind.{Kind}
use Rattle.rig_scene.specs.declared.object.Kind.TheVariants.{Empty, Armature, Pencil}
use Rattle.rig_scene.specs.declared.object.Object.{Object}
use Rattle.rig_scene.specs.Facts.{HasObject, ArmatureKindFacts, EffectFacts, PencilKindFacts, SceneFacts}
use Rattle.rig_scene.specs.FactsHold.{scene_facts}
use Rattle.rig_scene.specs.Pairs.{AllPairs-filter}
use Rattle.rig_scene.specs.Parts.{three_parts}
use Rattle.rig_scene.specs.Same.{same_text-itself}
use Rattle.rig_scene.specs.Scene.{SceneRecord}
use Rattle.rig_scene.specs.Text.{same_text}
use Rattle.rig_scene.specs.WellFormed.{is_scene, is_pencil_kind, pose_count}
use Rattle.rig_edits.specs.declared.cause.EditCause.TheVariants.{Full}
use Rattle.rig_edits.specs.declared.edit.Edit.TheVariants.{SetFlag, AddModifier, RemoveModifier}
use Rattle.rig_edits.specs.declared.edit.Flag.TheVariants.{Switch}
use Rattle.rig_edits.specs.declared.edit.NewEffect.{NewEffect}
use Rattle.rig_edits.specs.declared.edit.NewEffect.TheVariants.{Offset, Mirror, Array}
use Rattle.rig_edits.specs.Accepted.{accepted}
use Rattle.rig_edits.specs.Conditions.{first_cause, lacks_object, lacks_centre, lacks_modifier, is_location, is_effect_in_range, full_at}
use Rattle.rig_edits.specs.Edited.{stack_changed, with_stack, with_switch, effect_of, new_modifier, edited}
use Rattle.rig_edits.specs.KeepsObjects.{armature_number, SameOutline, known_object, named_changed}
use Rattle.rig_edits.specs.Named.{object_named, modifiers_of, modifier_named, update_first}
use Rattle.rig_edits.specs.NamedFacts.{named_object}
use Rattle.rig_edits.specs.Refers.{Refers, object_carried, facts_carried}
use Rattle.rig_edits.specs.Replaced.{map-updated_first, length-same, All-same, AllPairs-same}
use Rattle.rig_edits.specs.Lists.{filter_shorter, none_found, none_of}

-- ---- a stack of modifiers

-- what a scene sees of an object doesn't depend on its stack
stack_outline : (change : List Modifier → List Modifier) (o : Object) → SameOutline o (record o { kind = stack_changed change o.kind })
stack_outline change o = record { id = refl; name = refl; armature = armature o.kind; is_pencil = is_pencil o.kind; poses = poses o.kind }
  where
    armature : (k : Kind) → armature_number (stack_changed change k) ≡ armature_number k
    armature Empty = refl
    armature (Armature index pose) = refl
    armature (Pencil index modifiers) = refl

    is_pencil : (k : Kind) → is_pencil_kind (stack_changed change k) ≡ is_pencil_kind k
    is_pencil Empty = refl
    is_pencil (Armature index pose) = refl
    is_pencil (Pencil index modifiers) = refl

    poses : (k : Kind) → pose_count (stack_changed change k) ≡ pose_count k
    poses Empty = refl
    poses (Armature index pose) = refl
    poses (Pencil index modifiers) = refl

-- an armature object has its poses still
stack_pose : (t : SceneRecord) (change : List Modifier → List Modifier) (k : Kind)
    → ((index : ℕ) (pose : List Channels) → k ≡ Armature index pose → ArmatureKindFacts t index pose)
    → (index : ℕ) (pose : List Channels) → stack_changed change k ≡ Armature index pose → ArmatureKindFacts t index pose
stack_pose t change Empty f index pose e = f index pose e
stack_pose t change (Armature armature old) f index pose e = f index pose e
stack_pose t change (Pencil n modifiers) f index pose e = cc

-- what a stack of few modifiers promises, whatever pencil it is of
pub record StackFacts (s : SceneRecord) (modifiers : List Modifier) : Type 0 where
  pub count : length modifiers ≤ MAX_MODIFIERS
  pub names_distinct : AllPairs (λ m n. m.name ≢ n.name) modifiers
  pub effects : All (λ m. EffectFacts s m.effect) modifiers

-- a pencil's stack, changed to one that keeps the promises
stack_kind : (t : SceneRecord) (change : List Modifier → List Modifier) (k : Kind)
    → ((index : ℕ) (modifiers : List Modifier) → k ≡ Pencil index modifiers → PencilKindFacts t index modifiers)
    → (StackFacts t (modifiers_of k) → StackFacts t (change (modifiers_of k)))
    → (index : ℕ) (modifiers : List Modifier) → stack_changed change k ≡ Pencil index modifiers → PencilKindFacts t index modifiers
stack_kind t change Empty f keeps index modifiers e = f index modifiers e
stack_kind t change (Armature armature old) f keeps index modifiers e = cc
stack_kind t change (Pencil n old) f keeps index modifiers e =
    let g = f n old refl in
    let h = keeps (record { count = g.count; names_distinct = g.names_distinct; effects = g.effects }) in
    let same_index : n ≡ index = cc in
    let new_stack : change old ≡ modifiers = cc in
    record {
      pencil_is_there = subst (λ m. m < length t.pencils) same_index g.pencil_is_there;
      count = subst (λ ms. length ms ≤ MAX_MODIFIERS) new_stack h.count;
      names_distinct = subst (AllPairs (λ (m n : Modifier). m.name ≢ n.name)) new_stack h.names_distinct;
      effects = subst (All (λ (m : Modifier). EffectFacts t m.effect)) new_stack h.effects;
    }

-- a change that keeps the promises of the stack leaves a scene
stack_kept : (s : SceneRecord) (name : List ℕ) (change : List Modifier → List Modifier) (o : Object) → object_named s name ≡ Some o
    → ((t : SceneRecord) → Refers s t → StackFacts t (modifiers_of o.kind) → StackFacts t (change (modifiers_of o.kind)))
    → IsTrue (is_scene s) → IsTrue (is_scene (with_stack s name change))
stack_kept s name change o e keeps is =
    named_changed s name (λ o. record o { kind = stack_changed change o.kind }) o e (stack_outline change o)
    (λ t refers f. let g = facts_carried s t refers o f in record {
      id_below_next = g.id_below_next;
      action_is_there = g.action_is_there;
      parent_is_there = g.parent_is_there;
      armature = stack_pose t change o.kind g.armature;
      pencil = stack_kind t change o.kind g.pencil (keeps t refers);
    }) is

-- ---- the switches of a modifier

-- a switch changes neither the name nor the effect
same_name_switch : (mode : Mode) (on : Bool) (m : Modifier) → (with_switch mode on m).name ≡ m.name
same_name_switch Viewport on m = refl
same_name_switch Render on m = refl

same_effect_switch : (mode : Mode) (on : Bool) (m : Modifier) → (with_switch mode on m).effect ≡ m.effect
same_effect_switch Viewport on m = refl
same_effect_switch Render on m = refl

-- a switch that is set leaves a scene
pub keeps_set_switch : (s : SceneRecord) (object modifier : List ℕ) (mode : Mode) (on : Bool) → IsTrue (is_scene s)
    → first_cause s (SetFlag (Switch object modifier mode) on) ≡ None → IsTrue (is_scene (edited s (SetFlag (Switch object modifier mode) on)))
keeps_set_switch s object modifier mode on is none =
    let there = known_object s object (accepted s (SetFlag (Switch object modifier mode) on) none).id_is_known in
    let change = update_first (λ (m : Modifier). same_text m.name modifier) (with_switch mode on) in
    let old = modifiers_of there.0.kind in
    let names = map-updated_first (λ (m : Modifier). m.name) (with_switch mode on) (same_name_switch mode on) (λ m. same_text m.name modifier) old in
    let effects = map-updated_first (λ (m : Modifier). m.effect) (with_switch mode on) (same_effect_switch mode on) (λ m. same_text m.name modifier) old in
    stack_kept s object change there.0 there.1
    (λ t refers f. record {
      count = omega (arith, f.count, length-same (λ (m : Modifier). m.name) old (change old) names);
      names_distinct = AllPairs-same (λ (m : Modifier). m.name) old (change old) names (λ m n. m ≢ n) f.names_distinct;
      effects = All-same (λ (m : Modifier). m.effect) old (change old) effects (EffectFacts t) f.effects;
    }) is

-- ---- a modifier taken out

-- a modifier that is taken out leaves a scene
pub keeps_remove_modifier : (s : SceneRecord) (object modifier : List ℕ) → IsTrue (is_scene s)
    → first_cause s (RemoveModifier object modifier) ≡ None → IsTrue (is_scene (edited s (RemoveModifier object modifier)))
keeps_remove_modifier s object modifier is none =
    let there = known_object s object (accepted s (RemoveModifier object modifier) none).id_is_known in
    let other = λ (m : Modifier). not (same_text m.name modifier) in
    let old = modifiers_of there.0.kind in
    stack_kept s object (filter other) there.0 there.1
    (λ t refers f. record {
      count = omega (arith, f.count, filter_shorter other old);
      names_distinct = AllPairs-filter (λ (m n : Modifier). m.name ≢ n.name) other old f.names_distinct;
      effects = All-filter other (λ (m : Modifier). EffectFacts t m.effect) old f.effects;
    }) is

-- ---- a modifier added

-- there is room for one more
room_for_one : (count limit : ℕ) → full_at count 1 limit ≡ None → count + 1 ≤ limit
room_for_one count limit none = go (nat_le (count + 1) limit) refl none
  where
    go : (b : Bool) → nat_le (count + 1) limit ≡ b → (if b then None else Some (Full count limit)) ≡ None → count + 1 ≤ limit
    go true e none = leb-true (count + 1) limit e
    go false e none = cc

-- what a new modifier names is there, and an array has few copies
new_effect : (s t : SceneRecord) (f : SceneFacts s) (refers : Refers s t) (e : NewEffect) → is_effect_in_range e ≡ true
    → EffectFacts t (effect_of s e)
new_effect s t f refers (Offset loc scale) range = tt
new_effect s t f refers (Mirror x y z object) range = centre object
  where
    go : (name : List ℕ) (r : Option Object) → object_named s name ≡ r → IfSome (option_map (λ (o : Object). o.id) r) (HasObject t)
    go name None e = tt
    go name (Some o) e = object_carried s t refers o.id (named_object s f name o e)

    centre : (object : Option (List ℕ))
        → IfSome (option_and_then (λ name. option_map (λ (o : Object). o.id) (object_named s name)) object) (HasObject t)
    centre None = tt
    centre (Some name) = go name (object_named s name) refl
new_effect s t f refers (Array (pos n) offset) range =
    let parts = three_parts (int_le (pos 1) (pos n)) (int_le (pos n) (pos MAX_ARRAY_COUNT)) (is_location offset) range in
    (leb-true 1 n parts.0, leb-true n MAX_ARRAY_COUNT parts.1)
new_effect s t f refers (Array (negsuc n) offset) range =
    let parts = three_parts (int_le (pos 1) (negsuc n)) (int_le (negsuc n) (pos MAX_ARRAY_COUNT)) (is_location offset) range in
    absurd (false≢true parts.0)

-- no modifier of the stack has the new name
name_is_new : (name : List ℕ) (modifiers : List Modifier) → find (λ (m : Modifier). same_text m.name name) modifiers ≡ None
    → All (λ m. m.name ≢ name) modifiers
name_is_new name modifiers none =
    All-weaker (λ (m : Modifier). same_text m.name name ≡ false) (λ m. m.name ≢ name)
    (λ m differs same. false≢true (sym differs ∙ ap (λ n. same_text n name) same ∙ same_text-itself name))
    modifiers (none_found (λ (m : Modifier). same_text m.name name) modifiers none)

-- a modifier that is added leaves a scene
pub keeps_add_modifier : (s : SceneRecord) (object name : List ℕ) (viewport render : Bool) (effect : NewEffect) → IsTrue (is_scene s)
    → first_cause s (AddModifier object name viewport render effect) ≡ None → IsTrue (is_scene (edited s (AddModifier object name viewport render effect)))
keeps_add_modifier s object name viewport render effect is none =
    let holds = accepted s (AddModifier object name viewport render effect) none in
    let there = known_object s object (or_parts (lacks_object s object) (lacks_centre s effect) holds.id_is_known).0 in
    let old = modifiers_of there.0.kind in
    let new = new_modifier s name viewport render effect in
    let room : length old + 1 ≤ MAX_MODIFIERS =
    room_for_one (length old) MAX_MODIFIERS
    (sym (ap (option_and_then (λ (o : Object). full_at (length (modifiers_of o.kind)) 1 MAX_MODIFIERS)) there.1) ∙ holds.has_room) in
    let free : find (λ (m : Modifier). same_text m.name name) old ≡ None =
    none_of (modifier_named there.0.kind name)
    (ap (λ (r : Option Object). is_none (option_and_then (λ (o : Object). modifier_named o.kind name) r)) (sym there.1)
    ∙ not-false (lacks_modifier s object name) holds.is_new) in
    stack_kept s object (λ modifiers. modifiers ++ new ∷ []) there.0 there.1
    (λ t refers f. record {
      count = subst (λ n. n ≤ MAX_MODIFIERS) (sym (length-append old (new ∷ []))) room;
      names_distinct = all_pairs_push (λ (m n : Modifier). m.name ≢ n.name) old new f.names_distinct (name_is_new name old free);
      effects = All-push (λ (m : Modifier). EffectFacts t m.effect) old new f.effects
          (new_effect s t (scene_facts s is) refers effect (not-false (is_effect_in_range effect) holds.is_in_range));
    }) is

-- What a scene has for the animation of an id, and for the start of a pose.
use Rattle.std.specs.Prelude.{◌≡◌, ◌<◌, ℕ, true, false, Bool, IsTrue, IsSome, IfSome, is_some, List, [], ◌∷◌, length, map, Option, Some, None, slice_get, option_map, option_and_then, if◌then◌else◌, Contains, ℤ}
use Rattle.std.specs.List.{All}
use Rattle.std.proofs.Common.{refl, sym, ap, subst, ◌∙◌}
use Rattle.std.proofs.lemmas.List.Elements.{All-contains, All-weaker}
use Rattle.std.proofs.lemmas.Option.{same_Some}
use Rattle.rig_scene.specs.declared.action.Action.{Action}
use Rattle.rig_scene.specs.declared.id.AnimId.{AnimId}
use Rattle.rig_scene.specs.declared.id.AnimId.TheVariants as anim
use Rattle.rig_scene.specs.declared.id.ObjectId.{ObjectId}
use Rattle.rig_scene.specs.declared.modifier.Mode.{Mode}
use Rattle.rig_scene.specs.declared.object.Object.{Object}
use Rattle.rig_scene.specs.declared.operation.OpId.TheVariants.{Time, Animation, PoseInit}
use Rattle.rig_scene.specs.declared.pencil.PencilData.{PencilData}
use Rattle.rig_scene.specs.ChannelNumber.{action_of, action_numbers}
use Rattle.rig_scene.specs.Drivers.{action_index, has_action}
use Rattle.rig_scene.specs.Facts.{ActionFacts, CurveFacts, ObjectFacts, PencilFacts}
use Rattle.rig_scene.specs.FactsHold.{scene_facts}
use Rattle.rig_scene.specs.Found.{Contains-slice_get, some_slice_get}
use Rattle.rig_scene.specs.Keys.{are_frames_rising}
use Rattle.rig_scene.specs.Operations.{InLink, kept_link, operations, ins}
use Rattle.rig_scene.specs.Scene.{SceneRecord, object_of}
use Rattle.rig_scene.specs.Value.{Numbers}
use Rattle.rig_scene.specs.WellFormed.{is_scene}
use Rattle.rig_laws.specs.FoundObject.{found_object}
use Rattle.rig_laws.specs.HasOperation.{operation_has}
use Rattle.rig_laws.specs.Lists.{is_some-Some, option_and_then-Some, some_where}
use Rattle.rig_laws.specs.Members.{is_posed}
use Rattle.rig_laws.specs.Kernel.{kernel, curve_numbers}
use Rattle.rig_laws.specs.Output.{Output, link_of, numbers_at, frame_at}

-- an action that is there
action_there : (s : SceneRecord) (index : Option ℕ) (n : ℕ) → index ≡ Some n → IfSome index (λ n. n < length s.actions) → IsSome (option_and_then (slice_get s.actions) index)
action_there s None n is within = cc
action_there s (Some m) n is within = ap is_some (some_slice_get s.actions m within).1

module _ (s : SceneRecord) (met : IsTrue (is_scene s)) where
  -- the keys rise in each curve of an action
  pub action_keys : (i : ℕ) (a : Action) → slice_get s.actions i ≡ Some a → All (λ c. IsTrue (are_frames_rising (λ k. k.frame) c.keys)) a.curves
  action_keys i a at =
      let facts : ActionFacts a = All-contains ActionFacts s.actions a (scene_facts s met).actions.each (Contains-slice_get s.actions i a at) in
      All-weaker CurveFacts (λ c. IsTrue (are_frames_rising (λ k. k.frame) c.keys)) (λ c f. f.frames_rise) a.curves facts.curves

  -- an animated object, and its action
  pub animated_object : (id : AnimId) (o : ObjectId) → Contains (operations s) (Animation id) → id ≡ anim.Object o → (object : Object) × (object_of s o ≡ Some object) × IsSome (option_and_then (slice_get s.actions) object.action)
  animated_object id o within is =
      let has : IsTrue (has_action s (anim.Object o)) = subst (λ id. IsTrue (has_action s id)) is (operation_has s met (Animation id) within) in
      let number = is_some-Some (action_index s (anim.Object o)) has in
      let found = option_and_then-Some (λ (object : Object). object.action) (object_of s o) number.0 number.1 in
      let facts : ObjectFacts s found.0 = All-contains (ObjectFacts s) s.objects found.0 (scene_facts s met).objects.each (found_object s o found.0 found.1) in
      (found.0, found.1, action_there s found.0.action number.0 found.2 facts.action_is_there)

  -- an animated pencil, and its action
  pub animated_pencil : (id : AnimId) (p : ℕ) → Contains (operations s) (Animation id) → id ≡ anim.Pencil p → (pencil : PencilData) × (slice_get s.pencils p ≡ Some pencil) × IsSome (option_and_then (slice_get s.actions) pencil.action)
  animated_pencil id p within is =
      let has : IsTrue (has_action s (anim.Pencil p)) = subst (λ id. IsTrue (has_action s id)) is (operation_has s met (Animation id) within) in
      let number = is_some-Some (action_index s (anim.Pencil p)) has in
      let found = option_and_then-Some (λ (pencil : PencilData). pencil.action) (slice_get s.pencils p) number.0 number.1 in
      let facts : PencilFacts s found.0 = All-contains (PencilFacts s) s.pencils found.0 (scene_facts s met).pencils.each (Contains-slice_get s.pencils p found.0 found.1) in
      (found.0, found.1, action_there s found.0.action number.0 found.2 facts.action_is_there)

  -- an armature object
  pub posed_object : (o : ObjectId) → Contains (operations s) (PoseInit o) → (object : Object) × (object_of s o ≡ Some object)
  posed_object o within = let found = some_where (λ (object : Object). is_posed object.kind) (object_of s o) (operation_has s met (PoseInit o) within) in (found.0, found.1)

-- the first input is of the operation that the first link names
first_op : (inputs : List Output) (link : InLink) (links : List InLink) → map link_of inputs ≡ link ∷ links → IfSome (slice_get inputs 0) (λ i. i.op ≡ link.op)
first_op [] link links is = absurd (cc)
first_op (i ∷ inputs) link links is = ap (λ (l : InLink). l.op) (same_Some (link_of i) link (ap (λ ls. slice_get ls 0) is))

pub animation_time : (s : SceneRecord) (id : AnimId) (inputs : List Output) → map link_of inputs ≡ ins s (Animation id) → IfSome (slice_get inputs 0) (λ i. i.op ≡ Time)
unfolding ins
animation_time s id inputs is = first_op inputs (kept_link Time) [] is

pub animation_is : (s : SceneRecord) (mode : Mode) (frame : ℤ) (id : AnimId) (inputs : List Output) (action : Action) (numbers : List (Option ℤ)) → action_of s id ≡ Some action → numbers ≡ action_numbers action (frame_at inputs 0)
    → kernel s mode frame (Animation id) inputs ≡ Some (Numbers numbers)
unfolding kernel
animation_is s mode frame id inputs action numbers found is =
    ap (option_map (λ (action : Action). Numbers (action_numbers action (frame_at inputs 0)))) found ∙ ap (λ numbers. Some (Numbers numbers)) (sym is)

-- without an action there is no input
none_without : (b : Bool) (id : AnimId) (inputs : List Output) → map link_of inputs ≡ map kept_link (if b then Animation id ∷ [] else []) → numbers_at inputs 0 ≡ (if b then numbers_at inputs 0 else [])
none_without true id inputs is = refl
none_without false id [] is = refl
none_without false id (i ∷ inputs) is = absurd (cc)

pub pose_init_is : (s : SceneRecord) (mode : Mode) (frame : ℤ) (o : ObjectId) (inputs : List Output) (object : Object) (numbers : List (Option ℤ)) → object_of s o ≡ Some object → map link_of inputs ≡ ins s (PoseInit o)
    → numbers ≡ numbers_at inputs 0 → kernel s mode frame (PoseInit o) inputs ≡ Some (Numbers numbers)
unfolding kernel ins
pose_init_is s mode frame o inputs object numbers found links is =
    ap (option_map (λ (object : Object). Numbers (curve_numbers s (anim.Object o) inputs))) found
    ∙ ap (λ numbers. Some (Numbers numbers)) (sym (is ∙ none_without (has_action s (anim.Object o)) (anim.Object o) inputs links))

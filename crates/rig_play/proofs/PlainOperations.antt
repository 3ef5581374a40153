-- The operations of a plain scene: how many there are, and how many of them run at a frame step.
use Rattle.std.proofs.Common.{◌≡◌, ℕ, suc, ◌+◌, Bool, true, false, not, cond, ◌&&◌, ◌||◌, List, [], ◌∷◌, ◌++◌, map, length, Option, Some, None, ℤ, refl, ap, ◌∙◌, arith}
use Rattle.std.specs.Prelude.{if◌then◌else◌, slice_get, is_some, option_and_then, unwrap_or}
use Rattle.std.specs.List.{filter, flat_map, sum_by, enumerate_from}
use Rattle.std.specs.Option.{option_map_or}
use Rattle.std.specs.Ordering.{int_eq}
use Rattle.std.proofs.lemmas.List.{length-append}
use Rattle.std.proofs.lemmas.List.Concat.{length-flat_map}
use Rattle.std.proofs.lemmas.List.Elements.{All-contains, filter-append}
use Rattle.rig_scene.specs.declared.id.AnimId.TheVariants as anim
use Rattle.rig_scene.specs.declared.id.ObjectId.{ObjectId}
use Rattle.rig_scene.specs.declared.object.Object.{Object}
use Rattle.rig_scene.specs.declared.operation.OpId.{OpId}
use Rattle.rig_scene.specs.declared.operation.OpId.TheVariants.{Time, Animation, Driver, Local, World}
use Rattle.rig_scene.specs.Drivers.{has_action}
use Rattle.rig_scene.specs.Id.{same_id}
use Rattle.rig_scene.specs.Operations.{animation_of, kind_operations, object_operations, pencil_operations, operations}
use Rattle.rig_scene.specs.Scene.{SceneRecord, object_of}
use Rattle.rig_scene.specs.WellFormed.{is_scene}
use Rattle.rig_laws.specs.HasQuantity.{object_found}
use Rattle.rig_laws.specs.Lists.{All-elements}
use Rattle.rig_play.specs.Flush.{was_set, is_moved, is_first, is_flushed, flushed}
use Rattle.rig_play.specs.Plain.{is_plain_scene}
use Rattle.rig_play.specs.Stands.{object_count, is_reached, object_ran, objects_ran}
use Rattle.rig_play.specs.State.{PlayState}
use Rattle.rig_play.proofs.PlainScene.{PlainObject, PlainFacts, plain_facts, flat_map_same, object_of_id, position_of_id}

-- ---- the operations

-- the operations of a plain object, by whether it has an action
abbrev pub operations_of : ObjectId → Bool → List OpId
operations_of id true = Animation (anim.Object id) ∷ Local id ∷ World id ∷ []
operations_of id false = Local id ∷ World id ∷ []

-- the same of an object
abbrev pub operations_by_action : Object → List OpId
operations_by_action o = operations_of o.id (is_some o.action)

-- the animation that an object with an action has, no drivers, and the transforms
by_action : (id : ObjectId) (b : Bool) → (cond b (Animation (anim.Object id) ∷ []) [] ++ []) ++ Local id ∷ World id ∷ [] ≡ operations_of id b
by_action id true = refl
by_action id false = refl

module _ (s : SceneRecord) (facts : PlainFacts s) where
  -- an object that its id finds has those operations
  of_plain_object : (o : Object) → PlainObject o → object_of s o.id ≡ Some o → object_operations s o ≡ operations_by_action o
  of_plain_object o plain found =
      ap (λ ds. (animation_of s (anim.Object o.id) ++ map (λ d. Driver d.id d.path) (filter (λ d. same_id d.id (anim.Object o.id)) ds)) ++ Local o.id ∷ World o.id ∷ kind_operations o.id o.kind) facts.drivers
      ∙ ap (λ k. (animation_of s (anim.Object o.id) ++ []) ++ Local o.id ∷ World o.id ∷ kind_operations o.id k) plain.kind
      ∙ ap (λ r. (cond (is_some (option_and_then (λ object. object.action) r)) (Animation (anim.Object o.id) ∷ []) [] ++ []) ++ Local o.id ∷ World o.id ∷ []) found
      ∙ by_action o.id (is_some o.action)

-- the operations of a plain scene: the time, then those of each object
pub plain_operations : (s : SceneRecord) → is_scene s ≡ true → is_plain_scene s ≡ true → operations s ≡ Time ∷ flat_map operations_by_action s.objects
plain_operations s met is =
    let facts = plain_facts s is in
    ap (λ ps. Time ∷ (flat_map (λ e. pencil_operations s e.0 e.1) (enumerate_from 0 ps) ++ flat_map (object_operations s) s.objects)) facts.pencils
    ∙ ap (λ ops. Time ∷ ops) (flat_map_same (object_operations s) operations_by_action s.objects
    (All-elements (λ o. object_operations s o ≡ operations_by_action o) s.objects
    (λ o h. of_plain_object s facts o (All-contains PlainObject s.objects o facts.objects h) (object_found s met o h))))

-- how many operations a plain object has
operations_of-length : (id : ObjectId) (b : Bool) → length (operations_of id b) ≡ cond b 3 2
operations_of-length id true = refl
operations_of-length id false = refl

-- how many operations a plain scene has
pub operations_count : (s : SceneRecord) → is_scene s ≡ true → is_plain_scene s ≡ true → length (operations s) ≡ 1 + sum_by object_count s.objects
operations_count s met is =
    let whole : length (operations s) ≡ suc (length (flat_map operations_by_action s.objects)) = ap length (plain_operations s met is) in
    let rows : length (flat_map operations_by_action s.objects) ≡ sum_by (λ o. length (operations_by_action o)) s.objects = length-flat_map operations_by_action s.objects in
    let each : sum_by (λ o. length (operations_by_action o)) s.objects ≡ sum_by object_count s.objects = λ i. sum_by (λ o. operations_of-length o.id (is_some o.action) i) s.objects in
    omega arith

-- ---- those that run

-- how many of an object's operations pass a test
object_passes : (test : OpId → Bool) (id : ObjectId) (b m r : Bool) → test (Animation (anim.Object id)) ≡ m → test (Local id) ≡ r
    → test (World id) ≡ r
    → length (filter test (operations_of id b)) ≡ cond (m && b) 1 0 + cond r 2 0
object_passes test id true true true a l w = rw (a, l, w) refl
object_passes test id true true false a l w = rw (a, l, w) refl
object_passes test id true false true a l w = rw (a, l, w) refl
object_passes test id true false false a l w = rw (a, l, w) refl
object_passes test id false true true a l w = rw (l, w) refl
object_passes test id false true false a l w = rw (l, w) refl
object_passes test id false false true a l w = rw (l, w) refl
object_passes test id false false false a l w = rw (l, w) refl

module _ (test : OpId → Bool) (first moved : Bool) where
  -- a test passes an object's animation where the frame moved, and its transforms where a pass reaches it
  pub record TestsReached (o : Object) (mark : Bool) : Type 0 where
    pub animation : test (Animation (anim.Object o.id)) ≡ moved
    pub local : test (Local o.id) ≡ is_reached first moved o mark
    pub world : test (World o.id) ≡ is_reached first moved o mark

  -- how many operations of plain objects pass such a test
  objects_pass : (objects : List Object) (marks : List Bool) → length marks ≡ length objects
      → ((k : ℕ) (o : Object) (mark : Bool) → slice_get objects k ≡ Some o → slice_get marks k ≡ Some mark → TestsReached o mark)
      → length (filter test (flat_map operations_by_action objects)) ≡ objects_ran first moved objects marks
  objects_pass [] marks e each = refl
  objects_pass (o ∷ objects) [] e each = absurd (omega arith)
  objects_pass (o ∷ objects) (mark ∷ marks) e each =
      let reached : TestsReached o mark = each 0 o mark refl refl in
      let here : length (filter test (operations_by_action o)) ≡ object_ran first moved o mark =
      object_passes test o.id (is_some o.action) moved (is_reached first moved o mark) reached.animation reached.local reached.world in
      let rest : length (filter test (flat_map operations_by_action objects)) ≡ objects_ran first moved objects marks =
      objects_pass objects marks (omega arith) (λ k x y f g. each (suc k) x y f g) in
      ap length (filter-append test (operations_by_action o) (flat_map operations_by_action objects))
      ∙ length-append (filter test (operations_by_action o)) (filter test (flat_map operations_by_action objects))
      ∙ (λ i. here i + rest i)

-- an animation and the time run where the frame moved, as it did at the first frame step
by_time : (last : Option ℤ) (frame : ℤ) → (is_first last || (is_moved last frame && true) || false) ≡ is_moved last frame
by_time None frame = refl
by_time (Some last) frame = by (not (int_eq last frame))
  where
    by : (b : Bool) → (false || (b && true) || false) ≡ b
    by true = refl
    by false = refl

module _ (state : PlayState) (frame : ℤ) (met : is_scene state.scene ≡ true) where
  -- whether an object was set is its mark
  was_set_of : (k : ℕ) (o : Object) (mark : Bool) → slice_get state.scene.objects k ≡ Some o → slice_get state.set k ≡ Some mark
      → was_set state o.id ≡ mark
  was_set_of k o mark e m =
      ap (λ r. option_map_or (λ index. unwrap_or (slice_get state.set index) false) r false) (position_of_id state.scene met k o e)
      ∙ ap (λ r. unwrap_or r false) m

  -- whether an object has an action is told by its id
  has_action_of : (k : ℕ) (o : Object) → slice_get state.scene.objects k ≡ Some o → has_action state.scene (anim.Object o.id) ≡ is_some o.action
  has_action_of k o e = ap (λ r. is_some (option_and_then (λ object. object.action) r)) (object_of_id state.scene met k o e)

  -- its transforms run where a pass reaches it
  reached_of : (k : ℕ) (o : Object) (mark : Bool) → slice_get state.scene.objects k ≡ Some o → slice_get state.set k ≡ Some mark
      → (is_first state.last || (is_moved state.last frame && has_action state.scene (anim.Object o.id)) || was_set state o.id) ≡ is_reached (is_first state.last) (is_moved state.last frame) o mark
  reached_of k o mark e m =
      let action = has_action_of k o e in
      let set = was_set_of k o mark e m in
      λ i. is_first state.last || (is_moved state.last frame && action i) || set i

  -- the flush is such a test
  tests_reached : (k : ℕ) (o : Object) (mark : Bool) → slice_get state.scene.objects k ≡ Some o → slice_get state.set k ≡ Some mark
      → TestsReached (is_flushed state frame) (is_first state.last) (is_moved state.last frame) o mark
  tests_reached k o mark e m =
      record { animation = by_time state.last frame; local = reached_of k o mark e m; world = reached_of k o mark e m }

-- the time runs where the frame moved
time_passes : (test : OpId → Bool) (moved : Bool) (rest : List OpId) → test Time ≡ moved → length (filter test (Time ∷ rest)) ≡ cond moved 1 0 + length (filter test rest)
time_passes test true rest e = rw e (omega arith)
time_passes test false rest e = rw e (omega arith)

-- how many operations of a plain scene run at a frame step
pub flushed_count : (state : PlayState) (frame : ℤ) → is_scene state.scene ≡ true → is_plain_scene state.scene ≡ true
    → length state.set ≡ length state.scene.objects
    → length (flushed state frame) ≡ (if is_moved state.last frame then 1 else 0) + objects_ran (is_first state.last) (is_moved state.last frame) state.scene.objects state.set
flushed_count state frame met is lengths =
    ap (λ ops. length (filter (is_flushed state frame) ops)) (plain_operations state.scene met is)
    ∙ time_passes (is_flushed state frame) (is_moved state.last frame) (flat_map operations_by_action state.scene.objects) (by_time state.last frame)
    ∙ ap (λ n. cond (is_moved state.last frame) 1 0 + n)
    (objects_pass (is_flushed state frame) (is_first state.last) (is_moved state.last frame) state.scene.objects state.set lengths (tests_reached state frame met))

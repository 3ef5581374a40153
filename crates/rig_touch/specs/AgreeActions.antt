-- What an edit of an action doesn't touch has all in common with the scene before it.
use Rattle.std.specs.Prelude.{◌≡◌, ℕ, zero, suc, List, [], filter, map, slice_get, Option, None, Some, option_and_then, ℤ, Contains}
use Rattle.std.specs.Option.{option_map_or}
use Rattle.std.specs.List.{position, enumerate_from}
use Rattle.std.proofs.Common.{refl, sym, ap, subst, ◌∙◌}
use Rattle.std.proofs.lemmas.Bool.{eq-eqb}
use Rattle.std.proofs.lemmas.List.Elements.{Contains-append_left, Contains-append_right}
use Rattle.rig_scene.specs.declared.action.Action.{Action}
use Rattle.rig_scene.specs.declared.action.Curve.{Curve}
use Rattle.rig_scene.specs.declared.action.Interp.{Interp}
use Rattle.rig_scene.specs.declared.action.Key.{Key}
use Rattle.rig_scene.specs.declared.driver.Variable.{Variable}
use Rattle.rig_scene.specs.declared.driver.Variable.TheVariants as variable
use Rattle.rig_scene.specs.declared.id.AnimId.{AnimId}
use Rattle.rig_scene.specs.declared.id.AnimId.TheVariants as anim
use Rattle.rig_scene.specs.declared.id.ObjectId.{ObjectId}
use Rattle.rig_scene.specs.declared.object.Object.{Object}
use Rattle.rig_scene.specs.declared.operation.OpId.{OpId}
use Rattle.rig_scene.specs.declared.operation.OpId.TheVariants.{Time, Animation, Driver, Local, World, PoseInit, Bone, PoseDone, Layer, Geometry, ModifierOp, GeometryDone}
use Rattle.rig_scene.specs.declared.path.Path.{Path}
use Rattle.rig_scene.specs.declared.pencil.BoneRef.{BoneRef}
use Rattle.rig_scene.specs.declared.pencil.PencilData.{PencilData}
use Rattle.rig_scene.specs.ChannelNumber.{action_of, number_among, animated_number}
use Rattle.rig_scene.specs.Drivers.{driver_of, action_index}
use Rattle.rig_scene.specs.Path.{same_path}
use Rattle.rig_scene.specs.Scene.{SceneRecord, object_of}
use Rattle.rig_scene.specs.Text.{same_text}
use Rattle.rig_scene.specs.WellFormed.{bones_of}
use Rattle.rig_edits.specs.declared.edit.Edit.TheVariants.{SetKey, DeleteKey}
use Rattle.rig_edits.specs.Edited.{edited, with_curve, put_key, drop_key}
use Rattle.rig_edits.specs.Named.{update_first}
use Rattle.rig_laws.specs.FoundObject.{found_id, found_object}
use Rattle.rig_laws.specs.Lists.{All-of_any, Contains-numbered, option_and_then-Some}
use Rattle.rig_touch.specs.Agree.{SameCurves, SameVariable, SameShown, Agree, modifier_at, layer_at, one_layer, other_original}
use Rattle.rig_touch.specs.FirstChanged.{and_then_twice, at_index, map-first, position-same}
use Rattle.rig_touch.specs.Listed.{kept_listed}
use Rattle.rig_touch.specs.Touch.{uses_action, animations_of, animations_named, touch}

-- ---- what is touched

-- the animations of the pencils, and of the objects, that have the action of an index
abbrev pencils_with : SceneRecord → ℕ → List OpId
pencils_with s i = map (λ e. Animation (anim.Pencil e.0)) (filter (λ e. uses_action i e.1.action) (enumerate_from 0 s.pencils))

abbrev objects_with : SceneRecord → ℕ → List OpId
objects_with s i = map (λ o. Animation (anim.Object o.id)) (filter (λ o. uses_action i o.action) s.objects)

-- the animation of an id that has the action of an index
animation_touched : (s : SceneRecord) (id : AnimId) (i : ℕ) → action_index s id ≡ Some i → Contains (animations_of s i) (Animation id)
animation_touched s (anim.Object o) i has =
    let found = option_and_then-Some (λ (object : Object). object.action) (object_of s o) i has in
    Contains-append_right (pencils_with s i) _ (Animation (anim.Object o))
    (subst (λ id. Contains (objects_with s i) (Animation (anim.Object id)))
    (found_id s o found.0 found.1)
    (kept_listed (λ (o : Object). Animation (anim.Object o.id)) (λ o. uses_action i o.action) s.objects found.0
    (found_object s o found.0 found.1) (ap (uses_action i) found.2 ∙ eq-eqb i i refl)))
animation_touched s (anim.Pencil p) i has =
    let found = option_and_then-Some (λ (pencil : PencilData). pencil.action) (slice_get s.pencils p) i has in
    Contains-append_left (pencils_with s i) _ (Animation (anim.Pencil p))
    (kept_listed (λ (e : ℕ × PencilData). Animation (anim.Pencil e.0)) (λ e. uses_action i e.1.action) (enumerate_from 0 s.pencils)
    (p, found.0) (Contains-numbered s.pencils p found.0 found.1) (ap (uses_action i) found.2 ∙ eq-eqb i i refl))

-- ---- a curve changed, but for its path

module _ (s : SceneRecord) (name : List ℕ) (path : Path) (change : Curve → Curve)
    (paths_stay : (c : Curve) → (change c).path ≡ c.path) where
  abbrev changed : Action → Action
  changed a = record a { curves = update_first (λ c. same_path c.path path) change a.curves }

  abbrev t : SceneRecord
  t = with_curve s name path change

  -- what is read of an id's action is the same where it is of the one that is changed
  read_same : {C : Type 0} (f : Action → Option C) (id : AnimId)
      → ((i : ℕ) (a : Action) → action_index s id ≡ Some i → position (λ a. same_text a.name name) s.actions ≡ Some i → f (changed a) ≡ f a)
      → option_and_then f (action_of s id) ≡ option_and_then f (action_of t id)
  read_same f id same =
      ap (option_and_then f) (through s id) ∙ by (action_index s id) refl
      ∙ sym (ap (option_and_then f) (through t id ∙ ap (option_and_then (slice_get t.actions)) (index_same id)))
    where
      through : (s : SceneRecord) (id : AnimId) → action_of s id ≡ option_and_then (slice_get s.actions) (action_index s id)
      through s (anim.Object o) = and_then_twice (λ (object : Object). object.action) (slice_get s.actions) (object_of s o)
      through s (anim.Pencil p) = and_then_twice (λ (pencil : PencilData). pencil.action) (slice_get s.actions) (slice_get s.pencils p)

      index_same : (id : AnimId) → action_index t id ≡ action_index s id
      index_same (anim.Object o) = refl
      index_same (anim.Pencil p) = refl

      by : (r : Option ℕ) → action_index s id ≡ r
          → option_and_then f (option_and_then (slice_get s.actions) r) ≡ option_and_then f (option_and_then (slice_get t.actions) r)
      by None has = refl
      by (Some i) has =
          at_index (λ a. same_text a.name name) changed s.actions i
          (λ r. option_and_then f (slice_get s.actions i) ≡ option_and_then f r) refl
          (λ a is at passes. ap (option_and_then f) at ∙ sym (same i a has is))

  numbers_same : (id : AnimId) (numbers : List (Option ℤ)) (p : Path)
      → animated_number s (λ (other : AnimId). numbers) id p ≡ animated_number t (λ (other : AnimId). numbers) id p
  unfolding animated_number
  numbers_same id numbers p =
      read_same (λ action. number_among action numbers p) id (λ i a has is.
      ap (option_and_then (λ i. option_and_then (λ number. number) (slice_get numbers i)))
      (position-same (λ (c : Curve). c.path) (λ q. same_path q p) a.curves (changed a).curves
      (map-first (λ c. same_path c.path path) change a.curves (λ c. c.path) (λ c passes. paths_stay c))))

  curves_same : (id : AnimId) → SameCurves s t id
  curves_same (anim.Object o) = record { action = refl; curves = numbers_same (anim.Object o) }
  curves_same (anim.Pencil p) = record { action = refl; curves = numbers_same (anim.Pencil p) }

  variable_same : (v : Variable) → SameVariable s t v
  variable_same (variable.Property id p) = (curves_same id, other_original s t.actions s.drivers id p, refl)
  variable_same (variable.Transform object space channel) = tt

  shown_same : (p l : ℕ) → SameShown s t p l
  shown_same p l = record {
    there = refl;
    layers = one_layer s t (layer_at s p l);
    drawing = λ frame. refl;
    curves = curves_same (anim.Pencil p);
    driven = λ layer at. refl;
    bones = λ layer at. All-of_any (λ (bound : BoneRef). bones_of s bound.object ≡ bones_of t bound.object) _ (λ bound. refl);
  }

  -- an id's action is the same where it isn't the one of the name
  action_same : (id : AnimId) → (Contains (animations_named s name) (Animation id) → ⊥) → action_of s id ≡ action_of t id
  action_same id apart =
      sym (itself (action_of s id)) ∙ read_same (λ a. Some a) id (λ i a has is. touched i has is) ∙ itself (action_of t id)
    where
      itself : (r : Option Action) → option_and_then (λ a. Some a) r ≡ r
      itself None = refl
      itself (Some a) = refl

      touched : {A : Type 0} (i : ℕ) → action_index s id ≡ Some i → position (λ a. same_text a.name name) s.actions ≡ Some i → A
      touched i has is =
          absurd (apart (subst (λ ops. Contains ops (Animation id)) (sym (ap (λ r. option_map_or (animations_of s) r []) is))
          (animation_touched s id i has)))

  modifier_same : (o : ObjectId) (i : ℕ) → modifier_at s o i ≡ modifier_at t o i
  modifier_same o zero = refl
  modifier_same o (suc i) = refl

  curve_agrees : (op : OpId) → (Contains (animations_named s name) op → ⊥) → Agree s t op
  curve_agrees Time apart = tt
  curve_agrees (Animation id) apart = action_same id apart
  curve_agrees (Driver id p) apart =
      record {
        driver = refl;
        variables = All-of_any (SameVariable s t) (option_map_or (λ d. d.variables) (driver_of s id p) []) variable_same;
      }
  curve_agrees (Local o) apart = record { own = refl; curves = curves_same (anim.Object o); driven = refl }
  curve_agrees (World o) apart = refl
  curve_agrees (PoseInit o) apart = (refl, curves_same (anim.Object o))
  curve_agrees (Bone o b) apart = record { posed = refl; curves = curves_same (anim.Object o); driven = λ bone at. refl }
  curve_agrees (PoseDone o) apart = refl
  curve_agrees (Layer p l) apart = shown_same p l
  curve_agrees (Geometry o) apart = refl
  curve_agrees (ModifierOp o i) apart = modifier_same o i
  curve_agrees (GeometryDone o) apart = refl

-- ---- the edits

pub set_key_agrees : (s : SceneRecord) (action : List ℕ) (path : Path) (frame value : ℤ) (interp : Interp) (op : OpId)
    → (Contains (touch s (SetKey action path frame value interp)) op → ⊥) → Agree s (edited s (SetKey action path frame value interp)) op
unfolding touch
set_key_agrees s action path frame value interp op apart =
    let key : Key = record { frame = frame; interp = interp; value = value } in
    curve_agrees s action path (λ c. record c { keys = put_key (λ k. k.frame) key c.keys }) (λ c. refl) op apart

pub delete_key_agrees : (s : SceneRecord) (action : List ℕ) (path : Path) (frame : ℤ) (op : OpId)
    → (Contains (touch s (DeleteKey action path frame)) op → ⊥) → Agree s (edited s (DeleteKey action path frame)) op
unfolding touch
delete_key_agrees s action path frame op apart =
    curve_agrees s action path (λ c. record c { keys = drop_key (λ k. k.frame) frame c.keys }) (λ c. refl) op apart

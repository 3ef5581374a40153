-- Two scenes that differ in their pencils alone: what they have in common for an operation.
use Rattle.std.specs.Prelude.{◌≡◌, ℕ, zero, suc, List, [], map, slice_get, Bool, true, Option, None, Some, option_map, option_and_then, is_some, ℤ}
use Rattle.std.specs.Option.{option_map_or}
use Rattle.std.specs.List.{All}
use Rattle.std.proofs.Common.{refl, sym, ap, ◌∙◌}
use Rattle.std.proofs.lemmas.Bool.{eq-eqb}
use Rattle.std.proofs.lemmas.List.Elements.{All-weaker}
use Rattle.std.proofs.lemmas.Option.{same_Some}
use Rattle.rig_scene.specs.declared.driver.Variable.{Variable}
use Rattle.rig_scene.specs.declared.driver.Variable.TheVariants as variable
use Rattle.rig_scene.specs.declared.id.AnimId.{AnimId}
use Rattle.rig_scene.specs.declared.id.AnimId.TheVariants as anim
use Rattle.rig_scene.specs.declared.id.ObjectId.{ObjectId}
use Rattle.rig_scene.specs.declared.object.Kind.{Kind}
use Rattle.rig_scene.specs.declared.object.Kind.TheVariants as kind
use Rattle.rig_scene.specs.declared.object.Object.{Object}
use Rattle.rig_scene.specs.declared.operation.OpId.{OpId}
use Rattle.rig_scene.specs.declared.operation.OpId.TheVariants.{Time, Animation, Driver, Local, World, PoseInit, Bone, PoseDone, Layer, Geometry, ModifierOp, GeometryDone}
use Rattle.rig_scene.specs.declared.path.Path.{Path}
use Rattle.rig_scene.specs.declared.pencil.BoneRef.{BoneRef}
use Rattle.rig_scene.specs.declared.pencil.Drawing.{Drawing}
use Rattle.rig_scene.specs.declared.pencil.Layer.{Layer as LayerRecord}
use Rattle.rig_scene.specs.declared.pencil.PencilData.{PencilData}
use Rattle.rig_scene.specs.ChannelNumber.{action_of, number_among, animated_number, original_number}
use Rattle.rig_scene.specs.Drivers.{driver_of}
use Rattle.rig_scene.specs.Layer.{held_drawing}
use Rattle.rig_scene.specs.Scene.{SceneRecord, object_of, pencil_of}
use Rattle.rig_scene.specs.WellFormed.{bones_of}
use Rattle.rig_laws.specs.Lists.{All-of_any}
use Rattle.rig_touch.specs.Agree.{SameCurves, SameVariable, SameShown, Agree, layer_at, hidden_layers, bare, same_bare}
use Rattle.rig_touch.specs.FirstChanged.{and_then_twice}
use Rattle.rig_touch.specs.Touch.{has_pencil}

-- what a function reads of the pencil of an index is the same in two lists of pencils
abbrev pub SameAt : {C : Type 0} → List PencilData → List PencilData → (PencilData → Option C) → ℕ → Type 0
SameAt ps qs f p = option_and_then f (slice_get ps p) ≡ option_and_then f (slice_get qs p)

-- a layer of a pencil but its switch, and the drawing that it holds at a frame
abbrev pub bare_layer : ℕ → PencilData → Option LayerRecord
bare_layer l pencil = option_and_then (λ layer. Some (bare layer)) (slice_get pencil.layers l)

abbrev pub held : ℕ → ℤ → PencilData → Option Drawing
held l frame pencil =
    option_and_then (λ layer. option_and_then (slice_get pencil.drawings) (held_drawing layer.keys frame)) (slice_get pencil.layers l)

-- which layers of a pencil are hidden
abbrev pub switches : PencilData → Option (List Bool)
switches pencil = Some (map (λ l. l.hidden) pencil.layers)

module _ (s : SceneRecord) (ps : List PencilData) where
  -- the original number that a variable names is the same
  abbrev pub SameOriginal : Variable → Type 0
  SameOriginal (variable.Property id path) = original_number s id path ≡ original_number (record s { pencils = ps }) id path
  SameOriginal (variable.Transform object space channel) = Unit {0}

  -- what has to be the same beside the actions of pencils
  abbrev pub Beside : OpId → Type 0
  Beside (Driver id path) = All SameOriginal (option_map_or (λ d. d.variables) (driver_of s id path) [])
  Beside (Layer p l) = SameAt s.pencils ps (bare_layer l) p × ((frame : ℤ) → SameAt s.pencils ps (held l frame) p)
  Beside (Geometry o) =
      (object : Object) → object_of s o ≡ Some object → (p : ℕ) → has_pencil p object.kind ≡ true → SameAt s.pencils ps switches p
  Beside op = Unit {0}

  module _ (actions : (p : ℕ) → SameAt s.pencils ps (λ pencil. pencil.action) p) where
    -- an id's action is the same
    action_same : (id : AnimId) → action_of s id ≡ action_of (record s { pencils = ps }) id
    action_same (anim.Object o) = refl
    action_same (anim.Pencil p) =
        and_then_twice (λ (pencil : PencilData). pencil.action) (slice_get s.actions) (slice_get s.pencils p)
        ∙ ap (option_and_then (slice_get s.actions)) (actions p)
        ∙ sym (and_then_twice (λ (pencil : PencilData). pencil.action) (slice_get s.actions) (slice_get ps p))

    numbers_same : (id : AnimId) (numbers : List (Option ℤ)) (path : Path) → animated_number s (λ (other : AnimId). numbers) id path
        ≡ animated_number (record s { pencils = ps }) (λ (other : AnimId). numbers) id path
    unfolding animated_number
    numbers_same id numbers path = ap (option_and_then (λ action. number_among action numbers path)) (action_same id)

    curves_same : (id : AnimId) → SameCurves s (record s { pencils = ps }) id
    curves_same (anim.Object o) = record { action = refl; curves = numbers_same (anim.Object o) }
    curves_same (anim.Pencil p) = record { action = ap is_some (actions p); curves = numbers_same (anim.Pencil p) }

    variable_same : (v : Variable) → SameOriginal v → SameVariable s (record s { pencils = ps }) v
    variable_same (variable.Property id path) same = (curves_same id, same, refl)
    variable_same (variable.Transform object space channel) same = tt

    layer_same : (p l : ℕ) → SameAt s.pencils ps (bare_layer l) p
        → option_map bare (layer_at s p l) ≡ option_map bare (layer_at (record s { pencils = ps }) p l)
    layer_same p l same = sym (through (slice_get s.pencils p)) ∙ same ∙ through (slice_get ps p)
      where
        as_map : (r : Option LayerRecord) → option_and_then (λ layer. Some (bare layer)) r ≡ option_map bare r
        as_map None = refl
        as_map (Some layer) = refl

        through : (r : Option PencilData) → option_and_then (bare_layer l) r
            ≡ option_map bare (option_and_then (λ pencil. slice_get pencil.layers l) r)
        through None = refl
        through (Some pencil) = as_map (slice_get pencil.layers l)

    same_there : (a b : Option LayerRecord) → option_map bare a ≡ option_map bare b → is_some a ≡ is_some b
    same_there None None e = refl
    same_there None (Some y) e = cc
    same_there (Some x) None e = cc
    same_there (Some x) (Some y) e = refl

    shown_same : (p l : ℕ) → SameAt s.pencils ps (bare_layer l) p → ((frame : ℤ) → SameAt s.pencils ps (held l frame) p)
        → SameShown s (record s { pencils = ps }) p l
    shown_same p l same drawing = record {
      there = same_there (layer_at s p l) (layer_at (record s { pencils = ps }) p l) (layer_same p l same);
      layers = λ layer other old new.
          same_bare s (record s { pencils = ps }) layer other
          (same_Some (bare layer) (bare other) (sym (ap (option_map bare) old) ∙ layer_same p l same ∙ ap (option_map bare) new));
      drawing = drawing;
      curves = curves_same (anim.Pencil p);
      driven = λ layer at. refl;
      bones = λ layer at.
          All-of_any (λ (bound : BoneRef). bones_of s bound.object ≡ bones_of (record s { pencils = ps }) bound.object) _ (λ bound. refl);
    }

    switches_same : (o : ObjectId) → Beside (Geometry o) → hidden_layers s o ≡ hidden_layers (record s { pencils = ps }) o
    switches_same o same = by (object_of s o) refl
      where
        through : (r : Option PencilData) → option_map (λ pencil. map (λ l. l.hidden) pencil.layers) r ≡ option_and_then switches r
        through None = refl
        through (Some pencil) = refl

        at : (object : Object) → object_of s o ≡ Some object → (k : Kind) → object.kind ≡ k
            → option_map (λ pencil. map (λ l. l.hidden) pencil.layers) (pencil_of s k)
            ≡ option_map (λ pencil. map (λ l. l.hidden) pencil.layers) (pencil_of (record s { pencils = ps }) k)
        at object found kind.Empty is = refl
        at object found (kind.Armature armature pose) is = refl
        at object found (kind.Pencil p modifiers) is =
            through (slice_get s.pencils p) ∙ same object found p (ap (has_pencil p) is ∙ eq-eqb p p refl) ∙ sym (through (slice_get ps p))

        by : (r : Option Object) → object_of s o ≡ r
            → option_and_then (λ object. option_map (λ pencil. map (λ l. l.hidden) pencil.layers) (pencil_of s object.kind)) r
            ≡ option_and_then (λ object.
            option_map (λ pencil. map (λ l. l.hidden) pencil.layers) (pencil_of (record s { pencils = ps }) object.kind)) r
        by None found = refl
        by (Some object) found = at object found object.kind refl

    pub agree_beside : (op : OpId) → Beside op → Agree s (record s { pencils = ps }) op
    agree_beside Time same = tt
    agree_beside (Animation id) same = action_same id
    agree_beside (Driver id path) same = record {
      driver = refl;
      variables = All-weaker SameOriginal (SameVariable s (record s { pencils = ps })) variable_same
          (option_map_or (λ d. d.variables) (driver_of s id path) []) same;
    }
    agree_beside (Local o) same = record { own = refl; curves = curves_same (anim.Object o); driven = refl }
    agree_beside (World o) same = refl
    agree_beside (PoseInit o) same = (refl, curves_same (anim.Object o))
    agree_beside (Bone o b) same = record { posed = refl; curves = curves_same (anim.Object o); driven = λ bone at. refl }
    agree_beside (PoseDone o) same = refl
    agree_beside (Layer p l) same = shown_same p l same.0 same.1
    agree_beside (Geometry o) same = switches_same o same
    agree_beside (ModifierOp o i) same = by i
      where
        by : (i : ℕ) → Agree s (record s { pencils = ps }) (ModifierOp o i)
        by zero = refl
        by (suc i) = refl
    agree_beside (GeometryDone o) same = refl

-- nothing changed: a scene has all in common with itself
pub itself_agrees : (s : SceneRecord) (op : OpId) → Agree s s op
itself_agrees s op = agree_beside s s.pencils (λ p. refl) op (beside op)
  where
    itself : (v : Variable) → SameOriginal s s.pencils v
    itself (variable.Property id path) = refl
    itself (variable.Transform object space channel) = tt

    beside : (op : OpId) → Beside s s.pencils op
    beside (Driver id path) = All-of_any (SameOriginal s s.pencils) (option_map_or (λ d. d.variables) (driver_of s id path) []) itself
    beside (Layer p l) = (refl, λ frame. refl)
    beside (Geometry o) = λ object found p has. refl
    beside op = tt

-- What a moved point doesn't touch has all in common with the scene before it.
use Rattle.std.specs.Prelude.{◌≡◌, ℕ, List, [], filter, map, slice_get, true, Option, None, Some, option_map, option_and_then, ℤ, pos, Contains}
use Rattle.std.specs.Option.{option_map_or}
use Rattle.std.specs.List.{find, enumerate_from}
use Rattle.std.specs.Ordering.{int_eq}
use Rattle.std.proofs.Common.{refl, sym, ap, subst, ◌∙◌}
use Rattle.std.proofs.lemmas.Bool.Decides.{Decides-int_eq}
use Rattle.std.proofs.lemmas.List.Folds.{list_any-from_Any}
use Rattle.rig_scene.specs.declared.driver.Variable.{Variable}
use Rattle.rig_scene.specs.declared.driver.Variable.TheVariants as variable
use Rattle.rig_scene.specs.declared.id.AnimId.TheVariants as anim
use Rattle.rig_scene.specs.declared.operation.OpId.{OpId}
use Rattle.rig_scene.specs.declared.operation.OpId.TheVariants.{Driver, Layer, Geometry}
use Rattle.rig_scene.specs.declared.path.Path.TheVariants as paths
use Rattle.rig_scene.specs.declared.pencil.Drawing.{Drawing}
use Rattle.rig_scene.specs.declared.pencil.Layer.{Layer as LayerRecord}
use Rattle.rig_scene.specs.declared.pencil.LayerKey.{LayerKey}
use Rattle.rig_scene.specs.declared.pencil.PencilData.{PencilData}
use Rattle.rig_scene.specs.Channel.{coordinate_of}
use Rattle.rig_scene.specs.ChannelNumber.{original_number}
use Rattle.rig_scene.specs.Drivers.{driver_of}
use Rattle.rig_scene.specs.Keys.{key_up_to}
use Rattle.rig_scene.specs.Layer.{held_drawing}
use Rattle.rig_scene.specs.Scene.{SceneRecord}
use Rattle.rig_scene.specs.Text.{same_text}
use Rattle.rig_edits.specs.declared.edit.Edit.TheVariants.{MovePoint}
use Rattle.rig_edits.specs.declared.edit.Whole3.{Whole3}
use Rattle.rig_edits.specs.Edited.{edited, with_pencil, v3_of}
use Rattle.rig_edits.specs.Named.{pencil_index, update_at_number}
use Rattle.rig_laws.specs.Lists.{All-of_any, Contains-numbered, option_map-Some}
use Rattle.rig_touch.specs.Agree.{Agree}
use Rattle.rig_touch.specs.ChangedLayer.{same_at}
use Rattle.rig_touch.specs.FirstChanged.{number_elsewhere}
use Rattle.rig_touch.specs.Listed.{kept_listed, key_listed}
use Rattle.rig_touch.specs.OtherPencils.{SameOriginal, Beside, bare_layer, held, switches, agree_beside}
use Rattle.rig_touch.specs.Touch.{shows_drawing, drawing_layers, touch}

-- ---- what is touched

-- a drawing that a layer holds is one of its keys'
held_shows : (layer : LayerRecord) (frame drawing : ℤ) (d : ℕ) → held_drawing layer.keys frame ≡ Some d → drawing ≡ pos d
    → shows_drawing drawing layer ≡ true
held_shows layer frame drawing d holds is =
    let key = option_map-Some (λ (k : LayerKey). k.drawing) (key_up_to (λ (k : LayerKey). k.frame) frame layer.keys) d holds in
    let within = key_listed (λ (k : LayerKey). k.frame) frame layer.keys key.0 key.1 in
    list_any-from_Any (λ k. int_eq (pos k.drawing) drawing) layer.keys
    (within.0, key.0, within.1, within.2, (Decides-int_eq (pos key.0.drawing) drawing).1 (ap pos key.2 ∙ sym is))

-- a layer with a key of the drawing
drawing_touched : (s : SceneRecord) (drawing : ℤ) (p l : ℕ) (x : PencilData) (y : LayerRecord) → slice_get s.pencils p ≡ Some x
    → slice_get x.layers l ≡ Some y → shows_drawing drawing y ≡ true → Contains (drawing_layers s drawing p) (Layer p l)
drawing_touched s drawing p l x y at there shows =
    subst (λ ops. Contains ops (Layer p l))
    (sym (ap (λ r. option_map_or (λ (pencil : PencilData).
    map (λ e. Layer p e.0) (filter (λ e. shows_drawing drawing e.1) (enumerate_from 0 pencil.layers))) r []) at))
    (kept_listed (λ (e : ℕ × LayerRecord). Layer p e.0) (λ e. shows_drawing drawing e.1) (enumerate_from 0 x.layers) (l, y)
    (Contains-numbered x.layers l y there) shows)

-- ---- a drawing changed

module _ (s : SceneRecord) (pencil : List ℕ) (drawing : ℤ) (change : Drawing → Drawing) where
  abbrev changed : PencilData → PencilData
  changed p = record p { drawings = update_at_number change drawing p.drawings }

  original_same : (v : Variable) → SameOriginal s (with_pencil s pencil changed).pencils v
  unfolding original_number
  original_same (variable.Property (anim.Object o) path) = refl
  original_same (variable.Property (anim.Pencil p) (paths.Own channel)) = refl
  original_same (variable.Property (anim.Pencil p) (paths.Bone name channel)) = refl
  original_same (variable.Property (anim.Pencil p) (paths.Layer name axis)) =
      same_at s pencil changed (λ x. option_map (λ l. coordinate_of l.offset axis) (find (λ l. same_text l.name name) x.layers)) p
      (λ x is at. refl)
  original_same (variable.Transform object space channel) = tt

  -- a layer without a key of the drawing holds another one
  held_same : (x : PencilData) (l : ℕ) (frame : ℤ)
      → ((y : LayerRecord) → slice_get x.layers l ≡ Some y → shows_drawing drawing y ≡ true → ⊥) → held l frame (changed x) ≡ held l frame x
  held_same x l frame apart = by (slice_get x.layers l) refl
    where
      at : (y : LayerRecord) → slice_get x.layers l ≡ Some y → (r : Option ℕ) → held_drawing y.keys frame ≡ r
          → option_and_then (slice_get (changed x).drawings) r ≡ option_and_then (slice_get x.drawings) r
      at y there None holds = refl
      at y there (Some d) holds =
          number_elsewhere change drawing x.drawings d (λ is. apart y there (held_shows y frame drawing d holds is))

      by : (r : Option LayerRecord) → slice_get x.layers l ≡ r
          → option_and_then (λ y. option_and_then (slice_get (changed x).drawings) (held_drawing y.keys frame)) r
          ≡ option_and_then (λ y. option_and_then (slice_get x.drawings) (held_drawing y.keys frame)) r
      by None there = refl
      by (Some y) there = at y there (held_drawing y.keys frame) refl

  drawing_agrees : (op : OpId) → (Contains (option_map_or (drawing_layers s drawing) (pencil_index s pencil) []) op → ⊥)
      → Agree s (with_pencil s pencil changed) op
  drawing_agrees op apart = agree_beside s (with_pencil s pencil changed).pencils
      (λ p. same_at s pencil changed (λ pencil. pencil.action) p (λ x is at. refl)) op (beside op apart)
    where
      beside : (op : OpId) → (Contains (option_map_or (drawing_layers s drawing) (pencil_index s pencil) []) op → ⊥)
          → Beside s (with_pencil s pencil changed).pencils op
      beside (Driver id path) apart =
          All-of_any (SameOriginal s (with_pencil s pencil changed).pencils)
          (option_map_or (λ d. d.variables) (driver_of s id path) []) original_same
      beside (Layer p l) apart = (
        same_at s pencil changed (bare_layer l) p (λ x is at. refl),
        λ frame. same_at s pencil changed (held l frame) p (λ x is at. held_same x l frame (λ y there shows.
            apart (subst (λ ops. Contains ops (Layer p l)) (sym (ap (λ r. option_map_or (drawing_layers s drawing) r []) is))
            (drawing_touched s drawing p l x y at there shows)))),
      )
      beside (Geometry o) apart = λ object found p has. same_at s pencil changed switches p (λ x is at. refl)
      beside op apart = tt

pub move_point_agrees : (s : SceneRecord) (pencil : List ℕ) (drawing stroke point : ℤ) (to : Whole3) (op : OpId)
    → (Contains (touch s (MovePoint pencil drawing stroke point to)) op → ⊥)
    → Agree s (edited s (MovePoint pencil drawing stroke point to)) op
unfolding touch
move_point_agrees s pencil drawing stroke point to op apart =
    drawing_agrees s pencil drawing
    (λ d. record d {
      strokes = update_at_number
          (λ k. record k { points = update_at_number (λ _. v3_of to) point k.points }) stroke d.strokes;
    }) op apart

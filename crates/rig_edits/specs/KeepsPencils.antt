-- An accepted edit of a pencil leaves a scene.
use Rattle.std.proofs.Common.{◌≡◌, ℕ, ◌+◌, ◌<◌, ◌≤◌, Bool, false, cond, List, length, sum_by, ℤ, int_eq, slice_get, slice_set, Some, None, All, option_and_then, refl, sym, ap, ◌∙◌, subst, length-set, arith}
use Rattle.std.specs.Prelude.{IsTrue, is_none}
use Rattle.std.specs.List.{list_any}
use Rattle.std.specs.Option.{option_map_or}
use Rattle.std.proofs.lemmas.Bool.{or_parts, not-false}
use Rattle.std.proofs.lemmas.List.Elements.{All-set, All-weaker, All-filter}
use Rattle.rig_fixed.specs.declared.vector.V3.{V3}
use Rattle.rig_scene.specs.declared.path.Path.{Path}
use Rattle.rig_scene.specs.declared.path.Path.TheVariants.{Own, Bone, Layer}
use Rattle.rig_scene.specs.declared.pencil.Drawing.{Drawing}
use Rattle.rig_scene.specs.declared.pencil.Layer.{Layer as LayerRecord}
use Rattle.rig_scene.specs.declared.pencil.LayerKey.{LayerKey}
use Rattle.rig_scene.specs.declared.pencil.PencilData.{PencilData}
use Rattle.rig_scene.specs.declared.pencil.Stroke.{Stroke}
use Rattle.rig_scene.specs.declared.limits.TheConstants.{MAX_LAYER_KEYS}
use Rattle.rig_scene.specs.Channel.{with_coordinate}
use Rattle.rig_scene.specs.Facts.{ActionsFacts, LayerFacts, PencilFacts, SceneFacts}
use Rattle.rig_scene.specs.FactsHold.{scene_facts}
use Rattle.rig_scene.specs.FactsSuffice.{scene_from_facts}
use Rattle.rig_scene.specs.Scene.{SceneRecord}
use Rattle.rig_scene.specs.Text.{same_text}
use Rattle.rig_scene.specs.WellFormed.{is_scene, drawing_points, is_frame, layer_key_count}
use Rattle.rig_edits.specs.declared.edit.Edit.TheVariants.{SetValue, SetFlag, MovePoint, SetLayerKey, DeleteLayerKey}
use Rattle.rig_edits.specs.declared.edit.Flag.TheVariants.{Hidden}
use Rattle.rig_edits.specs.declared.edit.IdName.TheVariants as named
use Rattle.rig_edits.specs.declared.edit.Whole3.{Whole3}
use Rattle.rig_edits.specs.Conditions.{lacks_layer, lacks_drawing, has_layer_key, first_cause}
use Rattle.rig_edits.specs.Edited.{edited, set_value, with_layer, put_key, drop_key, natural, v3_of}
use Rattle.rig_edits.specs.Named.{pencil_named, layer_named, at_number, update_at_number}
use Rattle.rig_edits.specs.Accepted.{Accepted, accepted, room_unless}
use Rattle.rig_edits.specs.Refers.{has_layer, pencils_still, scene_still}
use Rattle.rig_edits.specs.Replaced.{All-slice_get, distinct-replaced, list_any-replaced, slice_get-replaced, sum_by-replaced, kept_first, kept_at_number}
use Rattle.rig_edits.specs.KeyLists.{length-put_key, All-put_key, rising-put_key, rising-drop_key, length-drop_key}
use Rattle.rig_edits.specs.Lists.{number_within}

-- ---- one pencil replaced

-- what the new pencil has of the old one: its name and its layers' names, as many drawings and points, and no more than so many keys more
record PencilKept (s : SceneRecord) (p q : PencilData) (more : ℕ) : Type 0 where
  name : q.name ≡ p.name
  layers : (name : List ℕ) → list_any (λ l. same_text l.name name) q.layers ≡ list_any (λ l. same_text l.name name) p.layers
  drawings : length q.drawings ≤ length p.drawings
  points : sum_by drawing_points q.drawings ≤ sum_by drawing_points p.drawings
  keys : sum_by (λ l. length l.keys) q.layers ≤ sum_by (λ l. length l.keys) p.layers + more
  facts : PencilFacts s q

module _ (s : SceneRecord) (i : ℕ) (p q : PencilData) (more : ℕ) where
  replaced_pencil : SceneFacts s → slice_get s.pencils i ≡ Some p → PencilKept s p q more → layer_key_count s.pencils + more ≤ MAX_LAYER_KEYS
      → SceneFacts (record s { pencils = slice_set s.pencils i q })
  replaced_pencil f e a room =
      let ps : List PencilData = slice_set s.pencils i q in
      let many : length ps ≡ length s.pencils = length-set s.pencils i q in
      let layers : (k : ℕ) (name : List ℕ) → has_layer ps k name ≡ has_layer s.pencils k name
      = λ k name. slice_get-replaced (λ pencil. list_any (λ l. same_text l.name name) pencil.layers) false s.pencils i p q k e (a.layers name) in
      let drawings = sum_by-replaced (λ p. length p.drawings) s.pencils i p q 0 e (omega (arith, a.drawings)) in
      let points = sum_by-replaced (λ p. sum_by drawing_points p.drawings) s.pencils i p q 0 e (omega (arith, a.points)) in
      let keys = sum_by-replaced (λ p. sum_by (λ l. length l.keys) p.layers) s.pencils i p q more e a.keys in
      let actions : ActionsFacts (record s { pencils = ps }) = record {
        count = f.actions.count;
        curves = f.actions.curves;
        keys = f.actions.keys;
        names_distinct = f.actions.names_distinct;
        each = f.actions.each;
      } in
      scene_still s s.actions ps refl many layers f actions (record {
        count = omega (arith, many, f.pencils.count);
        drawings = omega (arith, drawings, f.pencils.drawings);
        points = omega (arith, points, f.pencils.points);
        layer_keys = omega (arith, keys, room);
        names_distinct = distinct-replaced (λ p. p.name) s.pencils i p q e a.name f.pencils.names_distinct;
        each = pencils_still s s.actions ps refl many layers ps (All-set (PencilFacts s) s.pencils i q a.facts f.pencils.each);
      })

-- ---- one layer of a pencil changed

-- what a change of a layer makes: one of the same name, that keeps what it promises, with no more than so many keys more
record LayerKept (s : SceneRecord) (p : PencilData) (l m : LayerRecord) (more : ℕ) : Type 0 where
  name : m.name ≡ l.name
  keys : length m.keys ≤ length l.keys + more
  facts : LayerFacts s p m

-- layers keep what they promise beside as many drawings
same_layers : (s : SceneRecord) (p q : PencilData) → length q.drawings ≡ length p.drawings → (layers : List LayerRecord)
    → All (LayerFacts s p) layers → All (LayerFacts s q) layers
same_layers s p q many layers h = All-weaker (LayerFacts s p) (LayerFacts s q) same layers h
  where
    same : (l : LayerRecord) → LayerFacts s p l → LayerFacts s q l
    same l f = record {
      frames_in_range = f.frames_in_range;
      frames_rise = f.frames_rise;
      drawings_are_there = subst (λ n. All (λ k. k.drawing < n) l.keys) (sym many) f.drawings_are_there;
      bound_bone_is_there = f.bound_bone_is_there;
    }

replaced_layer : (s : SceneRecord) (p : PencilData) (j : ℕ) (l m : LayerRecord) (more : ℕ) → PencilFacts s p → slice_get p.layers j ≡ Some l
    → LayerKept s p l m more → PencilKept s p (record p { layers = slice_set p.layers j m }) more
replaced_layer s p j l m more f e kept = record {
  name = refl;
  layers = λ name. list_any-replaced (λ l. same_text l.name name) p.layers j l m e (ap (λ n. same_text n name) kept.name);
  drawings = omega arith;
  points = omega arith;
  keys = sum_by-replaced (λ l. length l.keys) p.layers j l m more e kept.keys;
  facts = record {
    action_is_there = f.action_is_there;
    strokes_have_points = f.strokes_have_points;
    count = omega (arith, length-set p.layers j m, f.count);
    names_distinct = distinct-replaced (λ l. l.name) p.layers j l m e kept.name f.names_distinct;
    layers = same_layers s p (record p { layers = slice_set p.layers j m }) refl (slice_set p.layers j m)
        (All-set (LayerFacts s p) p.layers j m kept.facts f.layers);
  };
}

unchanged_pencil : (s : SceneRecord) (p : PencilData) (more : ℕ) → PencilFacts s p → PencilKept s p p more
unchanged_pencil s p more f = record {
  name = refl;
  layers = λ name. refl;
  drawings = omega arith;
  points = omega arith;
  keys = omega arith;
  facts = f;
}

-- the layer of a name changed
changed_layer : (s : SceneRecord) (pencil layer : List ℕ) (change : LayerRecord → LayerRecord) (more : ℕ) → SceneFacts s
    → layer_key_count s.pencils + more ≤ MAX_LAYER_KEYS
    → ((p : PencilData) (l : LayerRecord) → pencil_named s pencil ≡ Some p → layer_named p layer ≡ Some l → LayerFacts s p l
    → LayerKept s p l (change l) more)
    → SceneFacts (with_layer s pencil layer change)
changed_layer s pencil layer change more f room kept =
    kept_first (λ pencils. SceneFacts (record s { pencils = pencils })) _ (λ p. same_text p.name pencil) s.pencils f (λ i p at found.
    let facts : PencilFacts s p = All-slice_get (PencilFacts s) s.pencils i p at f.pencils.each in
    kept_first (λ ls. SceneFacts (record s { pencils = slice_set s.pencils i (record p { layers = ls }) })) change
    (λ l. same_text l.name layer) p.layers
    (replaced_pencil s i p p more f at (unchanged_pencil s p more facts) room)
    (λ j l there is. replaced_pencil s i p (record p { layers = slice_set p.layers j (change l) }) more f at
    (replaced_layer s p j l (change l) more facts there (kept p l found is (All-slice_get (LayerFacts s p) p.layers j l there facts.layers))) room))

-- ---- the edits

-- a layer hidden or shown, and moved by another offset
same_keys : (s : SceneRecord) (p : PencilData) (l : LayerRecord) (hidden : Bool) (offset : V3) → LayerFacts s p l
    → LayerKept s p l (record l { hidden = hidden; offset = offset }) 0
same_keys s p l hidden offset f = record {
  name = refl;
  keys = omega arith;
  facts = record {
    frames_in_range = f.frames_in_range;
    frames_rise = f.frames_rise;
    drawings_are_there = f.drawings_are_there;
    bound_bone_is_there = f.bound_bone_is_there;
  };
}

-- the offset of a layer is all that a pencil's values are
pub keeps_set_pencil_value : (s : SceneRecord) (pencil : List ℕ) (path : Path) (value : ℤ) → IsTrue (is_scene s)
    → first_cause s (SetValue (named.Pencil pencil) path value) ≡ None
    → IsTrue (is_scene (edited s (SetValue (named.Pencil pencil) path value)))
keeps_set_pencil_value s pencil (Own channel) value is none = is
keeps_set_pencil_value s pencil (Bone bone channel) value is none = is
keeps_set_pencil_value s pencil (Layer layer axis) value is none =
    let f : SceneFacts s = scene_facts s is in
    scene_from_facts (set_value s (named.Pencil pencil) (Layer layer axis) value)
    (changed_layer s pencil layer (λ l. record l { offset = with_coordinate l.offset axis value }) 0 f (omega (arith, f.pencils.layer_keys))
    (λ p l found there g. same_keys s p l l.hidden (with_coordinate l.offset axis value) g))

pub keeps_set_hidden : (s : SceneRecord) (pencil layer : List ℕ) (on : Bool) → IsTrue (is_scene s)
    → first_cause s (SetFlag (Hidden pencil layer) on) ≡ None → IsTrue (is_scene (edited s (SetFlag (Hidden pencil layer) on)))
keeps_set_hidden s pencil layer on is none =
    let f : SceneFacts s = scene_facts s is in
    scene_from_facts (edited s (SetFlag (Hidden pencil layer) on))
    (changed_layer s pencil layer (λ l. record l { hidden = on }) 0 f (omega (arith, f.pencils.layer_keys))
    (λ p l found there g. same_keys s p l on l.offset g))

-- a key is one more where the layer has none at its frame, and then there is room for it
pub keeps_set_layer_key : (s : SceneRecord) (pencil layer : List ℕ) (frame drawing : ℤ) → IsTrue (is_scene s)
    → first_cause s (SetLayerKey pencil layer frame drawing) ≡ None → IsTrue (is_scene (edited s (SetLayerKey pencil layer frame drawing)))
keeps_set_layer_key s pencil layer frame drawing is none =
    let f : SceneFacts s = scene_facts s is in
    let accept : Accepted s (SetLayerKey pencil layer frame drawing) = accepted s (SetLayerKey pencil layer frame drawing) none in
    let parts = or_parts (lacks_layer s pencil layer) (lacks_drawing s pencil drawing) accept.part_is_known in
    let key : LayerKey = record { frame = frame; drawing = natural drawing } in
    let has : Bool = has_layer_key s pencil layer frame in
    scene_from_facts (edited s (SetLayerKey pencil layer frame drawing))
    (changed_layer s pencil layer (λ l. record l { keys = put_key (λ k. k.frame) key l.keys }) (cond has 0 1) f
    (room_unless has (layer_key_count s.pencils) MAX_LAYER_KEYS f.pencils.layer_keys accept.has_room)
    (λ p l found there g. record {
      name = refl;
      keys = length-put_key (λ (k : LayerKey). k.frame) key l.keys has (sym
          (ap (λ r. option_map_or (λ l. list_any (λ k. int_eq k.frame frame) l.keys) (option_and_then (λ p. layer_named p layer) r) false) found
          ∙ ap (λ r. option_map_or (λ (l : LayerRecord). list_any (λ k. int_eq k.frame frame) l.keys) r false) there));
      facts = record {
        frames_in_range = All-put_key (λ (k : LayerKey). k.frame) (λ k. IsTrue (is_frame k.frame)) key l.keys
            (not-false (is_frame frame) accept.is_in_range) g.frames_in_range;
        frames_rise = rising-put_key (λ (k : LayerKey). k.frame) key l.keys g.frames_rise;
        drawings_are_there = All-put_key (λ (k : LayerKey). k.frame) (λ k. k.drawing < length p.drawings) key l.keys
            (number_within p.drawings drawing
            (sym (ap (λ r. is_none (option_and_then (λ (p : PencilData). at_number p.drawings drawing) r)) found) ∙ parts.1))
            g.drawings_are_there;
        bound_bone_is_there = g.bound_bone_is_there;
      };
    }))

pub keeps_delete_layer_key : (s : SceneRecord) (pencil layer : List ℕ) (frame : ℤ) → IsTrue (is_scene s)
    → first_cause s (DeleteLayerKey pencil layer frame) ≡ None → IsTrue (is_scene (edited s (DeleteLayerKey pencil layer frame)))
keeps_delete_layer_key s pencil layer frame is none =
    let f : SceneFacts s = scene_facts s is in
    scene_from_facts (edited s (DeleteLayerKey pencil layer frame))
    (changed_layer s pencil layer (λ l. record l { keys = drop_key (λ k. k.frame) frame l.keys }) 0 f (omega (arith, f.pencils.layer_keys))
    (λ p l found there g. record {
      name = refl;
      keys = omega (arith, length-drop_key (λ (k : LayerKey). k.frame) frame l.keys);
      facts = record {
        frames_in_range = All-filter _ (λ k. IsTrue (is_frame k.frame)) l.keys g.frames_in_range;
        frames_rise = rising-drop_key (λ (k : LayerKey). k.frame) frame l.keys g.frames_rise;
        drawings_are_there = All-filter _ (λ k. k.drawing < length p.drawings) l.keys g.drawings_are_there;
        bound_bone_is_there = g.bound_bone_is_there;
      };
    }))

-- ---- a point moved

-- a stroke, and a drawing, with a point moved
abbrev moved_stroke : ℤ → Whole3 → Stroke → Stroke
moved_stroke point to k = record k { points = update_at_number (λ _. v3_of to) point k.points }

abbrev moved_drawing : ℤ → ℤ → Whole3 → Drawing → Drawing
moved_drawing stroke point to d = record d { strokes = update_at_number (moved_stroke point to) stroke d.strokes }

abbrev HasPoints : Stroke → Type 0
HasPoints k = 0 < length k.points

same_points : (point : ℤ) (to : Whole3) (k : Stroke) → length (moved_stroke point to k).points ≡ length k.points
same_points point to k =
    kept_at_number (λ points. length points ≡ length k.points) (λ _. v3_of to) point k.points refl (λ i x at. length-set k.points i (v3_of to))

-- what strokes keep of those of a drawing: no more points, and each has at least one
record StrokesKept (d : Drawing) (strokes : List Stroke) : Type 0 where
  points : sum_by (λ k. length k.points) strokes ≤ drawing_points d
  each : All HasPoints strokes

strokes_kept : (stroke point : ℤ) (to : Whole3) (d : Drawing) → All HasPoints d.strokes
    → StrokesKept d (update_at_number (moved_stroke point to) stroke d.strokes)
strokes_kept stroke point to d each =
    kept_at_number (StrokesKept d) (moved_stroke point to) stroke d.strokes (record { points = omega arith; each = each })
    (λ i k at.
    let same : length (moved_stroke point to k).points ≡ length k.points = same_points point to k in
    let some : HasPoints k = All-slice_get HasPoints d.strokes i k at each in
    let most = sum_by-replaced (λ k. length k.points) d.strokes i k (moved_stroke point to k) 0 at (omega (arith, same)) in
    record { points = omega (arith, most); each = All-set HasPoints d.strokes i (moved_stroke point to k) (omega (arith, same, some)) each })

-- what drawings keep of those of a pencil: how many they are, no more points, and each stroke has at least one
record DrawingsKept (p : PencilData) (drawings : List Drawing) : Type 0 where
  many : length drawings ≡ length p.drawings
  points : sum_by drawing_points drawings ≤ sum_by drawing_points p.drawings
  strokes : All (λ d. All HasPoints d.strokes) drawings

drawings_kept : (drawing stroke point : ℤ) (to : Whole3) (p : PencilData) → All (λ d. All HasPoints d.strokes) p.drawings
    → DrawingsKept p (update_at_number (moved_drawing stroke point to) drawing p.drawings)
drawings_kept drawing stroke point to p strokes =
    kept_at_number (DrawingsKept p) (moved_drawing stroke point to) drawing p.drawings
    (record { many = refl; points = omega arith; strokes = strokes })
    (λ i d at.
    let kept = strokes_kept stroke point to d (All-slice_get (λ d. All HasPoints d.strokes) p.drawings i d at strokes) in
    let most = sum_by-replaced drawing_points p.drawings i d (moved_drawing stroke point to d) 0 at (omega (arith, kept.points)) in
    record {
      many = length-set p.drawings i (moved_drawing stroke point to d);
      points = omega (arith, most);
      strokes = All-set (λ d. All HasPoints d.strokes) p.drawings i (moved_drawing stroke point to d) kept.each strokes;
    })

-- drawings that keep this leave a pencil what it promises
other_drawings : (s : SceneRecord) (p : PencilData) (drawings : List Drawing) → PencilFacts s p → DrawingsKept p drawings
    → PencilKept s p (record p { drawings = drawings }) 0
other_drawings s p drawings f kept = record {
  name = refl;
  layers = λ name. refl;
  drawings = omega (arith, kept.many);
  points = kept.points;
  keys = omega arith;
  facts = record {
    action_is_there = f.action_is_there;
    strokes_have_points = kept.strokes;
    count = f.count;
    names_distinct = f.names_distinct;
    layers = same_layers s p (record p { drawings = drawings }) kept.many p.layers f.layers;
  };
}

pub keeps_move_point : (s : SceneRecord) (pencil : List ℕ) (drawing stroke point : ℤ) (to : Whole3) → IsTrue (is_scene s)
    → first_cause s (MovePoint pencil drawing stroke point to) ≡ None
    → IsTrue (is_scene (edited s (MovePoint pencil drawing stroke point to)))
keeps_move_point s pencil drawing stroke point to is none =
    let f : SceneFacts s = scene_facts s is in
    scene_from_facts (edited s (MovePoint pencil drawing stroke point to))
    (kept_first (λ pencils. SceneFacts (record s { pencils = pencils })) _ (λ p. same_text p.name pencil) s.pencils f
    (λ i p at found.
    let g : PencilFacts s p = All-slice_get (PencilFacts s) s.pencils i p at f.pencils.each in
    replaced_pencil s i p _ 0 f at (other_drawings s p _ g (drawings_kept drawing stroke point to p g.strokes_have_points))
    (omega (arith, f.pencils.layer_keys))))

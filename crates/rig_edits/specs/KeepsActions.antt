-- An accepted edit of an action leaves a scene.
use Rattle.std.proofs.Common.{◌≡◌, ℕ, ◌+◌, ◌≤◌, Bool, false, cond, ◌&&◌, List, length, sum_by, ℤ, int_eq, slice_get, slice_set, Some, None, option_and_then, refl, sym, ap, ◌∙◌, length-set, arith}
use Rattle.std.specs.Prelude.{IsTrue}
use Rattle.std.specs.List.{list_any}
use Rattle.std.specs.Option.{option_map_or}
use Rattle.std.proofs.lemmas.Bool.{and_parts, not-false}
use Rattle.std.proofs.lemmas.List.Elements.{All-set, All-filter}
use Rattle.rig_scene.specs.declared.action.Action.{Action}
use Rattle.rig_scene.specs.declared.action.Curve.{Curve}
use Rattle.rig_scene.specs.declared.action.Interp.{Interp}
use Rattle.rig_scene.specs.declared.action.Key.{Key}
use Rattle.rig_scene.specs.declared.limits.TheConstants.{MAX_KEYS}
use Rattle.rig_scene.specs.declared.path.Path.{Path}
use Rattle.rig_scene.specs.Facts.{CurveFacts, ActionFacts, PencilsFacts, SceneFacts}
use Rattle.rig_scene.specs.FactsHold.{scene_facts}
use Rattle.rig_scene.specs.FactsSuffice.{scene_from_facts}
use Rattle.rig_scene.specs.Path.{same_path}
use Rattle.rig_scene.specs.Scene.{SceneRecord}
use Rattle.rig_scene.specs.Text.{same_text}
use Rattle.rig_scene.specs.WellFormed.{is_scene, is_frame, key_count}
use Rattle.rig_edits.specs.declared.edit.Edit.TheVariants.{SetKey, DeleteKey}
use Rattle.rig_edits.specs.Conditions.{is_value, has_key, first_cause}
use Rattle.rig_edits.specs.Edited.{edited, with_curve, put_key, drop_key}
use Rattle.rig_edits.specs.Named.{action_named, curve_of}
use Rattle.rig_edits.specs.Accepted.{Accepted, accepted, room_unless}
use Rattle.rig_edits.specs.Replaced.{All-slice_get, distinct-replaced, sum_by-replaced, kept_first}
use Rattle.rig_edits.specs.KeyLists.{length-put_key, All-put_key, rising-put_key, rising-drop_key, length-drop_key}
use Rattle.rig_edits.specs.Refers.{pencils_still, scene_still}

-- ---- one action replaced

-- what the new action has of the old one: its name, as many curves, and no more than so many keys more
record ActionKept (a b : Action) (more : ℕ) : Type 0 where
  name : b.name ≡ a.name
  curves : length b.curves ≤ length a.curves
  keys : sum_by (λ c. length c.keys) b.curves ≤ sum_by (λ c. length c.keys) a.curves + more
  facts : ActionFacts b

replaced_action : (s : SceneRecord) (i : ℕ) (a b : Action) (more : ℕ) → SceneFacts s → slice_get s.actions i ≡ Some a → ActionKept a b more
    → key_count s.actions + more ≤ MAX_KEYS → SceneFacts (record s { actions = slice_set s.actions i b })
replaced_action s i a b more f e kept room =
    let new : List Action = slice_set s.actions i b in
    let many : length new ≡ length s.actions = length-set s.actions i b in
    let curves = sum_by-replaced (λ a. length a.curves) s.actions i a b 0 e (omega (arith, kept.curves)) in
    let keys = sum_by-replaced (λ a. sum_by (λ c. length c.keys) a.curves) s.actions i a b more e kept.keys in
    let pencils : PencilsFacts (record s { actions = new }) = record {
      count = f.pencils.count;
      drawings = f.pencils.drawings;
      points = f.pencils.points;
      layer_keys = f.pencils.layer_keys;
      names_distinct = f.pencils.names_distinct;
      each = pencils_still s new s.pencils many refl (λ k name. refl) s.pencils f.pencils.each;
    } in
    scene_still s new s.pencils many refl (λ k name. refl) f (record {
      count = omega (arith, many, f.actions.count);
      curves = omega (arith, curves, f.actions.curves);
      keys = omega (arith, keys, room);
      names_distinct = distinct-replaced (λ a. a.name) s.actions i a b e kept.name f.actions.names_distinct;
      each = All-set ActionFacts s.actions i b kept.facts f.actions.each;
    }) pencils

-- ---- one curve of an action changed

-- what a change of a curve makes: one of the same path, that keeps what it promises, with no more than so many keys more
record CurveKept (c d : Curve) (more : ℕ) : Type 0 where
  path : d.path ≡ c.path
  keys : length d.keys ≤ length c.keys + more
  facts : CurveFacts d

replaced_curve : (a : Action) (j : ℕ) (c d : Curve) (more : ℕ) → ActionFacts a → slice_get a.curves j ≡ Some c → CurveKept c d more
    → ActionKept a (record a { curves = slice_set a.curves j d }) more
replaced_curve a j c d more f e kept = record {
  name = refl;
  curves = omega (arith, length-set a.curves j d);
  keys = sum_by-replaced (λ c. length c.keys) a.curves j c d more e kept.keys;
  facts = record {
    paths_distinct = distinct-replaced (λ c. c.path) a.curves j c d e kept.path f.paths_distinct;
    curves = All-set CurveFacts a.curves j d kept.facts f.curves;
  };
}

unchanged_action : (a : Action) (more : ℕ) → ActionFacts a → ActionKept a a more
unchanged_action a more f = record { name = refl; curves = omega arith; keys = omega arith; facts = f }

-- the curve of a path changed
changed_curve : (s : SceneRecord) (action : List ℕ) (path : Path) (change : Curve → Curve) (more : ℕ) → SceneFacts s
    → key_count s.actions + more ≤ MAX_KEYS
    → ((a : Action) (c : Curve) → action_named s action ≡ Some a → curve_of a path ≡ Some c → CurveFacts c → CurveKept c (change c) more)
    → SceneFacts (with_curve s action path change)
changed_curve s action path change more f room kept =
    kept_first (λ actions. SceneFacts (record s { actions = actions })) _ (λ a. same_text a.name action) s.actions f (λ i a at found.
    let facts : ActionFacts a = All-slice_get ActionFacts s.actions i a at f.actions.each in
    kept_first (λ cs. SceneFacts (record s { actions = slice_set s.actions i (record a { curves = cs }) })) change
    (λ c. same_path c.path path) a.curves
    (replaced_action s i a a more f at (unchanged_action a more facts) room)
    (λ j c there is. replaced_action s i a (record a { curves = slice_set a.curves j (change c) }) more f at
    (replaced_curve a j c (change c) more facts there (kept a c found is (All-slice_get CurveFacts a.curves j c there facts.curves))) room))

-- ---- the edits

-- a key is one more where the curve has none at its frame, and then there is room for it
pub keeps_set_key : (s : SceneRecord) (action : List ℕ) (path : Path) (frame value : ℤ) (interp : Interp) → IsTrue (is_scene s)
    → first_cause s (SetKey action path frame value interp) ≡ None → IsTrue (is_scene (edited s (SetKey action path frame value interp)))
keeps_set_key s action path frame value interp is none =
    let f : SceneFacts s = scene_facts s is in
    let accept : Accepted s (SetKey action path frame value interp) = accepted s (SetKey action path frame value interp) none in
    let key : Key = record { frame = frame; interp = interp; value = value } in
    let has : Bool = has_key s action path frame in
    let in_range = and_parts (is_frame frame) (is_value value) (not-false (is_frame frame && is_value value) accept.is_in_range) in
    scene_from_facts (edited s (SetKey action path frame value interp))
    (changed_curve s action path (λ c. record c { keys = put_key (λ k. k.frame) key c.keys }) (cond has 0 1) f
    (room_unless has (key_count s.actions) MAX_KEYS f.actions.keys accept.has_room)
    (λ a c found there g. record {
      path = refl;
      keys = length-put_key (λ (k : Key). k.frame) key c.keys has (sym
          (ap (λ r. option_map_or (λ c. list_any (λ k. int_eq k.frame frame) c.keys) (option_and_then (λ a. curve_of a path) r) false) found
          ∙ ap (λ r. option_map_or (λ (c : Curve). list_any (λ k. int_eq k.frame frame) c.keys) r false) there));
      facts = record {
        frames_in_range = All-put_key (λ (k : Key). k.frame) (λ k. IsTrue (is_frame k.frame)) key c.keys in_range.0 g.frames_in_range;
        frames_rise = rising-put_key (λ (k : Key). k.frame) key c.keys g.frames_rise;
      };
    }))

pub keeps_delete_key : (s : SceneRecord) (action : List ℕ) (path : Path) (frame : ℤ) → IsTrue (is_scene s)
    → first_cause s (DeleteKey action path frame) ≡ None → IsTrue (is_scene (edited s (DeleteKey action path frame)))
keeps_delete_key s action path frame is none =
    let f : SceneFacts s = scene_facts s is in
    scene_from_facts (edited s (DeleteKey action path frame))
    (changed_curve s action path (λ c. record c { keys = drop_key (λ k. k.frame) frame c.keys }) 0 f (omega (arith, f.actions.keys))
    (λ a c found there g. record {
      path = refl;
      keys = omega (arith, length-drop_key (λ (k : Key). k.frame) frame c.keys);
      facts = record {
        frames_in_range = All-filter _ (λ k. IsTrue (is_frame k.frame)) c.keys g.frames_in_range;
        frames_rise = rising-drop_key (λ (k : Key). k.frame) frame c.keys g.frames_rise;
      };
    }))

-- Actions without a fault are actions of a whole scene.
use Rattle.std.proofs.Common.{◌≡◌, ℕ, ◌-◌, ◌≤◌, true, not, [], length, map, Option, None, refl, sym, ap, ◌∙◌, ℤ}
use Rattle.std.specs.Prelude.{sum_by, nat_le}
use Rattle.std.specs.List.{list_all, list_any}
use Rattle.std.proofs.lemmas.Bool.{and_from, leb-true, le-leb}
use Rattle.serde_json.specs.Data.{Data, Items}
use Rattle.rig_scene.specs.declared.action.Action.{Action}
use Rattle.rig_scene.specs.declared.action.Curve.{Curve}
use Rattle.rig_scene.specs.declared.action.Key.{Key}
use Rattle.rig_scene.specs.declared.limits.TheConstants.{MAX_ACTIONS, MAX_CURVES, MAX_KEYS}
use Rattle.rig_scene.specs.Distinct.{are_distinct, are_new_after}
use Rattle.rig_scene.specs.Keys.{are_frames_rising}
use Rattle.rig_scene.specs.Path.{same_path}
use Rattle.rig_scene.specs.Text.{same_text}
use Rattle.rig_scene.specs.WellFormed.{is_frame, are_keys, is_action, curve_count, key_count, are_actions}
use Rattle.rig_scenejson.specs.declared.before.ActionsBefore.{ActionsBefore}
use Rattle.rig_scenejson.specs.declared.before.CurvesBefore.{CurvesBefore}
use Rattle.rig_scenejson.specs.declared.fault.Cause.TheVariants.{Duplicate}
use Rattle.rig_scenejson.specs.declared.member.Member.TheVariants as m
use Rattle.rig_scenejson.specs.Tests.{optional, items_faults}
use Rattle.rig_scenejson.specs.Value.{item_count}
use Rattle.rig_scenejson.specs.Given.{text_at, items_at, values, path_given, key_given, curve_given, action_record}
use Rattle.rig_scenejson.specs.PassOne.{list_faults, key_faults, after_key, curve_faults, after_curve, action_faults, after_action, no_actions}
use Rattle.rig_scenejson.proofs.Lists.{left_none, right_none, in_member_none, unless_none, optional_list_none, length_values, map_values, values_from_values}
use Rattle.rig_scenejson.proofs.Items.{all_values, new_values, total, keys_in, sum-values, left_after, total_fits}
use Rattle.rig_scenejson.proofs.Numbers.{new_name_none, IsFrameAfter, rising_none, rising_values}

-- ---- how many there are in a record

abbrev curves_in : Data → ℕ
curves_in d = item_count (items_at m.Curves d)

abbrev keys_below : Data → ℕ
keys_below d = total keys_in (items_at m.Curves d)

-- ---- keys

key_none : (b : Option ℤ) (d : Data) → key_faults b d ≡ [] → IsFrameAfter b d
key_none b d e = rising_none b d (right_none _ _ (left_none _ _ (left_none _ _ e)))

keys_given : (b : Option ℤ) (ds : Items) → items_faults key_faults after_key 0 b ds ≡ [] → are_keys (values key_given ds) ≡ true
keys_given b ds e =
    let frames = all_values (λ (k : Key). is_frame k.frame) key_given key_faults after_key (λ b d none. (key_none b d none).0) 0 b ds e in
    let rise = rising_values (λ (k : Key). k.frame) (λ i d. key_given d) (λ i d. refl) key_faults key_none 0 b ds e in
    and_from (list_all (λ (k : Key). is_frame k.frame) (values key_given ds)) (are_frames_rising (λ (k : Key). k.frame) (values key_given ds)) frames
    (ap (are_frames_rising (λ (k : Key). k.frame)) (sym (values_from_values key_given 0 ds)) ∙ rise)

-- ---- curves

-- what a curve without a fault says
abbrev IsCurveAfter : CurvesBefore → Data → Type 0
IsCurveAfter b d =
    (not (list_any (same_path (path_given d)) b.paths) ≡ true) × (keys_in d ≤ b.keys_left) × (are_keys (values key_given (items_at m.Keys d)) ≡ true)

curve_none : (b : CurvesBefore) (d : Data) → curve_faults b d ≡ [] → IsCurveAfter b d
curve_none b d e =
    let new = unless_none (not (list_any (same_path (path_given d)) b.paths)) Duplicate (in_member_none m.Channel _ (right_none _ _ (left_none _ _ e))) in
    let keys = optional_list_none m.Keys b.keys_left key_faults after_key None d (right_none _ _ e) in
    (new, leb-true (keys_in d) b.keys_left keys.0, keys_given None (items_at m.Keys d) keys.1)

-- ---- actions

-- what an action without a fault says
abbrev IsActionAfter : ActionsBefore → Data → Type 0
IsActionAfter b d =
    (not (list_any (same_text (text_at m.Name d)) b.names) ≡ true) × (curves_in d ≤ b.curves_left) × (keys_below d ≤ b.keys_left) × (is_action (action_record d) ≡ true)

curves_given : (b : CurvesBefore) (ds : Items) → b.paths ≡ [] → items_faults curve_faults after_curve 0 b ds ≡ []
    → (total keys_in ds ≤ b.keys_left) × (are_distinct same_path (map (λ (c : Curve). c.path) (values curve_given ds)) ≡ true) × (list_all (λ (c : Curve). are_keys c.keys) (values curve_given ds) ≡ true)
curves_given b ds none e = (
  total_fits keys_in (λ (b : CurvesBefore). b.keys_left) after_curve (λ b d. refl) curve_faults (λ b d none. (curve_none b d none).1) 0 b ds e,
  ap (are_distinct same_path) (map_values (λ (c : Curve). c.path) curve_given ds)
      ∙ ap (λ seen. are_new_after same_path seen (values path_given ds)) (sym none)
      ∙ new_values same_path path_given (λ (b : CurvesBefore). b.paths) curve_faults after_curve (λ b d none. (curve_none b d none).0) (λ b d. refl) 0 b ds e,
  all_values (λ (c : Curve). are_keys c.keys) curve_given curve_faults after_curve (λ b d none. (curve_none b d none).2) 0 b ds e,
)

action_none : (b : ActionsBefore) (d : Data) → action_faults b d ≡ [] → IsActionAfter b d
action_none b d e =
    let before : CurvesBefore = record { paths = []; keys_left = b.keys_left } in
    let new = new_name_none b.names m.Name d (right_none _ _ (left_none _ _ e)) in
    let curves = optional_list_none m.Curves b.curves_left curve_faults after_curve before d (right_none _ _ e) in
    let each = curves_given before (items_at m.Curves d) refl curves.1 in
    (new, leb-true (curves_in d) b.curves_left curves.0, each.0, and_from _ _ each.1 each.2)

keys_taken : (b : ActionsBefore) (d : Data) → (after_action b d).keys_left ≡ b.keys_left - keys_below d
keys_taken b d = left_after keys_in (λ (b : CurvesBefore). b.keys_left) after_curve (λ b d. refl) (record { paths = []; keys_left = b.keys_left }) (items_at m.Curves d)

-- the actions that the members give
pub are_actions_given : (d : Data) → optional m.Actions (list_faults 0 MAX_ACTIONS action_faults after_action no_actions) d ≡ [] → are_actions (values action_record (items_at m.Actions d)) ≡ true
are_actions_given d e =
    let ds : Items = items_at m.Actions d in
    let actions = optional_list_none m.Actions MAX_ACTIONS action_faults after_action no_actions d e in
    let many : nat_le (length (values action_record ds)) MAX_ACTIONS ≡ true = ap (λ n. nat_le n MAX_ACTIONS) (length_values action_record ds) ∙ actions.0 in
    let curves : nat_le (curve_count (values action_record ds)) MAX_CURVES ≡ true =
    ap (λ n. nat_le n MAX_CURVES) (sum-values (λ (a : Action). length a.curves) action_record curves_in (λ d. length_values curve_given (items_at m.Curves d)) ds)
    ∙ le-leb (total curves_in ds) MAX_CURVES (total_fits curves_in (λ (b : ActionsBefore). b.curves_left) after_action (λ b d. refl) action_faults (λ b d none. (action_none b d none).1) 0 no_actions ds actions.1) in
    let keys : nat_le (key_count (values action_record ds)) MAX_KEYS ≡ true =
    ap (λ n. nat_le n MAX_KEYS)
    (sum-values (λ (a : Action). sum_by (λ (c : Curve). length c.keys) a.curves) action_record keys_below
    (λ d. sum-values (λ (c : Curve). length c.keys) curve_given keys_in (λ d. length_values key_given (items_at m.Keys d)) (items_at m.Curves d)) ds)
    ∙ le-leb (total keys_below ds) MAX_KEYS (total_fits keys_below (λ (b : ActionsBefore). b.keys_left) after_action keys_taken action_faults (λ b d none. (action_none b d none).2) 0 no_actions ds actions.1) in
    let names : are_distinct same_text (map (λ (a : Action). a.name) (values action_record ds)) ≡ true =
    ap (are_distinct same_text) (map_values (λ (a : Action). a.name) action_record ds)
    ∙ new_values same_text (text_at m.Name) (λ (b : ActionsBefore). b.names) action_faults after_action (λ b d none. (action_none b d none).0) (λ b d. refl) 0 no_actions ds actions.1 in
    let each : list_all is_action (values action_record ds) ≡ true = all_values is_action action_record action_faults after_action (λ b d none. (action_none b d none).3) 0 no_actions ds actions.1 in
    and_from _ _ (and_from _ _ (and_from _ _ (and_from _ _ many curves) keys) names) each

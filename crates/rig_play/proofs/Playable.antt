-- What is read of an input without a fault can be played: its scene can still be edited, and its steps are few.
use Rattle.std.proofs.Common.{◌≡◌, ℕ, suc, ◌<◌, ◌≤◌, List, [], ◌∷◌, ◌++◌, length, Bool, true, false, ◌&&◌, Option, Some, None, nat_le, refl, ap, arith}
use Rattle.std.specs.Prelude.{unwrap_or}
use Rattle.std.specs.Option.{option_map_or}
use Rattle.std.specs.List.{list_all}
use Rattle.std.proofs.lemmas.Bool.{and_parts, leb-true}
use Rattle.serde_json.specs.Data.{Data, null, Items, no_items, item}
use Rattle.serde_json.specs.Find.{as_array}
use Rattle.rig_scene.specs.declared.limits.TheConstants.{MAX_FULL_FRAMES, MAX_OBJECTS, MAX_STEPS}
use Rattle.rig_scene.specs.Scene.{SceneRecord}
use Rattle.rig_scene.specs.WellFormed.{is_scene}
use Rattle.rig_edits.specs.declared.change.TheConstants.{MAX_NEXT}
use Rattle.rig_scenejson.specs.declared.fault.Cause.TheVariants.{Missing, WrongKind, Count}
use Rattle.rig_scenejson.specs.declared.fault.Fault.{Fault}
use Rattle.rig_scenejson.specs.declared.member.Member.{Member}
use Rattle.rig_scenejson.specs.declared.member.Member.TheVariants as m
use Rattle.rig_scenejson.specs.Given.{has, items_at, values, values_from, object_given, scene_given}
use Rattle.rig_scenejson.specs.PassOne.{list_faults}
use Rattle.rig_scenejson.specs.PassOne.{catalog_of}
use Rattle.rig_scenejson.specs.Reading.{scene_of_input}
use Rattle.rig_scenejson.specs.Tests.{fault, unless, in_member, in_item, field, first, required, optional, items_faults}
use Rattle.rig_scenejson.specs.Value.{items_of, item_count, record_faults}
use Rattle.rig_scriptjson.specs.Script.{after_step, after_track, input_faults, mode_faults, no_tracks, script_faults, script_given, script_of_input, step_faults, step_given, track_faults, track_given}
use Rattle.rig_play.proofs.Held.{few_objects}

-- ---- the scene

values-count : {A : Type 0} (value : ℕ → Data → A) (index : ℕ) (ds : Items) → length (values_from value index ds) ≡ item_count ds
values-count value index no_items = refl
values-count value index (item d ds) = ap suc (values-count value (suc index) ds)

given_next : (v : Data) → is_scene (scene_given (catalog_of v) v) ≡ true → (scene_given (catalog_of v) v).next < MAX_NEXT
unfolding scene_given
given_next v holds =
    let s : SceneRecord = scene_given (catalog_of v) v in
    let few : length s.objects ≤ MAX_OBJECTS = few_objects s holds in
    let count : length s.objects ≡ s.next = values-count (object_given (catalog_of v)) 0 (items_at m.Objects v) in
    omega arith

-- the scene of an input has few enough serials that another edit can be applied
pub next_few : (d : Data) → is_scene (scene_of_input d) ≡ true → (scene_of_input d).next < MAX_NEXT
next_few d holds = given_next (unwrap_or (field m.Scene d) null) holds

-- ---- lists of faults with none in them

first_none : {A : Type 0} (xs : List A) → first xs ≡ None → xs ≡ []
first_none [] e = refl
first_none (x ∷ xs) e = cc

left_none : {A : Type 0} (xs ys : List A) → xs ++ ys ≡ [] → xs ≡ []
left_none [] ys e = refl
left_none (x ∷ xs) ys e = cc

right_none : {A : Type 0} (xs ys : List A) → xs ++ ys ≡ [] → ys ≡ []
right_none [] ys e = e
right_none (x ∷ xs) ys e = cc

in_member_none : (member : Member) (xs : List Fault) → in_member member xs ≡ [] → xs ≡ []
in_member_none member [] e = refl
in_member_none member (x ∷ xs) e = cc

in_item_none : (i : ℕ) (xs : List Fault) → in_item i xs ≡ [] → xs ≡ []
in_item_none i [] e = refl
in_item_none i (x ∷ xs) e = cc

unless_none : (b : Bool) → unless b Count ≡ [] → b ≡ true
unless_none true e = refl
unless_none false e = cc

-- what holds of nothing, and of each value without a fault, holds of a member that may be absent
of_optional : (P : Option Data → Type 0) (member : Member) (f : Data → List Fault) (d : Data) → P None → ((v : Data) → f v ≡ [] → P (Some v)) → optional member f d ≡ [] → P (field member d)
of_optional P member f d none each e = by (field member d) e
  where
    by : (o : Option Data) → in_member member (option_map_or f o []) ≡ [] → P o
    by None e = none
    by (Some v) e = each v (in_member_none member (f v) e)

-- what holds of each value without a fault holds of a member that has to be there
of_required : (P : Data → Type 0) (member : Member) (f : Data → List Fault) (d : Data) → ((v : Data) → f v ≡ [] → P v) → required member f d ≡ [] → P (unwrap_or (field member d) null)
of_required P member f d each e = by (field member d) e
  where
    by : (o : Option Data) → in_member member (option_map_or f o (fault Missing)) ≡ [] → P (unwrap_or o null)
    by None e = cc
    by (Some v) e = each v (in_member_none member (f v) e)

-- ---- the script

steps-count : (ds : Items) → length (values step_given ds) ≡ item_count ds
steps-count no_items = refl
steps-count (item d ds) = ap suc (steps-count ds)

-- a list of steps without a fault is no longer than its limit
list-few : (most : ℕ) (f : ℕ → Data → List Fault) (before : ℕ) (d : Data) → list_faults 0 most f after_step before d ≡ [] → nat_le (length (values step_given (items_of d))) most ≡ true
list-few most f before d e = by (as_array d) refl e
  where
    by : (o : Option Items) → as_array d ≡ o
        → option_map_or (λ ds. unless (nat_le 0 (item_count ds) && nat_le (item_count ds) most) Count ++ items_faults f after_step 0 before ds) o (fault WrongKind) ≡ []
        → nat_le (length (values step_given (unwrap_or (as_array d) no_items))) most ≡ true
    by None is e = cc
    by (Some ds) is e =
        let tests = unless_none (nat_le 0 (item_count ds) && nat_le (item_count ds) most) (left_none (unless (nat_le 0 (item_count ds) && nat_le (item_count ds) most) Count) (items_faults f after_step 0 before ds) e) in
        rw (is, steps-count ds) ((and_parts (nat_le 0 (item_count ds)) (nat_le (item_count ds) most) tests).1)

-- a first track without a fault has few steps
track-few : (d : Data) → track_faults no_tracks d ≡ [] → nat_le (length (track_given d).steps) MAX_STEPS ≡ true
track-few d e =
    let steps = right_none (record_faults d ++ optional m.Mode (mode_faults []) d)
    (optional m.Steps (list_faults 0 MAX_STEPS (step_faults (has m.Mode d)) after_step MAX_FULL_FRAMES) d) e in
    of_optional (λ o. nat_le (length (values step_given (option_map_or items_of o no_items))) MAX_STEPS ≡ true) m.Steps
    (list_faults 0 MAX_STEPS (step_faults (has m.Mode d)) after_step MAX_FULL_FRAMES) d refl
    (λ v none. list-few MAX_STEPS (step_faults (has m.Mode d)) MAX_FULL_FRAMES v none) steps

-- one track at most has few steps
tracks-few : (ds : Items) → nat_le (item_count ds) 1 ≡ true → items_faults track_faults after_track 0 no_tracks ds ≡ [] → list_all (λ t. nat_le (length t.steps) MAX_STEPS) (values track_given ds) ≡ true
tracks-few no_items few e = refl
tracks-few (item d no_items) few e =
    let here = in_item_none 0 (track_faults no_tracks d) (left_none (in_item 0 (track_faults no_tracks d)) _ e) in
    let few-steps : nat_le (length (track_given d).steps) MAX_STEPS ≡ true = track-few d here in
    rw few-steps refl
tracks-few (item d (item x ds)) few e = let many : suc (suc (item_count ds)) ≤ 1 = leb-true (suc (suc (item_count ds))) 1 few in absurd (omega arith)

given-few : (d : Data) → script_faults 1 d ≡ [] → list_all (λ t. nat_le (length t.steps) MAX_STEPS) (script_given d).tracks ≡ true
given-few d e =
    of_optional (λ o. list_all (λ t. nat_le (length t.steps) MAX_STEPS) (values track_given (option_map_or items_of o no_items)) ≡ true) m.Tracks _ d refl
    (λ v none. each v none) (right_none (record_faults d) _ e)
  where
    each : (v : Data) → list_faults 0 1 track_faults after_track no_tracks v ≡ [] → list_all (λ t. nat_le (length t.steps) MAX_STEPS) (values track_given (items_of v)) ≡ true
    each v e = by (as_array v) refl e
      where
        by : (o : Option Items) → as_array v ≡ o
            → option_map_or (λ ds. unless (nat_le 0 (item_count ds) && nat_le (item_count ds) 1) Count ++ items_faults track_faults after_track 0 no_tracks ds) o (fault WrongKind) ≡ []
            → list_all (λ t. nat_le (length t.steps) MAX_STEPS) (values track_given (unwrap_or (as_array v) no_items)) ≡ true
        by None is e = cc
        by (Some ds) is e =
            let tests = unless_none (nat_le 0 (item_count ds) && nat_le (item_count ds) 1) (left_none (unless (nat_le 0 (item_count ds) && nat_le (item_count ds) 1) Count) (items_faults track_faults after_track 0 no_tracks ds) e) in
            rw is (tracks-few ds (and_parts (nat_le 0 (item_count ds)) (nat_le (item_count ds) 1) tests).1 (right_none (unless (nat_le 0 (item_count ds) && nat_le (item_count ds) 1) Count) _ e))

-- the script of an input without a fault has few steps
pub few_steps : (d : Data) → first (input_faults 1 d) ≡ None → list_all (λ t. nat_le (length t.steps) MAX_STEPS) (script_of_input d).tracks ≡ true
few_steps d e =
    of_required (λ v. list_all (λ t. nat_le (length t.steps) MAX_STEPS) (script_given v).tracks ≡ true) m.Script (script_faults 1) d given-few
    (right_none (record_faults d) _ (first_none (input_faults 1 d) e))

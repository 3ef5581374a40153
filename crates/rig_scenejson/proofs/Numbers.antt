-- Numbers, names and frames without a fault, as the scene has them.
use Rattle.std.proofs.Common.{◌≡◌, ℕ, suc, true, not, ◌&&◌, List, [], Option, Some, None, refl, sym, ap, ◌∙◌, arith, ℤ, pos, int_le, int_lt}
use Rattle.std.specs.Prelude.{unwrap_or, option_and_then}
use Rattle.std.specs.Option.{option_map_or}
use Rattle.std.specs.Int.{int_min, int_max}
use Rattle.std.specs.List.{list_any}
use Rattle.std.proofs.lemmas.Bool.{and_parts, and_from}
use Rattle.std.proofs.lemmas.Int.{ints}
use Rattle.serde_json.specs.Data.{Data, Num, Items, no_items, item}
use Rattle.serde_json.specs.Find.{as_number, as_i64}
use Rattle.rig_fixed.specs.Fixed.{lowest, highest}
use Rattle.rig_scene.specs.declared.limits.TheConstants.{MIN_FRAME, MAX_FRAME}
use Rattle.rig_scene.specs.Keys.{are_frames_rising}
use Rattle.rig_scene.specs.Text.{same_text}
use Rattle.rig_scene.specs.WellFormed.{is_frame}
use Rattle.rig_scenejson.specs.declared.fault.Cause.TheVariants.{WrongKind, NotWhole, OutOfRange, Duplicate, Unordered}
use Rattle.rig_scenejson.specs.declared.fault.Fault.{Fault}
use Rattle.rig_scenejson.specs.declared.member.Member.{Member}
use Rattle.rig_scenejson.specs.declared.member.Member.TheVariants as m
use Rattle.rig_scenejson.specs.Tests.{fault, unless, field, required, items_faults}
use Rattle.rig_scenejson.specs.Value.{whole_of, fixed_of, text_of, whole_faults, frame_faults, name_faults, new_faults}
use Rattle.rig_scenejson.specs.Given.{text_at, frame_at, values_from}
use Rattle.rig_scenejson.specs.PassOne.{new_name_faults, rising_faults, rising_frame_faults, after_key}
use Rattle.rig_scenejson.proofs.Lists.{left_none, right_none, unless_none, required_none, of_required, head_none, rest_none}

-- ---- numbers

-- a whole number from the least to the most
pub whole_none : (least most : ℤ) (d : Data) → whole_faults least most d ≡ [] → (int_le least (whole_of d) ≡ true) × (int_le (whole_of d) most ≡ true)
whole_none least most d e = by (as_number d) e
  where
    whole : (o : Option ℤ) → option_map_or (λ z. unless (int_le least z && int_le z most) OutOfRange) o (fault NotWhole) ≡ [] → (int_le least (unwrap_or o (pos 0)) ≡ true) × (int_le (unwrap_or o (pos 0)) most ≡ true)
    whole None e = cc
    whole (Some z) e = and_parts (int_le least z) (int_le z most) (unless_none (int_le least z && int_le z most) OutOfRange e)

    by : (o : Option Num) → option_map_or (λ n. option_map_or (λ z. unless (int_le least z && int_le z most) OutOfRange) (as_i64 n) (fault NotWhole)) o (fault WrongKind) ≡ []
        → (int_le least (unwrap_or (option_and_then as_i64 o) (pos 0)) ≡ true) × (int_le (unwrap_or (option_and_then as_i64 o) (pos 0)) most ≡ true)
    by None e = cc
    by (Some n) e = whole (as_i64 n) e

-- a number that is within limits is the nearest one within them
pub nearest : (least most z : ℤ) → int_le least z ≡ true → int_le z most ≡ true → int_max least (int_min z most) ≡ z
nearest least most z low high = grind (arith, ints)

-- a number of at least one is one too as the scene has it
pub scale_none : (d : Data) → whole_faults (pos 1) highest d ≡ [] → int_le (pos 1) (fixed_of d) ≡ true
scale_none d e =
    let parts = whole_none (pos 1) highest d e in
    rw (nearest lowest highest (whole_of d) (low (whole_of d) parts.0) parts.1) parts.0
  where
    low : (z : ℤ) → int_le (pos 1) z ≡ true → int_le lowest z ≡ true
    low z one = grind (arith, ints)

-- ---- names

-- a name that none before it is the same as
pub new_name_none : (before : List (List ℕ)) (m : Member) (d : Data) → required m (new_name_faults before) d ≡ [] → not (list_any (same_text (text_at m d)) before) ≡ true
new_name_none before m d e =
    of_required (λ o. not (list_any (same_text (option_map_or text_of o [])) before) ≡ true) m (new_name_faults before) d
    (λ v none. unless_none (not (list_any (same_text (text_of v)) before)) Duplicate (right_none (name_faults v) (new_faults before v) none)) e

-- ---- frames

-- a frame without a fault is the frame that the scene has
pub frame_none : (d v : Data) → field m.Frame d ≡ Some v → frame_faults v ≡ [] → (frame_at m.Frame d ≡ whole_of v) × (is_frame (frame_at m.Frame d) ≡ true)
frame_none d v is e =
    let parts = whole_none MIN_FRAME MAX_FRAME v e in
    let same : frame_at m.Frame d ≡ whole_of v = ap (λ o. option_map_or (λ f. int_max MIN_FRAME (int_min (whole_of f) MAX_FRAME)) o (pos 0)) is ∙ nearest MIN_FRAME MAX_FRAME (whole_of v) parts.0 parts.1 in
    (same, rw same (and_from (int_le MIN_FRAME (whole_of v)) (int_le (whole_of v) MAX_FRAME) parts.0 parts.1))

-- what a frame without a fault says: it is within the limits, and above the one before it
abbrev pub IsFrameAfter : Option ℤ → Data → Type 0
IsFrameAfter before d = (is_frame (frame_at m.Frame d) ≡ true) × (option_map_or (λ f. int_lt f (frame_at m.Frame d)) before true ≡ true) × (after_key before d ≡ Some (frame_at m.Frame d))

pub rising_none : (before : Option ℤ) (d : Data) → required m.Frame (rising_frame_faults before) d ≡ [] → IsFrameAfter before d
rising_none before d e =
    let found = required_none m.Frame (rising_frame_faults before) d e in
    let v : Data = found.0 in
    let is : field m.Frame d ≡ Some v = found.1 in
    let frame = frame_none d v is (left_none (frame_faults v) (rising_faults before v) found.2) in
    let above = unless_none (option_map_or (λ f. int_lt f (whole_of v)) before true) Unordered (right_none (frame_faults v) (rising_faults before v) found.2) in (
      frame.1,
      ap (λ z. option_map_or (λ f. int_lt f z) before true) frame.0 ∙ above,
      ap (λ o. option_map_or (λ w. Some (whole_of w)) o before) is ∙ ap Some (sym frame.0),
    )

module _ {K : Type 0} (frame_of : K → ℤ) (value : ℕ → Data → K) (is : (i : ℕ) (d : Data) → frame_of (value i d) ≡ frame_at m.Frame d)
    (f : Option ℤ → Data → List Fault) (framed : (b : Option ℤ) (d : Data) → f b d ≡ [] → IsFrameAfter b d) where
  -- frames without a fault rise
  pub rising_values : (i : ℕ) (b : Option ℤ) (ds : Items) → items_faults f after_key i b ds ≡ [] → are_frames_rising frame_of (values_from value i ds) ≡ true
  rising_values i b no_items e = refl
  rising_values i b (item d no_items) e = refl
  rising_values i b (item d (item next ds)) e =
      let first = framed b d (head_none f after_key i b d (item next ds) e) in
      let rest = rest_none f after_key i b d (item next ds) e in
      let second = framed (after_key b d) next (head_none f after_key (suc i) (after_key b d) next ds rest) in
      let above : int_lt (frame_at m.Frame d) (frame_at m.Frame next) ≡ true = ap (λ o. option_map_or (λ f. int_lt f (frame_at m.Frame next)) o true) (sym first.2) ∙ second.1 in
      and_from (int_lt (frame_of (value i d)) (frame_of (value (suc i) next))) (are_frames_rising frame_of (values_from value (suc i) (item next ds)))
      (ap (λ z. int_lt z (frame_of (value (suc i) next))) (is i d) ∙ ap (λ z. int_lt (frame_at m.Frame d) z) (is (suc i) next) ∙ above)
      (rising_values (suc i) (after_key b d) (item next ds) rest)

-- What one JSON value gives, and what is wrong with it. Where it gives nothing of its kind there is a default, which no
-- reader shows: the fault comes first.
use Rattle.std.specs.Prelude.{ℕ, zero, suc, ℤ, pos, ◌==◌, ◌&&◌, List, [], Bool, false, not, option_and_then, unwrap_or, int_le, if◌then◌else◌}
use Rattle.std.specs.Option.{option_map_or}
use Rattle.std.specs.List.{list_any}
use Rattle.serde_json.specs.Data.{Data, null, Items, no_items, item}
use Rattle.serde_json.specs.Find.{as_bool, as_number, as_str, as_array, as_object, as_i64}
use Rattle.rig_fixed.specs.Fixed.{clamp, lowest, highest}
use Rattle.rig_fixed.specs.declared.rotation.Raw.{Raw}
use Rattle.rig_fixed.specs.declared.vector.V3.{V3}
use Rattle.rig_scene.specs.Name.{is_name}
use Rattle.rig_scene.specs.Text.{same_text}
use Rattle.rig_scene.specs.declared.limits.TheConstants.{MIN_FRAME, MAX_FRAME}
use Rattle.rig_scenejson.specs.declared.fault.Fault.{Fault}
use Rattle.rig_scenejson.specs.declared.fault.Cause.TheVariants.{WrongKind, NotWhole, OutOfRange, BadName, Duplicate}
use Rattle.rig_scenejson.specs.Tests.{fault, unless, items_faults}

-- ---- what it gives

-- a whole number, else 0
abbrev pub whole_of : Data → ℤ
whole_of d = unwrap_or (option_and_then as_i64 (as_number d)) (pos 0)

-- a number of millionths
abbrev pub fixed_of : Data → ℤ
fixed_of d = clamp (whole_of d)

-- a text, else the empty one
abbrev pub text_of : Data → List ℕ
text_of d = unwrap_or (as_str d) []

-- a truth value, else false
abbrev pub truth_of : Data → Bool
truth_of d = unwrap_or (as_bool d) false

-- the items of an array, else none
abbrev pub items_of : Data → Items
items_of d = unwrap_or (as_array d) no_items

abbrev pub item_count : Items → ℕ
item_count no_items = 0
item_count (item d ds) = suc (item_count ds)

-- the item of an index, else null
abbrev pub item_at : ℕ → Items → Data
item_at n no_items = null
item_at zero (item d ds) = d
item_at (suc n) (item d ds) = item_at n ds

-- ---- what is wrong with it

-- S2: it isn't an object
abbrev pub record_faults : Data → List Fault
record_faults d = option_map_or (λ members. []) (as_object d) (fault WrongKind)

-- S2, S3: it isn't a number, or not a whole one
abbrev pub integer_faults : Data → List Fault
integer_faults d = option_map_or (λ n. option_map_or (λ z. []) (as_i64 n) (fault NotWhole)) (as_number d) (fault WrongKind)

-- S4 beside: it isn't from the least to the most
abbrev pub whole_faults : ℤ → ℤ → Data → List Fault
whole_faults least most d = option_map_or (λ n. option_map_or (λ z. unless (int_le least z && int_le z most) OutOfRange) (as_i64 n) (fault NotWhole)) (as_number d) (fault WrongKind)

-- a number of millionths within the limits
abbrev pub number_faults : Data → List Fault
number_faults d = whole_faults lowest highest d

-- a frame within the limits
abbrev pub frame_faults : Data → List Fault
frame_faults d = whole_faults MIN_FRAME MAX_FRAME d

-- S2: it isn't a truth value
abbrev pub truth_faults : Data → List Fault
truth_faults d = option_map_or (λ b. []) (as_bool d) (fault WrongKind)

-- S2, S5: it isn't a text, or not a name
abbrev pub name_faults : Data → List Fault
name_faults d = option_map_or (λ s. unless (is_name s) BadName) (as_str d) (fault WrongKind)

-- S2, S4: it isn't a text, or not one of the words that may stand there
abbrev pub word_faults : (List ℕ → Bool) → Data → List Fault
word_faults may_stand d = option_map_or (λ s. unless (may_stand s) OutOfRange) (as_str d) (fault WrongKind)

-- whether a text is one of these words
abbrev pub is_among : List (List ℕ) → List ℕ → Bool
is_among words s = list_any (same_text s) words

-- S6: the text is one of those before it in its list
abbrev pub new_faults : List (List ℕ) → Data → List Fault
new_faults before d = unless (not (list_any (same_text (text_of d)) before)) Duplicate

-- S2: it isn't an array of so many; then those of its items, each a number
abbrev pub vector_faults : ℕ → Data → List Fault
vector_faults length d =
    option_map_or (λ ds. if item_count ds == length then items_faults (λ before. number_faults) (λ before item. before) 0 (tt {0}) ds else fault WrongKind) (as_array d) (fault WrongKind)

-- ---- vectors

-- three numbers
abbrev pub vector_of : Data → V3
vector_of d = record { x = fixed_of (item_at 0 (items_of d)); y = fixed_of (item_at 1 (items_of d)); z = fixed_of (item_at 2 (items_of d)) }

-- four numbers
abbrev pub rotation_of : Data → Raw
rotation_of d = record {
  w = fixed_of (item_at 0 (items_of d));
  x = fixed_of (item_at 1 (items_of d));
  y = fixed_of (item_at 2 (items_of d));
  z = fixed_of (item_at 3 (items_of d));
}

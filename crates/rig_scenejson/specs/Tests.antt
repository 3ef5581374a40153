-- Lists of faults, each with its place within a value, and what a reader answers of them.
use Rattle.std.specs.Prelude.{◌≡◌, ℕ, suc, List, [], ◌∷◌, ◌++◌, map, min, Bool, Option, Some, None, Result, Ok, Err, if◌then◌else◌}
use Rattle.std.specs.Option.{option_map_or}
use Rattle.serde_json.specs.Data.{Data, null, boolean, number, string, array, object, Items, no_items, item}
use Rattle.serde_json.specs.Find.{get}
use Rattle.rig_scenejson.specs.declared.fault.Cause.{Cause}
use Rattle.rig_scenejson.specs.declared.fault.Cause.TheVariants.{Missing}
use Rattle.rig_scenejson.specs.declared.fault.Hop.{Hop}
use Rattle.rig_scenejson.specs.declared.fault.Hop.TheVariants as hops
use Rattle.rig_scenejson.specs.declared.fault.Fault.{Fault}
use Rattle.rig_scenejson.specs.declared.fault.SceneStop.{SceneStop}
use Rattle.rig_scenejson.specs.declared.fault.SceneStop.TheVariants as stops
use Rattle.rig_scenejson.specs.declared.member.Member.{Member}
use Rattle.rig_scenejson.specs.Member.{member_word}

-- ---- lists of faults

-- a fault of the value itself
abbrev pub fault : Cause → List Fault
fault cause = record { cause = cause; place = [] } ∷ []

-- a fault of the value itself where the test fails
abbrev pub unless : Bool → Cause → List Fault
unless test cause = if test then [] else fault cause

-- a fault of what stands at a hop
abbrev pub moved : Hop → Fault → Fault
moved hop f = record { cause = f.cause; place = hop ∷ f.place }

abbrev pub in_member : Member → List Fault → List Fault
in_member m faults = map (moved (hops.Member m)) faults

abbrev pub in_item : ℕ → List Fault → List Fault
in_item index faults = map (moved (hops.Index (min index 4294967295))) faults

-- the first of a list
abbrev pub first : {A : Type 0} → List A → Option A
first [] = None
first (x ∷ xs) = Some x

-- ---- members

-- a value that isn't null
abbrev pub present : Data → Option Data
present null = None
present (boolean b) = Some (boolean b)
present (number n) = Some (number n)
present (string s) = Some (string s)
present (array ds) = Some (array ds)
present (object ms) = Some (object ms)

-- a member, where it is there and isn't null
unfoldable pub field : Member → Data → Option Data
field m d = option_map_or present (get (member_word m) d) None

-- the faults of a member that has to be there
abbrev pub required : Member → (Data → List Fault) → Data → List Fault
required m faults d = in_member m (option_map_or faults (field m d) (fault Missing))

-- the faults of a member that may be absent
abbrev pub optional : Member → (Data → List Fault) → Data → List Fault
optional m faults d = in_member m (option_map_or faults (field m d) [])

-- what comes after a member that may be absent
abbrev pub after_field : {B : Type 0} → Member → (B → Data → B) → B → Data → B
after_field m next before d = option_map_or (next before) (field m d) before

-- ---- items

-- the faults of items, each tested with what stood before it in its list
abbrev pub items_faults : {B : Type 0} → (B → Data → List Fault) → (B → Data → B) → ℕ → B → Items → List Fault
items_faults faults next index before no_items = []
items_faults faults next index before (item d ds) = in_item index (faults before d) ++ items_faults faults next (suc index) (next before d) ds

-- what stands before the next item after these
abbrev pub items_after : {B : Type 0} → (B → Data → B) → B → Items → B
items_after next before no_items = before
items_after next before (item d ds) = items_after next (next before d) ds

-- ---- answers

-- What a test answered: that there is no fault, or the first. Want of memory says nothing.
abbrev pub Tests : {A : Type 0} → Result A SceneStop → Option Fault → Type 0
Tests (Ok x) found = found ≡ None
Tests (Err stops.NoMemory) found = Unit {0}
Tests (Err (stops.Fault f)) found = found ≡ Some f

-- What a reader answered: the value where there is no fault, or the first fault.
abbrev pub Reads : {A : Type 0} → Result A SceneStop → A → Option Fault → Type 0
Reads (Ok x) value found = (x ≡ value) × (found ≡ None)
Reads (Err stops.NoMemory) value found = Unit {0}
Reads (Err (stops.Fault f)) value found = found ≡ Some f

-- What a decision of one value that allocates nothing answered.
abbrev pub Decides : {A : Type 0} → Result A Cause → A → List Fault → Type 0
Decides (Ok x) value faults = (x ≡ value) × (faults ≡ [])
Decides (Err cause) value faults = faults ≡ fault cause

-- a stop as that of a value in which the other one stands at a hop
abbrev pub Moved : Hop → SceneStop → SceneStop → Type 0
Moved hop stop stops.NoMemory = Unit {0}
Moved hop stops.NoMemory (stops.Fault f) = ⊥
Moved hop (stops.Fault g) (stops.Fault f) = f ≡ moved hop g

-- what was answered of a value, as that of the value in which it stands at a hop
abbrev pub MovedTo : {A : Type 0} → Hop → Result A SceneStop → Result A SceneStop → Type 0
MovedTo hop (Ok x) (Ok y) = y ≡ x
MovedTo hop (Ok x) (Err stop) = ⊥
MovedTo hop (Err stop) (Ok y) = ⊥
MovedTo hop (Err stop) (Err other) = Moved hop stop other

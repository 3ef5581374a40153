-- The line of a fault of reading.
use Rattle.std.specs.Prelude.{ℕ, List, [], ◌∷◌, ◌++◌, codes, Bool, if◌then◌else◌}
use Rattle.std.specs.Fmt.{decimal}
use Rattle.std.specs.List.{flat_map}
use Rattle.rig_scenejson.specs.declared.fault.Cause.{Cause}
use Rattle.rig_scenejson.specs.declared.fault.Fault.{Fault}
use Rattle.rig_scenejson.specs.declared.fault.Hop.{Hop}
use Rattle.rig_scenejson.specs.declared.fault.Hop.TheVariants.{Member, Index}
use Rattle.rig_scenejson.specs.Fault.{cause_code}
use Rattle.rig_scenejson.specs.Member.{member_word}

abbrev pub status_words : Bool → List ℕ
status_words scene = if scene then codes "fault BadScene " else codes "fault BadScript "

-- `fault BadScene S7`, or `fault BadScript ..`
abbrev pub fault_head : Cause → Bool → List ℕ
fault_head cause scene = status_words scene ++ cause_code cause

-- a step: a member by its name, an item by its index
abbrev pub hop_text : Hop → List ℕ
hop_text (Member member) = 47 ∷ member_word member
hop_text (Index index) = 47 ∷ decimal index

-- a space and the steps of a place, where it has one
abbrev pub place_words : List Hop → List ℕ
place_words [] = []
place_words (hop ∷ hops) = 32 ∷ flat_map hop_text (hop ∷ hops)

abbrev pub fault_line : Fault → Bool → List ℕ
fault_line f scene = fault_head f.cause scene ++ place_words f.place ++ 10 ∷ []

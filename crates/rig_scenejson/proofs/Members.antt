-- What stands after a member that may be absent: an absent list has no items.
use Rattle.std.proofs.Common.{◌≡◌, ℕ, ◌-◌, Option, Some, None, refl, arith}
use Rattle.std.specs.Option.{option_map_or}
use Rattle.serde_json.specs.Data.{Data, no_items}
use Rattle.rig_scenejson.specs.declared.member.Member.{Member}
use Rattle.rig_scenejson.specs.declared.member.Member.TheVariants as m
use Rattle.rig_scenejson.specs.Tests.{field, after_field, items_after}
use Rattle.rig_scenejson.specs.Value.{items_of}
use Rattle.rig_scenejson.specs.Given.{items_at}
use Rattle.rig_scenejson.specs.PassOne.{after_list, points_in, after_strokes, after_drawing}

list-there : {B : Type 0} (next : B → Data → B) (before : B) (found : Option Data)
    → option_map_or (after_list next before) found before ≡ items_after next before (option_map_or items_of found no_items)
list-there next before None = refl
list-there next before (Some d) = refl

-- an absent list is an empty one
pub after_optional_list : {B : Type 0} (member : Member) (next : B → Data → B) (before : B) (d : Data)
    → after_field member (after_list next) before d ≡ items_after next before (items_at member d)
after_optional_list member next before d = list-there next before (field member d)

strokes-there : (left : ℕ) (found : Option Data) → option_map_or (after_strokes left) found left ≡ left - points_in (option_map_or items_of found no_items)
strokes-there left None = omega arith
strokes-there left (Some d) = refl

-- a drawing with no strokes has no points
pub after_optional_strokes : (left : ℕ) (d : Data) → after_field m.Strokes after_strokes left d ≡ after_drawing left d
after_optional_strokes left d = strokes-there left (field m.Strokes d)

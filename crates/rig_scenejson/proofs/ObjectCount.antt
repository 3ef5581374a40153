-- The number of objects of a scene in which the first pass finds no fault.
use Rattle.std.proofs.Common.{◌≡◌, ℕ, ◌<◌, ◌≤◌, ◌^◌, true, nat_le, [], arith}
use Rattle.std.proofs.lemmas.Bool.Decides.{nat_tests}
use Rattle.serde_json.specs.Data.{Data}
use Rattle.rig_scene.specs.declared.limits.TheConstants.{MAX_OBJECTS}
use Rattle.rig_scenejson.specs.declared.member.Member.TheVariants as m
use Rattle.rig_scenejson.specs.Value.{item_count}
use Rattle.rig_scenejson.specs.Given.{items_at}
use Rattle.rig_scenejson.specs.PassOne.{object_faults, after_object, no_objects, after_armatures, pass_one}
use Rattle.rig_scenejson.proofs.Lists.{left_none, right_none, optional_list_none}

few : (d : Data) → pass_one d ≡ [] → nat_le (item_count (items_at m.Objects d)) MAX_OBJECTS ≡ true
unfolding pass_one
few d one = (optional_list_none m.Objects MAX_OBJECTS object_faults (after_object (after_armatures d).names) no_objects d (right_none _ _ (left_none _ _ one))).0

-- they are at most as many as a scene may have
pub object_count : (d : Data) → pass_one d ≡ [] → item_count (items_at m.Objects d) ≤ MAX_OBJECTS
object_count d one = let within = few d one in grind (arith, nat_tests)

-- so each index fits in 32 bits
pub object_index : (d : Data) → pass_one d ≡ [] → (index : ℕ) → index < item_count (items_at m.Objects d) → index < 2 ^ 32
object_index d one index inside = let few = object_count d one in omega arith

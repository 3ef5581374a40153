use Rattle.std.proofs.Common.{SFits, w64, rules}
use Rattle.std.proofs.lemmas.Int.{to_z-of_z}
use Rattle.rig_scriptjson.proofs.First.{first_append}
use Rattle.rig_scriptjson.proofs.Vectors.{faults_of_three}
use Rattle.rig_scriptjson.proofs.members.whole_items.Goals as goal

pub returns : goal.returns
returns c =
    let x : SFits w64 c.in_ok-x.x = search rules in
    let y : SFits w64 c.in_ok-y.y = search rules in
    let z : SFits w64 c.in_ok-z.z = search rules in
    rw (to_z-of_z w64 c.in_ok-x.x x, to_z-of_z w64 c.in_ok-y.y y, to_z-of_z w64 c.in_ok-z.z z) (search (rules, first_append, faults_of_three))

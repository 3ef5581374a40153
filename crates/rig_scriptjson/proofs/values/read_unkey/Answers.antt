use Rattle.std.proofs.Common.{SFits, w64, rules}
use Rattle.std.proofs.lemmas.Int.{to_z-of_z}
use Rattle.rig_scriptjson.proofs.First.{first_append}
use Rattle.rig_scriptjson.proofs.values.read_unkey.Goals as goal

pub returns : goal.returns
returns c =
    let frame : SFits w64 c.in_ok-frame.frame = search rules in
    rw (to_z-of_z w64 c.in_ok-frame.frame frame) (search (rules, first_append))

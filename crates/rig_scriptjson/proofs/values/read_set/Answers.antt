use Rattle.std.proofs.Common.{SFits, w64, rules}
use Rattle.std.proofs.lemmas.Int.{to_z-of_z}
use Rattle.rig_scriptjson.proofs.First.{first_append}
use Rattle.rig_scriptjson.proofs.values.read_set.Goals as goal

pub returns : goal.returns
returns c =
    let value : SFits w64 c.in_ok-value.value = search rules in
    rw (to_z-of_z w64 c.in_ok-value.value value) (search (rules, first_append))

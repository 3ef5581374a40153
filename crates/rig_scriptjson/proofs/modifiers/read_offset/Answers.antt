use Rattle.std.proofs.Common.{SFits, w64, rules}
use Rattle.std.proofs.lemmas.Int.{to_z-of_z}
use Rattle.rig_scriptjson.proofs.First.{first_append}
use Rattle.rig_scriptjson.proofs.modifiers.read_offset.Goals as goal

pub returns : goal.returns
returns c =
    let scale : SFits w64 c.in_ok-scale.scale = search rules in
    rw (to_z-of_z w64 c.in_ok-scale.scale scale) (search (rules, first_append))

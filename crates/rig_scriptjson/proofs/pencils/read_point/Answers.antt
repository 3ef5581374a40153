use Rattle.std.proofs.Common.{SFits, w64, rules}
use Rattle.std.proofs.lemmas.Int.{to_z-of_z}
use Rattle.rig_scriptjson.proofs.First.{first_append}
use Rattle.rig_scriptjson.proofs.pencils.read_point.Goals as goal

pub returns : goal.returns
returns c =
    let drawing : SFits w64 c.in_ok-drawing.drawing = search rules in
    let stroke : SFits w64 c.in_ok-stroke.stroke = search rules in
    let point : SFits w64 c.in_ok-point.point = search rules in
    rw (to_z-of_z w64 c.in_ok-drawing.drawing drawing, to_z-of_z w64 c.in_ok-stroke.stroke stroke, to_z-of_z w64 c.in_ok-point.point point) (search (rules, first_append))

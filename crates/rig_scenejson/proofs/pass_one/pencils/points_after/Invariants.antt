use Rattle.std.proofs.Common.{◌≡◌, ◌+◌, drop}
use Rattle.serde_json.specs.View.{items_view}
use Rattle.rig_scenejson.specs.PassOne.{points_in}
use Rattle.rig_scenejson.proofs.pass_one.pencils.points_after.Given as goal

abbrev pub invariant-loop-stroke : goal.invariant-loop-stroke
invariant-loop-stroke l = l.left + points_in (items_view l.strokes) ≡ l.points_left + points_in (items_view (drop l.stroke-index l.strokes))

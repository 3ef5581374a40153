use Rattle.std.proofs.Common.{◌≡◌, List, IfOk, map, subst, ap, ◌∙◌}
use Rattle.rig_fixed.specs.declared.vector.V3.{V3}
use Rattle.rig_points.specs.Change.{point_under}
use Rattle.rig_points.specs.Shift.{point_on}
use Rattle.rig_points.specs.declared.change.PointMap.{PointMap}
use Rattle.rig_points.proofs.Unclamped.{map-point_on}
use Rattle.rig_points.proofs.shift.Shift.points_of.Goals as goal

pub returns : goal.returns
returns c =
    let is : List V3 → Type 0 = λ points. IfOk c.points_on.result (λ new. new.items ≡ points) in
    let under : PointMap → Type 0 = λ change. IfOk c.points_on.result (λ new. new.items ≡ map (point_under change) c.args.points.now) in
    let lines = c.self.inside.lines in
    let change = c.self.inside.change.now in
    let near = c.as_slice.ensures.near in
    subst under c.self.view_is
    (subst is (ap (map (point_on lines)) c.as_slice.ensures.value ∙ map-point_on (point_under change) lines c.args.points.now c.self.invariant near) c.points_on.ensures)

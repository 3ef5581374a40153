-- Near points, under lines that give what a change gives.
use Rattle.std.proofs.Common.{◌≡◌, List, [], ◌∷◌, map, refl, ◌∙◌, ap}
use Rattle.std.proofs.lemmas.List.Elements.{All-head, All-tail}
use Rattle.rig_fixed.specs.declared.vector.V3.{V3}
use Rattle.rig_points.specs.Near.{IsNearPoint, AreNear}
use Rattle.rig_points.specs.Shift.{point_on, LinesGive}
use Rattle.rig_points.specs.declared.shift.Lines.{Lines}

-- near points on the lines are those under the change
pub map-point_on : (f : V3 → V3) (lines : Lines) (ps : List V3) → LinesGive f lines → AreNear ps → map (point_on lines) ps ≡ map f ps
map-point_on f lines [] gives near = refl
map-point_on f lines (p ∷ ps) gives near =
    ap (λ q. q ∷ map (point_on lines) ps) (gives p (All-head IsNearPoint p ps near)).0
    ∙ ap (λ qs. f p ∷ qs) (map-point_on f lines ps gives (All-tail IsNearPoint p ps near))

use Rattle.std.proofs.Common.{◌≡◌, List, IfOk, Option, Some, None, refl, subst, ◌∙◌, ap}
use Rattle.std.specs.Option.{option_copied}
use Rattle.rig_fixed.specs.Transform.{Transform}
use Rattle.rig_fixed.specs.declared.vector.V3.{V3}
use Rattle.rig_points.specs.Change.{point_under}
use Rattle.rig_scene.specs.declared.pencil.Stroke.{Stroke}
use Rattle.rig_scene.specs.Layer.{map_points, shown_point}
use Rattle.rig_strokes.specs.Shown.{layer_change}
use Rattle.rig_strokes.proofs.layer.layer_strokes.Goals as goal

-- the change of a layer takes each point to where it is shown
shown : (offset : V3) (deform : Option Transform) (ss : List Stroke) → map_points (point_under (layer_change offset deform)) ss ≡ map_points (shown_point offset deform) ss
shown offset None ss = refl
shown offset (Some transform) ss = refl

pub returns-in-Some-clause-strokes : goal.returns-in-Some-clause-strokes
returns-in-Some-clause-strokes c =
    let ss = c.in-Some.drawing.now.strokes in
    let is : List Stroke → Type 0 = λ strokes. IfOk c.strokes_under.result (λ new. new ≡ strokes) in
    rw c.in-Some.is (subst is (ap (λ change. map_points (point_under change) ss) c.layer_change.ensures ∙ shown c.args.offset (option_copied c.args.deform) ss) c.strokes_under.ensures)

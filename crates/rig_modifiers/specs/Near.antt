-- Strokes all of whose points are near 0.
use Rattle.std.specs.Prelude.{List, All}
use Rattle.rig_points.specs.Near.{AreNear}
use Rattle.rig_scene.specs.declared.pencil.Stroke.{Stroke}

abbrev pub AreNearStrokes : List Stroke → Type 0
AreNearStrokes strokes = All (λ s. AreNear s.points) strokes

-- Strokes that have no more points than one object may show.
use Rattle.std.specs.Prelude.{List, nat_le, if◌then◌else◌, Option, Some, None}
use Rattle.rig_scene.specs.declared.limits.TheConstants.{MAX_RESULT_POINTS}
use Rattle.rig_scene.specs.declared.pencil.Stroke.{Stroke}
use Rattle.rig_scene.specs.Layer.{stroke_points}

-- strokes, or none where they have too many points
abbrev pub if_few : List Stroke → Option (List Stroke)
if_few strokes = if nat_le (stroke_points strokes) MAX_RESULT_POINTS then Some strokes else None

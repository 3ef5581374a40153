-- What a layer shows, as one change of the points of a drawing.
use Rattle.std.specs.Prelude.{Option, Some, None}
use Rattle.rig_fixed.specs.Transform.{Transform}
use Rattle.rig_fixed.specs.declared.vector.V3.{V3}
use Rattle.rig_points.specs.declared.change.PointMap.{PointMap}
use Rattle.rig_points.specs.declared.change.PointMap.TheVariants.{Translation, Deform}

-- the change that a layer makes to each point
abbrev pub layer_change : V3 → Option Transform → PointMap
layer_change offset None = Translation offset
layer_change offset (Some transform) = Deform offset transform

-- The sides of a mirror, each made of the strokes that are mirrored.
use Rattle.std.specs.Prelude.{Bool, false, List}
use Rattle.rig_fixed.specs.declared.vector.V3.{V3}
use Rattle.rig_scene.specs.declared.channel.Axis.TheVariants.{X, Y}
use Rattle.rig_scene.specs.declared.pencil.Stroke.{Stroke}
use Rattle.rig_scene.specs.declared.modifier.Mirror.{Mirror as MirrorRecord}
use Rattle.rig_scene.specs.Layer.{map_points}
use Rattle.rig_scene.specs.Modify.{mirrored_on}
use Rattle.rig_points.specs.Change.{reflection_over}
use Rattle.rig_points.specs.declared.change.Axes.{Axes}

-- strokes on the other side of a centre along each axis that is on
abbrev pub side : Axes → V3 → List Stroke → List Stroke
side axes centre strokes = map_points (reflection_over axes centre) strokes

-- on one side of y and of z, both sides of x where the mirror has it on
abbrev pub on_x : MirrorRecord → V3 → Axes → List Stroke → List Stroke
on_x mirror centre axes strokes = mirrored_on mirror.x X centre (side axes centre strokes)

-- on one side of z, all sides of x and y where the mirror has them on
abbrev pub on_y : MirrorRecord → V3 → Bool → List Stroke → List Stroke
on_y mirror centre z strokes = mirrored_on mirror.y Y centre (on_x mirror centre record { x = false; y = false; z = z } strokes)

-- The values that the code keeps, as those of the definitions.
use Rattle.rig_kernel.specs.declared.value.Value.{Value as Kept}
use Rattle.rig_kernel.specs.declared.value.Value.TheVariants as kept
use Rattle.rig_scene.specs.Value.{Value, Numbers, Number, Transform, Strokes}

abbrev pub value_of : Kept → Value
value_of (kept.Numbers numbers) = Numbers numbers
value_of (kept.Number number) = Number number
value_of (kept.Transform transform) = Transform transform
value_of (kept.Strokes strokes) = Strokes strokes

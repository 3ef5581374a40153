-- What modifiers do to strokes.
use Rattle.std.specs.Prelude.{ℕ, ◌-◌, List, ◌++◌, nat_le, Bool, true, false, if◌then◌else◌, ℤ, pos, ◌*ℤ◌, ◌-ℤ◌, flat_map}
use Rattle.std.specs.List.{range_with_len}
use Rattle.rig_fixed.specs.Fixed.{clamp}
use Rattle.rig_fixed.specs.Vector.{v3_sum, v3_multiple, on_each}
use Rattle.rig_fixed.specs.declared.vector.V3.{V3}
use Rattle.rig_scene.specs.declared.channel.Axis.{Axis}
use Rattle.rig_scene.specs.declared.channel.Axis.TheVariants.{X, Y, Z}
use Rattle.rig_scene.specs.declared.pencil.Stroke.{Stroke}
use Rattle.rig_scene.specs.declared.modifier.Mode.{Mode}
use Rattle.rig_scene.specs.declared.modifier.Mode.TheVariants.{Viewport, Render}
use Rattle.rig_scene.specs.declared.modifier.Effect.{Effect}
use Rattle.rig_scene.specs.declared.modifier.Effect.TheVariants.{Offset, Mirror, Array}
use Rattle.rig_scene.specs.declared.modifier.Mirror.{Mirror as MirrorRecord}
use Rattle.rig_scene.specs.declared.modifier.Modifier.{Modifier}
use Rattle.rig_scene.specs.declared.limits.TheConstants.{MAX_RESULT_POINTS}
use Rattle.rig_scene.specs.Layer.{stroke_points, map_points}

-- strokes scaled about 0, and then moved
abbrev pub offset_strokes : V3 → ℤ → List Stroke → List Stroke
offset_strokes loc scale strokes = map_points (λ p. v3_sum (v3_multiple scale p) loc) strokes

-- a coordinate on the other side of a centre
abbrev pub reflection : ℤ → ℤ → ℤ
reflection centre c = clamp (pos 2 *ℤ centre -ℤ c)

-- a point on the other side of a centre along an axis
abbrev pub reflection_on : Axis → V3 → V3 → V3
reflection_on X centre p = record p { x = reflection centre.x p.x }
reflection_on Y centre p = record p { y = reflection centre.y p.y }
reflection_on Z centre p = record p { z = reflection centre.z p.z }

-- strokes, and where the axis is on all of them again on its other side
abbrev pub mirrored_on : Bool → Axis → V3 → List Stroke → List Stroke
mirrored_on false axis centre strokes = strokes
mirrored_on true axis centre strokes = strokes ++ map_points (reflection_on axis centre) strokes

-- strokes mirrored on each axis that is on, one after the other
abbrev pub mirror_strokes : MirrorRecord → V3 → List Stroke → List Stroke
mirror_strokes mirror centre strokes =
    mirrored_on mirror.z Z centre (mirrored_on mirror.y Y centre (mirrored_on mirror.x X centre strokes))

-- an offset so many times, clamped
abbrev pub times : ℕ → V3 → V3
times k offset = on_each (λ c. clamp (pos k *ℤ c)) offset

-- strokes, and copies of them up to a count in all, each moved by one more offset
abbrev pub array_strokes : ℕ → V3 → List Stroke → List Stroke
array_strokes count offset strokes =
    strokes ++ flat_map (λ k. map_points (λ p. v3_sum p (times k offset)) strokes) (range_with_len 1 (count - 1))

-- strokes under an effect, however many points they have then
abbrev pub effect_strokes : Effect → V3 → List Stroke → List Stroke
effect_strokes (Offset loc scale) centre strokes = offset_strokes loc scale strokes
effect_strokes (Mirror mirror) centre strokes = mirror_strokes mirror centre strokes
effect_strokes (Array count offset) centre strokes = array_strokes count offset strokes

-- strokes, where they have at most so many points, else others
abbrev pub unless_too_many : ℕ → List Stroke → List Stroke → List Stroke
unless_too_many most strokes others = if nat_le (stroke_points strokes) most then strokes else others

-- strokes under an effect with the centre of a mirror, or as they are where they would have more than so many points
abbrev pub modify_within : ℕ → Effect → V3 → List Stroke → List Stroke
modify_within most effect centre strokes = unless_too_many most (effect_strokes effect centre strokes) strokes

-- strokes under an effect with the centre of a mirror, or as they are where they would have too many points
unfoldable pub modify : Effect → V3 → List Stroke → List Stroke
modify effect centre strokes = modify_within MAX_RESULT_POINTS effect centre strokes

-- whether a modifier is on in a mode
abbrev pub is_on : Mode → Modifier → Bool
is_on Viewport modifier = modifier.viewport
is_on Render modifier = modifier.render

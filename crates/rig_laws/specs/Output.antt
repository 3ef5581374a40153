-- What an operation gave, as the operations that need it take it.
use Rattle.std.specs.Prelude.{◌≡◌, ◌≤ℤ◌, ℕ, List, [], ◌∷◌, map, slice_get, Bool, true, false, if◌then◌else◌, Option, Some, option_and_then, unwrap_or, ℤ, pos}
use Rattle.std.specs.Option.{option_map_or}
use Rattle.rig_fixed.specs.Transform.{Transform as TransformRecord}
use Rattle.rig_scene.specs.declared.operation.OpId.{OpId}
use Rattle.rig_scene.specs.declared.operation.OpId.TheVariants.{Time, Animation, Driver, Local, World, PoseInit, Bone, PoseDone, Layer, Geometry, ModifierOp, GeometryDone}
use Rattle.rig_scene.specs.declared.pencil.Stroke.{Stroke}
use Rattle.rig_scene.specs.Operations.{InLink}
use Rattle.rig_scene.specs.StandsFor.{quantity_of}
use Rattle.rig_scene.specs.WellFormed.{is_frame}
use Rattle.rig_scene.specs.Value.{Value, Numbers, rest_of, numbers_in, number_in, transform_in, strokes_in}

-- an operation, what it gave, and whether that is the rest value that a cut link gives in its place
pub record Output : Type 0 where
  pub op : OpId
  pub value : Value
  pub is_rest : Bool

-- the link that an output stands at: a cut one exactly where it is a rest value
abbrev pub link_of : Output → InLink
link_of out = record { op = out.op; cut = out.is_rest }

-- what a cut link gives in the place of an operation: the rest value of the quantity that it stands for
abbrev pub rest_value : OpId → Value
rest_value op = option_map_or rest_of (quantity_of op) (Numbers [])

abbrev pub rest_output : OpId → Output
rest_output op = record { op = op; value = rest_value op; is_rest = true }

-- what is taken at a link, where each operation has a value: the rest value at a cut link
abbrev pub output_at : (OpId → Value) → InLink → Output
output_at values link = if link.cut then rest_output link.op else record { op = link.op; value = values link.op; is_rest = false }

-- ---- the inputs of an operation, by index. Beyond the last one there is nothing: no numbers, 0, the identity, no strokes

abbrev pub input_value : List Output → ℕ → Value
input_value inputs k = option_map_or (λ i. i.value) (slice_get inputs k) (Numbers [])

abbrev pub numbers_at : List Output → ℕ → List (Option ℤ)
numbers_at inputs k = numbers_in (input_value inputs k)

abbrev pub number_at : List Output → ℕ → ℤ
number_at inputs k = number_in (input_value inputs k)

abbrev pub transform_at : List Output → ℕ → TransformRecord
transform_at inputs k = transform_in (input_value inputs k)

abbrev pub strokes_at : List Output → ℕ → List Stroke
strokes_at inputs k = strokes_in (input_value inputs k)

-- whether the link of an input is cut
abbrev pub is_rest_at : List Output → ℕ → Bool
is_rest_at inputs k = option_map_or (λ i. i.is_rest) (slice_get inputs k) false

-- the frame that the time gives: its one number
abbrev pub frame_in : Value → ℤ
frame_in value = option_map_or (λ number. unwrap_or number (pos 0)) (slice_get (numbers_in value) 0) (pos 0)

abbrev pub frame_at : List Output → ℕ → ℤ
frame_at inputs k = frame_in (input_value inputs k)

-- the value of the time at a frame
abbrev pub time_value : ℤ → Value
time_value frame = Numbers (Some frame ∷ [])

-- whether a value is that of the time, at a frame within the limits
abbrev pub is_time : Value → Bool
is_time (Numbers (Some frame ∷ [])) = is_frame frame
is_time value = false

-- whether an output may be one of an operation: that of the time has a frame within the limits
abbrev pub is_timed : OpId → Value → Bool
is_timed Time value = is_time value
is_timed op value = true

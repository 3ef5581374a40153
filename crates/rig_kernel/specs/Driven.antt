-- The driven channels among the inputs of an operation, and its eight numbers or three by the driven ones, the curves and the
-- original numbers. All channels of one object, of one bone or of one layer are told apart by their places.
use Rattle.std.specs.Prelude.{ℕ, zero, suc, ◌==◌, List, [], ◌∷◌, slice_get, Bool, true, false, Option, Some, None, option_and_then, if◌then◌else◌, ℤ}
use Rattle.rig_fixed.specs.declared.vector.V3.{V3}
use Rattle.rig_scene.specs.declared.channel.Axis.{Axis}
use Rattle.rig_scene.specs.declared.channel.Axis.TheVariants.{X, Y, Z}
use Rattle.rig_scene.specs.declared.channel.Channel.{Channel}
use Rattle.rig_scene.specs.declared.channel.Channel.TheVariants.{LocX, LocY, LocZ, RotW, RotX, RotY, RotZ, Scale}
use Rattle.rig_scene.specs.declared.channel.Channels.{Channels}
use Rattle.rig_scene.specs.declared.operation.OpId.{OpId}
use Rattle.rig_scene.specs.declared.operation.OpId.TheVariants.{Time, Animation, Driver, Local, World, PoseInit, Bone, PoseDone, Layer, Geometry, ModifierOp, GeometryDone}
use Rattle.rig_scene.specs.declared.path.Path.{Path}
use Rattle.rig_scene.specs.declared.path.Path.TheVariants as paths
use Rattle.rig_scene.specs.Channel.{channel_of, channels_by, coordinate_of, v3_by}
use Rattle.rig_scene.specs.ChannelNumber.{number_by}
use Rattle.rig_scene.specs.Value.{number_in}
use Rattle.rig_laws.specs.Output.{Output}

-- ---- places

abbrev pub channel_place : Channel → ℕ
channel_place LocX = 0
channel_place LocY = 1
channel_place LocZ = 2
channel_place RotW = 3
channel_place RotX = 4
channel_place RotY = 5
channel_place RotZ = 6
channel_place Scale = 7

abbrev pub axis_place : Axis → ℕ
axis_place X = 0
axis_place Y = 1
axis_place Z = 2

abbrev pub path_place : Path → ℕ
path_place (paths.Own channel) = channel_place channel
path_place (paths.Bone name channel) = channel_place channel
path_place (paths.Layer name axis) = axis_place axis

-- ---- driven channels

-- the number of a driver if its channel has a place, else another one; none where the operation is no driver
abbrev pub number_if : OpId → ℕ → ℤ → Option ℤ → Option ℤ
number_if Time place number later = None
number_if (Animation id) place number later = None
number_if (Driver id path) place number later = if path_place path == place then Some number else later
number_if (Local o) place number later = None
number_if (World o) place number later = None
number_if (PoseInit o) place number later = None
number_if (Bone o b) place number later = None
number_if (PoseDone o) place number later = None
number_if (Layer p l) place number later = None
number_if (Geometry o) place number later = None
number_if (ModifierOp o i) place number later = None
number_if (GeometryDone o) place number later = None

-- the number of the driver of the channel of a place, among so many inputs at most
unfoldable pub driven_among : ℕ → List Output → ℕ → Option ℤ
driven_among zero inputs place = None
driven_among (suc most) [] place = None
driven_among (suc most) (input ∷ inputs) place = number_if input.op place (number_in input.value) (driven_among most inputs place)

abbrev pub is_driver : OpId → Bool
is_driver Time = false
is_driver (Animation id) = false
is_driver (Driver id path) = true
is_driver (Local o) = false
is_driver (World o) = false
is_driver (PoseInit o) = false
is_driver (Bone o b) = false
is_driver (PoseDone o) = false
is_driver (Layer p l) = false
is_driver (Geometry o) = false
is_driver (ModifierOp o i) = false
is_driver (GeometryDone o) = false

-- how many drivers stand first among the inputs, of so many at most
unfoldable pub driver_count : ℕ → List Output → ℕ
driver_count zero inputs = 0
driver_count (suc most) [] = 0
driver_count (suc most) (input ∷ inputs) = if is_driver input.op then suc (driver_count most inputs) else 0

-- ---- curves

-- what the curve of an index gives
abbrev pub curve_number : List (Option ℤ) → Option ℕ → Option ℤ
curve_number numbers curve = option_and_then (λ i. option_and_then (λ number. number) (slice_get numbers i)) curve

-- ---- numbers

-- eight numbers, by the curve of each, the inputs of so many driven ones, and the original ones
abbrev pub channels_from : (Channel → Option ℕ) → List (Option ℤ) → ℕ → List Output → Channels → Channels
channels_from curve numbers drivers inputs original =
    channels_by (λ channel. number_by (driven_among drivers inputs (channel_place channel)) (curve_number numbers (curve channel)) (channel_of original channel))

-- three numbers, likewise
abbrev pub offset_from : (Axis → Option ℕ) → List (Option ℤ) → ℕ → List Output → V3 → V3
offset_from curve numbers drivers inputs original =
    v3_by (λ axis. number_by (driven_among drivers inputs (axis_place axis)) (curve_number numbers (curve axis)) (coordinate_of original axis))

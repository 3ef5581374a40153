-- The channels and axes in order, their words, and the number of each.
use Rattle.std.specs.Prelude.{ℕ, ℤ, List, [], ◌∷◌, Bool, true, false, Option, codes}
use Rattle.std.specs.List.{find}
use Rattle.rig_fixed.specs.Transform.{Transform}
use Rattle.rig_fixed.specs.declared.vector.V3.{V3}
use Rattle.rig_scene.specs.declared.channel.Axis.{Axis}
use Rattle.rig_scene.specs.declared.channel.Axis.TheVariants.{X, Y, Z}
use Rattle.rig_scene.specs.declared.channel.Channel.{Channel}
use Rattle.rig_scene.specs.declared.channel.Channel.TheVariants.{LocX, LocY, LocZ, RotW, RotX, RotY, RotZ, Scale}
use Rattle.rig_scene.specs.declared.channel.Channels.{Channels}
use Rattle.rig_scene.specs.Text.{same_text}

-- the eight channels, in order
abbrev pub channels : List Channel
channels = LocX ∷ LocY ∷ LocZ ∷ RotW ∷ RotX ∷ RotY ∷ RotZ ∷ Scale ∷ []

-- the three axes, in order
abbrev pub axes : List Axis
axes = X ∷ Y ∷ Z ∷ []

-- ---- which are the same

abbrev pub same_channel : Channel → Channel → Bool
same_channel LocX LocX = true
same_channel LocY LocY = true
same_channel LocZ LocZ = true
same_channel RotW RotW = true
same_channel RotX RotX = true
same_channel RotY RotY = true
same_channel RotZ RotZ = true
same_channel Scale Scale = true
same_channel a b = false

abbrev pub same_axis : Axis → Axis → Bool
same_axis X X = true
same_axis Y Y = true
same_axis Z Z = true
same_axis a b = false

-- ---- words

-- the word of a channel
abbrev pub channel_word : Channel → List ℕ
channel_word LocX = codes "loc.x"
channel_word LocY = codes "loc.y"
channel_word LocZ = codes "loc.z"
channel_word RotW = codes "rot.w"
channel_word RotX = codes "rot.x"
channel_word RotY = codes "rot.y"
channel_word RotZ = codes "rot.z"
channel_word Scale = codes "scale"

-- the word of the axis of an offset
abbrev pub axis_word : Axis → List ℕ
axis_word X = codes "offset.x"
axis_word Y = codes "offset.y"
axis_word Z = codes "offset.z"

-- the channel, or the axis, of a word
abbrev pub channel_named : List ℕ → Option Channel
channel_named word = find (λ c. same_text (channel_word c) word) channels

abbrev pub axis_named : List ℕ → Option Axis
axis_named word = find (λ a. same_text (axis_word a) word) axes

-- ---- numbers

-- one of eight numbers
abbrev pub channel_of : Channels → Channel → ℤ
channel_of c LocX = c.loc.x
channel_of c LocY = c.loc.y
channel_of c LocZ = c.loc.z
channel_of c RotW = c.rot.w
channel_of c RotX = c.rot.x
channel_of c RotY = c.rot.y
channel_of c RotZ = c.rot.z
channel_of c Scale = c.scale

-- eight numbers, one of them changed
abbrev pub with_channel : Channels → Channel → ℤ → Channels
with_channel c LocX value = record c { loc = record c.loc { x = value } }
with_channel c LocY value = record c { loc = record c.loc { y = value } }
with_channel c LocZ value = record c { loc = record c.loc { z = value } }
with_channel c RotW value = record c { rot = record c.rot { w = value } }
with_channel c RotX value = record c { rot = record c.rot { x = value } }
with_channel c RotY value = record c { rot = record c.rot { y = value } }
with_channel c RotZ value = record c { rot = record c.rot { z = value } }
with_channel c Scale value = record c { scale = value }

-- the eight numbers that a function gives
abbrev pub channels_by : (Channel → ℤ) → Channels
channels_by number = record {
  loc = record { x = number LocX; y = number LocY; z = number LocZ };
  rot = record { w = number RotW; x = number RotX; y = number RotY; z = number RotZ };
  scale = number Scale;
}

-- one of three coordinates
abbrev pub coordinate_of : V3 → Axis → ℤ
coordinate_of v X = v.x
coordinate_of v Y = v.y
coordinate_of v Z = v.z

-- three coordinates, one of them changed
abbrev pub with_coordinate : V3 → Axis → ℤ → V3
with_coordinate v X value = record v { x = value }
with_coordinate v Y value = record v { y = value }
with_coordinate v Z value = record v { z = value }

-- the vector that a function gives
abbrev pub v3_by : (Axis → ℤ) → V3
v3_by number = record { x = number X; y = number Y; z = number Z }

-- one of the eight numbers of a transform
abbrev pub transform_number : Transform → Channel → ℤ
transform_number t LocX = t.loc.x
transform_number t LocY = t.loc.y
transform_number t LocZ = t.loc.z
transform_number t RotW = t.rot.w
transform_number t RotX = t.rot.x
transform_number t RotY = t.rot.y
transform_number t RotZ = t.rot.z
transform_number t Scale = t.scale

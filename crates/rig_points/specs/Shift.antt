-- Points whose coordinates are changed by two steps each, with no clamp.
use Rattle.std.specs.Prelude.{◌≡◌, ℤ, ◌+ℤ◌}
use Rattle.std.specs.Int.{w64, int_bit_xor}
use Rattle.rig_fixed.specs.Fixed.{IsWithinLimits}
use Rattle.rig_fixed.specs.declared.vector.V3.{V3}
use Rattle.rig_points.specs.Near.{IsNear, IsNearPoint}
use Rattle.rig_points.specs.declared.shift.Line.{Line}
use Rattle.rig_points.specs.declared.shift.Lines.{Lines}

-- a coordinate whose bits are flipped by a mask, and to which a number is then added
abbrev pub value_on : Line → ℤ → ℤ
value_on line c = int_bit_xor w64 c line.mask +ℤ line.by

-- the line of each coordinate
abbrev pub line_x : Lines → Line
line_x lines = record { mask = lines.masks.x; by = lines.moves.x }

abbrev pub line_y : Lines → Line
line_y lines = record { mask = lines.masks.y; by = lines.moves.y }

abbrev pub line_z : Lines → Line
line_z lines = record { mask = lines.masks.z; by = lines.moves.z }

-- a point each of whose coordinates is changed so
abbrev pub point_on : Lines → V3 → V3
point_on lines p = record { x = value_on (line_x lines) p.x; y = value_on (line_y lines) p.y; z = value_on (line_z lines) p.z }

-- a point within the limits
abbrev pub IsWithin : V3 → Type 0
IsWithin p = IsWithinLimits p.x × IsWithinLimits p.y × IsWithinLimits p.z

-- a line that gives of each near coordinate what a function does, within the limits
abbrev pub LineGives : (ℤ → ℤ) → Line → Type 0
LineGives f line = (c : ℤ) → IsNear c → (value_on line c ≡ f c) × IsWithinLimits (value_on line c)

-- lines that give of each near point what a function does, within the limits
abbrev pub LinesGive : (V3 → V3) → Lines → Type 0
LinesGive f lines = (p : V3) → IsNearPoint p → (point_on lines p ≡ f p) × IsWithin (point_on lines p)

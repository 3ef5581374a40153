-- How often an effect has each point that it is given, in its result.
use Rattle.std.specs.Prelude.{ℕ, ◌*◌, Bool, if◌then◌else◌, max}
use Rattle.rig_scene.specs.declared.modifier.Effect.{Effect}
use Rattle.rig_scene.specs.declared.modifier.Effect.TheVariants.{Offset, Mirror, Array}
use Rattle.rig_scene.specs.declared.modifier.Mirror.{Mirror as MirrorRecord}

-- 2 for an axis that is on
abbrev pub sides_on : Bool → ℕ
sides_on on = if on then 2 else 1

abbrev pub mirror_copies : MirrorRecord → ℕ
mirror_copies mirror = sides_on mirror.x * sides_on mirror.y * sides_on mirror.z

-- a count of 0 leaves the strokes once
abbrev pub array_copies : ℕ → ℕ
array_copies count = max count 1

abbrev pub copies : Effect → ℕ
copies (Offset loc scale) = 1
copies (Mirror mirror) = mirror_copies mirror
copies (Array count offset) = array_copies count

-- The value of a curve at a frame (Blender Manual, F-curves).
use Rattle.std.specs.Prelude.{List, Option, Some, None, ℤ, ◌+ℤ◌, ◌-ℤ◌, ◌*ℤ◌}
use Rattle.rig_fixed.specs.Number.{rdiv}
use Rattle.rig_scene.specs.declared.action.Curve.{Curve}
use Rattle.rig_scene.specs.declared.action.Interp.{Interp}
use Rattle.rig_scene.specs.declared.action.Interp.TheVariants.{Constant, Linear}
use Rattle.rig_scene.specs.declared.action.Key.{Key}
use Rattle.rig_scene.specs.Keys.{key_up_to, key_after}

-- the value at a frame of the straight line through two keys
abbrev pub line_through : Key → Key → ℤ → ℤ
line_through left right frame =
    left.value +ℤ rdiv ((right.value -ℤ left.value) *ℤ (frame -ℤ left.frame)) (right.frame -ℤ left.frame)

-- the value from a key on, up to the next one: the key's, or on the line to the next
abbrev pub value_between : Interp → Key → Key → ℤ → ℤ
value_between Constant left right frame = left.value
value_between Linear left right frame = line_through left right frame

-- the value between the key up to a frame and the key after it: where either is missing, the other's value
abbrev pub value_from_keys : Option Key → Option Key → ℤ → Option ℤ
value_from_keys None None frame = None
value_from_keys None (Some right) frame = Some right.value
value_from_keys (Some left) None frame = Some left.value
value_from_keys (Some left) (Some right) frame = Some (value_between left.interp left right frame)

-- the value of keys at a frame, or none where there are no keys
unfoldable pub curve_at : List Key → ℤ → Option ℤ
curve_at keys frame = value_from_keys (key_up_to (λ k. k.frame) frame keys) (key_after (λ k. k.frame) frame keys) frame

-- the value of a curve at a frame, or none where it has no keys
abbrev pub curve_value : Curve → ℤ → Option ℤ
curve_value curve frame = curve_at curve.keys frame

-- What a name is.
use Rattle.std.specs.Prelude.{ℕ, ◌==◌, ◌&&◌, List, length, Bool, not, nat_lt, nat_le}
use Rattle.std.specs.List.{list_all}
use Rattle.std.specs.Str.{is_utf8}
use Rattle.rig_scene.specs.declared.limits.TheConstants.{MAX_NAME_BYTES}

-- a byte that a name may have: no control character of ASCII
abbrev pub is_name_byte : ℕ → Bool
is_name_byte b = nat_le 32 b && not (b == 127)

-- text of at least one byte and at most so many, each of which a name may have
abbrev pub is_name : List ℕ → Bool
is_name bytes = nat_lt 0 (length bytes) && nat_le (length bytes) MAX_NAME_BYTES && list_all is_name_byte bytes && is_utf8 bytes

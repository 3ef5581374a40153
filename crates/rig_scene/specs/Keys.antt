-- Keys by their frames: whether the frames rise, and the keys about a frame. A function says which frame a key has.
use Rattle.std.specs.Prelude.{List, Bool, Option, None, ℤ, int_lt, int_le}
use Rattle.std.specs.List.{filter, find, last_or}
use Rattle.rig_scene.specs.Distinct.{are_rising}

-- each frame is above the one before it
abbrev pub are_frames_rising : {K : Type 0} → (K → ℤ) → List K → Bool
are_frames_rising frame_of keys = are_rising (λ j k. int_lt (frame_of j) (frame_of k)) keys

-- the last key that is not after a frame
abbrev pub key_up_to : {K : Type 0} → (K → ℤ) → ℤ → List K → Option K
key_up_to frame_of frame keys = last_or None (filter (λ k. int_le (frame_of k) frame) keys)

-- the first key after a frame
abbrev pub key_after : {K : Type 0} → (K → ℤ) → ℤ → List K → Option K
key_after frame_of frame keys = find (λ k. int_lt frame (frame_of k)) keys

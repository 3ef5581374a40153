-- Where the key of a frame stands among keys whose frames rise, or where it is to be put in.
use Rattle.std.proofs.Common.{◌≡◌, ℕ, ◌<◌, ◌≤◌, true, false, List, length, ℤ, int_eq, slice_set, Result, Ok, Err}
use Rattle.std.specs.List.{list_any, insert, remove}
use Rattle.rig_edits.specs.Edited.{put_key, drop_key}

-- a key of the frame stands at an index: another is put in its place
pub record KeyAt {K : Type 0} (frame_of : K → ℤ) (frame : ℤ) (keys : List K) (index : ℕ) : Type 0 where
  pub within : index < length keys
  pub has : list_any (λ k. int_eq (frame_of k) frame) keys ≡ true
  pub put : (key : K) → frame_of key ≡ frame → put_key frame_of key keys ≡ slice_set keys index key
  pub dropped : drop_key frame_of frame keys ≡ remove keys index

-- no key has the frame: one is put in at an index
pub record KeyFits {K : Type 0} (frame_of : K → ℤ) (frame : ℤ) (keys : List K) (index : ℕ) : Type 0 where
  pub within : index ≤ length keys
  pub has : list_any (λ k. int_eq (frame_of k) frame) keys ≡ false
  pub put : (key : K) → frame_of key ≡ frame → put_key frame_of key keys ≡ insert keys index key
  pub dropped : drop_key frame_of frame keys ≡ keys

-- Ok has the index of the key, Err the index at which one is put in
abbrev pub KeyIndex : {K : Type 0} → (K → ℤ) → ℤ → List K → Result ℕ ℕ → Type 0
KeyIndex frame_of frame keys (Ok index) = KeyAt frame_of frame keys index
KeyIndex frame_of frame keys (Err index) = KeyFits frame_of frame keys index

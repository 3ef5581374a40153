-- What `partition_point` gives of keys whose frames rise, in the words of the clauses of the searches.
use Rattle.std.proofs.Common.{◌≡◌, ℕ, ◌≤◌, List, length, take, drop, filter, Bool, true, false, ℤ, int_le, int_lt, slice_get, get_or, arith}
use Rattle.std.proofs.lemmas.List.Sorted.{IsPartitionPoint-from_clause}
use Rattle.std.specs.Fn.{Called, ComputesKey}
use Rattle.std.specs.List.{find}
use Rattle.std.specs.List.Sorted.{IsPartitionedBy, IsPartitionPoint}
use denote.Param.Members.{Mut}
use denote.Ref.{Bor}
use Rattle.rig_scene.specs.Keys.{are_frames_rising}
use Rattle.rig_scene.specs.Rising.{rising-partitioned, rising-partitioned_before, filter-take, filter-drop, find-slice_get, lt-of_not_le, not_lt-of_le, le-of_not_lt, not_le-of_lt}

-- keys that are split by a test at an index: those that pass it stand before, and those that pass the opposite test behind
abbrev pub IsSplit : {K : Type 0} → (K → Bool) → (K → Bool) → List K → ℕ → Type 0
IsSplit before behind keys i = (filter before keys ≡ take i keys) × (find behind keys ≡ slice_get keys i) × (filter behind keys ≡ drop i keys)

split : {K : Type 0} (before behind : K → Bool) → ((k : K) → before k ≡ true → behind k ≡ false) → ((k : K) → before k ≡ false → behind k ≡ true)
    → (keys : List K) (i : ℕ) → i ≤ length keys → IsPartitionPoint (λ k. before k ≡ true) (λ k. before k ≡ false) keys i → IsSplit before behind keys i
split before behind fails passes keys i within point = (
  filter-take before keys i within (λ k d h. point.0 k d (omega arith) h) point.1,
  find-slice_get behind keys i within (λ k d h. fails (get_or keys k d) (point.0 k d (omega arith) h)) (λ k d h w. passes (get_or keys k d) (point.1 k d h w)),
  filter-drop behind keys i within (λ k d h. fails (get_or keys k d) (point.0 k d (omega arith) h)) (λ k d h w. passes (get_or keys k d) (point.1 k d h w)),
)

module _ {K F : Type 0} {g : Mut F (Bor K × Unit {0}) Bool} {f : F} (frame_of : K → ℤ) (frame : ℤ) (keys : List K) (i : ℕ) (within : i ≤ length keys)
    (clause : (t : K → Bool) → ComputesKey g t f → IsPartitionedBy t keys → IsPartitionPoint (λ k. t k ≡ true) (λ k. t k ≡ false) keys i)
    (rises : are_frames_rising frame_of keys ≡ true) where
  -- by the keys at or before a frame
  pub split_after : ((a : Bor K × Unit {0}) (r : Bool) (h : F) → Called g f a r h → (r ≡ int_le (frame_of a.0.now) frame) × (h ≡ f))
      → IsSplit (λ k. int_le (frame_of k) frame) (λ k. int_lt frame (frame_of k)) keys i
  split_after calls =
      split (λ k. int_le (frame_of k) frame) (λ k. int_lt frame (frame_of k)) (λ k. not_lt-of_le (frame_of k) frame) (λ k. lt-of_not_le (frame_of k) frame)
      keys i within (IsPartitionPoint-from_clause (λ k. int_le (frame_of k) frame) keys i clause (rising-partitioned frame_of keys frame rises) calls)

  -- by the keys before it
  pub split_from : ((a : Bor K × Unit {0}) (r : Bool) (h : F) → Called g f a r h → (r ≡ int_lt (frame_of a.0.now) frame) × (h ≡ f))
      → IsSplit (λ k. int_lt (frame_of k) frame) (λ k. int_le frame (frame_of k)) keys i
  split_from calls =
      split (λ k. int_lt (frame_of k) frame) (λ k. int_le frame (frame_of k)) (λ k. not_le-of_lt (frame_of k) frame) (λ k. le-of_not_lt (frame_of k) frame)
      keys i within (IsPartitionPoint-from_clause (λ k. int_lt (frame_of k) frame) keys i clause (rising-partitioned_before frame_of keys frame rises) calls)

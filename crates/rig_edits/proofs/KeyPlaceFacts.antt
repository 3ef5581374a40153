-- A key that is found by its frame, or isn't, stands where an edit of keys puts it.
use Rattle.std.proofs.Common.{◌≡◌, ℕ, zero, suc, ◌<◌, ◌≤◌, Bool, true, false, cond, ◌||◌, List, [], ◌∷◌, ◌++◌, length, filter, take, drop, ℤ, pos, negsuc, SFits, w32, to_z, of_z, None, not, int_lt, int_le, int_eq, slice_get, slice_set, Some, find, All, AllPairs, refl, sym, ap, ◌∙◌, arith}
use Rattle.std.specs.Prelude.{IsTrue}
use Rattle.std.specs.List.{list_any, remove}
use Rattle.std.proofs.lemmas.Bool.{and_parts}
use Rattle.std.proofs.lemmas.Int.{ints, to_z-of_z}
use Rattle.std.proofs.lemmas.List.Elements.{All-nil, All-cons, All-head, All-tail, All-weaker}
use Rattle.std.proofs.lemmas.List.Folds.{list_any_none}
use Rattle.std.proofs.lemmas.Option.{same_Some}
use Rattle.rig_scene.specs.Keys.{are_frames_rising}
use Rattle.rig_scene.specs.Pairs.{AllPairs-head, AllPairs-tail}
use Rattle.rig_scene.specs.Rising.{lt-of_not_le}
use Rattle.rig_scene.specs.declared.limits.TheConstants.{MIN_FRAME, MAX_FRAME}
use Rattle.rig_scene.specs.WellFormed.{is_frame}
use Rattle.rig_edits.specs.declared.cause.EditCause.TheVariants.{OutOfRange}
use Rattle.rig_edits.specs.Conditions.{when}
use Rattle.rig_edits.specs.Edited.{drop_key}
use Rattle.rig_edits.specs.Replaced.{All-slice_get}
use Rattle.rig_edits.specs.KeyLists.{all_pairs, not_lt_back, through_frames}
use Rattle.rig_edits.specs.KeyPlaces.{KeyAt, KeyFits}

-- ---- the tests of a key before, at and behind a frame

lt_from_le : (a b : ℤ) → int_le a b ≡ true → int_eq b a ≡ false → int_lt a b ≡ true
lt_from_le a b e n = grind (arith, ints)

pub same_frame : (a b : ℤ) → int_eq a b ≡ true → a ≡ b
same_frame a b e = grind (arith, ints)

not_lt_itself : (a : ℤ) → int_lt a a ≡ false
not_lt_itself a = grind (arith, ints)

eq_itself : (a : ℤ) → int_eq a a ≡ true
eq_itself a = grind (arith, ints)

not_eq_below : (a b : ℤ) → int_lt a b ≡ true → int_eq a b ≡ false
not_eq_below a b e = grind (arith, ints)

not_eq_above : (a b : ℤ) → int_lt a b ≡ true → int_eq b a ≡ false
not_eq_above a b e = grind (arith, ints)

same_tests : (a b : ℤ) → int_eq b a ≡ false → int_lt a b ≡ int_le a b
same_tests a b n = grind (arith, ints)

module _ {K : Type 0} (frame_of : K → ℤ) where
  abbrev Rises : K → K → Type 0
  Rises j k = IsTrue (int_lt (frame_of j) (frame_of k))

  -- ---- all keys are behind a frame

  none_before : (frame : ℤ) (keys : List K) → All (λ k. int_lt frame (frame_of k) ≡ true) keys → filter (λ k. int_lt (frame_of k) frame) keys ≡ []
  none_before frame [] h = refl
  none_before frame (x ∷ xs) h =
      let fails : int_lt (frame_of x) frame ≡ false = not_lt_back frame (frame_of x) (All-head (λ k. int_lt frame (frame_of k) ≡ true) x xs h) in
      rw fails (none_before frame xs (All-tail (λ k. int_lt frame (frame_of k) ≡ true) x xs h))

  all_behind : (frame : ℤ) (keys : List K) → All (λ k. int_lt frame (frame_of k) ≡ true) keys → filter (λ k. int_lt frame (frame_of k)) keys ≡ keys
  all_behind frame [] h = refl
  all_behind frame (x ∷ xs) h =
      let passes : int_lt frame (frame_of x) ≡ true = All-head (λ k. int_lt frame (frame_of k) ≡ true) x xs h in
      rw passes (ap (λ ys. x ∷ ys) (all_behind frame xs (All-tail (λ k. int_lt frame (frame_of k) ≡ true) x xs h)))

  -- ---- no key has a frame

  none_dropped : (frame : ℤ) (keys : List K) → All (λ k. int_eq (frame_of k) frame ≡ false) keys → drop_key frame_of frame keys ≡ keys
  none_dropped frame [] h = refl
  none_dropped frame (x ∷ xs) h =
      let fails : int_eq (frame_of x) frame ≡ false = All-head (λ k. int_eq (frame_of k) frame ≡ false) x xs h in
      rw fails (ap (λ ys. x ∷ ys) (none_dropped frame xs (All-tail (λ k. int_eq (frame_of k) frame ≡ false) x xs h)))

  from_is_behind : (frame : ℤ) (keys : List K) → All (λ k. int_eq (frame_of k) frame ≡ false) keys
      → filter (λ k. int_lt frame (frame_of k)) keys ≡ filter (λ k. int_le frame (frame_of k)) keys
  from_is_behind frame [] h = refl
  from_is_behind frame (x ∷ xs) h =
      let same : int_lt frame (frame_of x) ≡ int_le frame (frame_of x) =
      same_tests frame (frame_of x) (All-head (λ k. int_eq (frame_of k) frame ≡ false) x xs h) in
      ap (λ b. cond b (x ∷ filter (λ k. int_lt frame (frame_of k)) xs) (filter (λ k. int_lt frame (frame_of k)) xs)) same
      ∙ ap (λ ys. cond (int_le frame (frame_of x)) (x ∷ ys) ys)
      (from_is_behind frame xs (All-tail (λ k. int_eq (frame_of k) frame ≡ false) x xs h))

  -- the first that isn't before the frame isn't at it, so none is
  none_at : (frame : ℤ) (keys : List K) → AllPairs Rises keys
      → ((k : K) → find (λ k. int_le frame (frame_of k)) keys ≡ Some k → int_eq (frame_of k) frame ≡ false)
      → All (λ k. int_eq (frame_of k) frame ≡ false) keys
  none_at frame [] rise other = All-nil (λ k. int_eq (frame_of k) frame ≡ false)
  none_at frame (x ∷ xs) rise other =
      by (int_le frame (frame_of x)) refl other (none_at frame xs (AllPairs-tail Rises x xs rise))
    where
      by : (b : Bool) → int_le frame (frame_of x) ≡ b
          → ((k : K) → cond b (Some x) (find (λ k. int_le frame (frame_of k)) xs) ≡ Some k → int_eq (frame_of k) frame ≡ false)
          → (((k : K) → find (λ k. int_le frame (frame_of k)) xs ≡ Some k → int_eq (frame_of k) frame ≡ false)
          → All (λ k. int_eq (frame_of k) frame ≡ false) xs)
          → All (λ k. int_eq (frame_of k) frame ≡ false) (x ∷ xs)
      by true is other rest =
          let here : int_eq (frame_of x) frame ≡ false = other x refl in
          All-cons (λ k. int_eq (frame_of k) frame ≡ false) x xs here
          (All-weaker (Rises x) (λ k. int_eq (frame_of k) frame ≡ false)
          (λ k e. not_eq_above frame (frame_of k) (through_frames frame (frame_of x) (frame_of k) (lt_from_le frame (frame_of x) is here) e))
          xs (AllPairs-head Rises x xs rise))
      by false is other rest =
          All-cons (λ k. int_eq (frame_of k) frame ≡ false) x xs (not_eq_below (frame_of x) frame (lt-of_not_le frame (frame_of x) is))
          (rest other)

  -- ---- the key at an index

  module _ (k : K) where
    had : (keys : List K) (i : ℕ) → slice_get keys i ≡ Some k → list_any (λ j. int_eq (frame_of j) (frame_of k)) keys ≡ true
    had [] i at = cc
    had (x ∷ xs) zero at =
        let here : x ≡ k = same_Some x k at in
        ap (λ y. int_eq (frame_of y) (frame_of k) || list_any (λ j. int_eq (frame_of j) (frame_of k)) xs) here
        ∙ ap (λ b. b || list_any (λ j. int_eq (frame_of j) (frame_of k)) xs) (eq_itself (frame_of k))
    had (x ∷ xs) (suc i) at =
        ap (λ b. int_eq (frame_of x) (frame_of k) || b) (had xs i at) ∙ or_true (int_eq (frame_of x) (frame_of k))
      where
        or_true : (b : Bool) → (b || true) ≡ true
        or_true true = refl
        or_true false = refl

    put_at : (key : K) (keys : List K) (i : ℕ) → frame_of key ≡ frame_of k → AllPairs Rises keys → slice_get keys i ≡ Some k
        → filter (λ j. int_lt (frame_of j) (frame_of k)) keys ++ key ∷ filter (λ j. int_lt (frame_of k) (frame_of j)) keys ≡ slice_set keys i key
    put_at key [] i same rise at = cc
    put_at key (x ∷ xs) zero same rise at =
        let here : x ≡ k = same_Some x k at in
        let fails : int_lt (frame_of x) (frame_of k) ≡ false = ap (λ y. int_lt (frame_of y) (frame_of k)) here ∙ not_lt_itself (frame_of k) in
        let fails_too : int_lt (frame_of k) (frame_of x) ≡ false = ap (λ y. int_lt (frame_of k) (frame_of y)) here ∙ not_lt_itself (frame_of k) in
        let above : All (λ j. int_lt (frame_of k) (frame_of j) ≡ true) xs =
        All-weaker (Rises x) (Rises k) (λ j e. ap (λ y. int_lt (frame_of y) (frame_of j)) (sym here) ∙ e) xs (AllPairs-head Rises x xs rise) in
        rw (fails, fails_too, none_before (frame_of k) xs above, all_behind (frame_of k) xs above) refl
    put_at key (x ∷ xs) (suc i) same rise at =
        let passes : int_lt (frame_of x) (frame_of k) ≡ true = All-slice_get (Rises x) xs i k at (AllPairs-head Rises x xs rise) in
        let fails : int_lt (frame_of k) (frame_of x) ≡ false = not_lt_back (frame_of x) (frame_of k) passes in
        rw (passes, fails) (ap (λ ys. x ∷ ys) (put_at key xs i same (AllPairs-tail Rises x xs rise) at))

    dropped_at : (keys : List K) (i : ℕ) → AllPairs Rises keys → slice_get keys i ≡ Some k → drop_key frame_of (frame_of k) keys ≡ remove keys i
    dropped_at [] i rise at = cc
    dropped_at (x ∷ xs) zero rise at =
        let here : x ≡ k = same_Some x k at in
        let passes : int_eq (frame_of x) (frame_of k) ≡ true = ap (λ y. int_eq (frame_of y) (frame_of k)) here ∙ eq_itself (frame_of k) in
        rw passes (none_dropped (frame_of k) xs (All-weaker (Rises x) (λ j. int_eq (frame_of j) (frame_of k) ≡ false)
        (λ j e. not_eq_above (frame_of k) (frame_of j) (ap (λ y. int_lt (frame_of y) (frame_of j)) (sym here) ∙ e)) xs (AllPairs-head Rises x xs rise)))
    dropped_at (x ∷ xs) (suc i) rise at =
        let fails : int_eq (frame_of x) (frame_of k) ≡ false =
        not_eq_below (frame_of x) (frame_of k) (All-slice_get (Rises x) xs i k at (AllPairs-head Rises x xs rise)) in
        rw fails (ap (λ ys. x ∷ ys) (dropped_at xs i (AllPairs-tail Rises x xs rise) at))

  -- ---- the two answers

  pub key_at : (keys : List K) (frame : ℤ) (i : ℕ) (k : K) → IsTrue (are_frames_rising frame_of keys) → i < length keys
      → slice_get keys i ≡ Some k → frame_of k ≡ frame → KeyAt frame_of frame keys i
  key_at keys frame i k rise within at same =
      let pairs : AllPairs Rises keys = all_pairs frame_of keys rise in
      record {
        within = within;
        has = ap (λ f. list_any (λ j. int_eq (frame_of j) f) keys) (sym same) ∙ had k keys i at;
        put = λ key is.
            ap (λ f. filter (λ j. int_lt (frame_of j) f) keys ++ key ∷ filter (λ j. int_lt f (frame_of j)) keys) (is ∙ sym same)
            ∙ put_at k key keys i (is ∙ sym same) pairs at;
        dropped = ap (λ f. drop_key frame_of f keys) (sym same) ∙ dropped_at k keys i pairs at;
      }

  pub key_fits : (keys : List K) (frame : ℤ) (i : ℕ) → IsTrue (are_frames_rising frame_of keys) → i ≤ length keys
      → filter (λ k. int_lt (frame_of k) frame) keys ≡ take i keys → filter (λ k. int_le frame (frame_of k)) keys ≡ drop i keys
      → find (λ k. int_le frame (frame_of k)) keys ≡ slice_get keys i
      → ((k : K) → slice_get keys i ≡ Some k → int_eq (frame_of k) frame ≡ false) → KeyFits frame_of frame keys i
  key_fits keys frame i rise within before rest next other =
      let pairs : AllPairs Rises keys = all_pairs frame_of keys rise in
      let none : All (λ k. int_eq (frame_of k) frame ≡ false) keys = none_at frame keys pairs (λ k e. other k (sym next ∙ e)) in
      record {
        within = within;
        has = list_any_none (λ k. int_eq (frame_of k) frame) keys none;
        put = λ key is.
            ap (λ f. filter (λ j. int_lt (frame_of j) f) keys ++ key ∷ filter (λ j. int_lt f (frame_of j)) keys) is
            ∙ ap (λ ys. ys ++ key ∷ filter (λ j. int_lt frame (frame_of j)) keys) before
            ∙ ap (λ ys. take i keys ++ key ∷ ys) (from_is_behind frame keys none ∙ rest);
        dropped = none_dropped frame keys none;
      }

-- ---- frames as numbers of 32 bits

in_bits : (frame : ℤ) → int_le MIN_FRAME frame ≡ true → int_le frame MAX_FRAME ≡ true → SFits w32 frame
in_bits (pos n) above below = record { sfits = grind (arith, ints) }
in_bits (negsuc n) above below = record { sfits = grind (arith, ints) }

-- a frame in range is itself
pub frame_in_bits : (frame : ℤ) → when OutOfRange (not (is_frame frame)) ≡ None → to_z w32 (of_z w32 frame) ≡ frame
frame_in_bits frame none = by (is_frame frame) refl none
  where
    by : (b : Bool) → is_frame frame ≡ b → when OutOfRange (not b) ≡ None → to_z w32 (of_z w32 frame) ≡ frame
    by true is none =
        let parts = and_parts (int_le MIN_FRAME frame) (int_le frame MAX_FRAME) is in
        to_z-of_z w32 frame (in_bits frame parts.0 parts.1)
    by false is none = cc

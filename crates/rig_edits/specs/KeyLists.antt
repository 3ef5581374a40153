-- Keys whose frames rise, with one put in or taken out.
use Rattle.std.proofs.Common.{◌≡◌, ℕ, suc, ◌+◌, ◌<◌, ◌≤◌, Bool, true, false, not, cond, ◌||◌, List, [], ◌∷◌, length, filter, ℤ, int_lt, int_eq, All, AllPairs, refl, sym, length-append, arith}
use Rattle.std.specs.Prelude.{IsTrue}
use Rattle.std.specs.List.{list_any}
use Rattle.std.proofs.lemmas.Bool.{and_from, false≢true}
use Rattle.std.proofs.lemmas.Int.{ints}
use Rattle.std.proofs.lemmas.List.Elements.{All-cons, All-head, All-weaker, All-filter, All-append, filter_passes}
use Rattle.rig_scene.specs.Distinct.{are_rising}
use Rattle.rig_scene.specs.Keys.{are_frames_rising}
use Rattle.rig_scene.specs.Pairs.{AllPairs-cons, AllPairs-head, AllPairs-tail, AllPairs-append, AllPairs-filter, pairs_from_rising}
use Rattle.rig_edits.specs.Edited.{put_key, drop_key}

-- pairs that rise are a list that rises
rising_pairs : {A : Type 0} (below : A → A → Bool) (xs : List A) → AllPairs (λ x y. IsTrue (below x y)) xs → IsTrue (are_rising below xs)
rising_pairs below [] pairs = refl
rising_pairs below (x ∷ []) pairs = refl
rising_pairs below (x ∷ y ∷ ys) pairs =
    and_from _ _ (All-head (λ z. IsTrue (below x z)) y ys (AllPairs-head (λ x y. IsTrue (below x y)) x (y ∷ ys) pairs))
    (rising_pairs below (y ∷ ys) (AllPairs-tail (λ x y. IsTrue (below x y)) x (y ∷ ys) pairs))

-- two tests of which no element passes both pass no more than there are
step_within : {A : Type 0} (a b : Bool) (x : A) (us vs : List A) (n : ℕ) → (a ≡ true → b ≡ false) → length us + length vs ≤ n
    → length (cond a (x ∷ us) us) + length (cond b (x ∷ vs) vs) ≤ suc n
step_within true true x us vs n apart rest = absurd (false≢true (sym (apart refl)))
step_within true false x us vs n apart rest = omega (arith, rest)
step_within false true x us vs n apart rest = omega (arith, rest)
step_within false false x us vs n apart rest = omega (arith, rest)

filters_within : {A : Type 0} (p q : A → Bool) → ((x : A) → p x ≡ true → q x ≡ false) → (xs : List A)
    → length (filter p xs) + length (filter q xs) ≤ length xs
filters_within p q apart [] = omega arith
filters_within p q apart (x ∷ xs) = step_within (p x) (q x) x (filter p xs) (filter q xs) (length xs) (apart x) (filters_within p q apart xs)

-- and fewer, where one element passes neither
step_below : {A : Type 0} (a b c : Bool) (x : A) (us vs : List A) (n : ℕ) (rest : Bool) → (a ≡ true → b ≡ false)
    → (c ≡ true → (a ≡ false) × (b ≡ false)) → (c || rest) ≡ true → length us + length vs ≤ n
    → (rest ≡ true → length us + length vs < n)
    → length (cond a (x ∷ us) us) + length (cond b (x ∷ vs) vs) < suc n
step_below true b true x us vs n rest apart neither is most fewer = absurd (false≢true (sym (neither refl).0))
step_below false true true x us vs n rest apart neither is most fewer = absurd (false≢true (sym (neither refl).1))
step_below false false true x us vs n rest apart neither is most fewer = omega (arith, most)
step_below a b false x us vs n rest apart neither is most fewer =
    omega (arith, step_within a b x us vs (length us + length vs) apart (omega arith), fewer is)

filters_below : {A : Type 0} (p q r : A → Bool) → ((x : A) → p x ≡ true → q x ≡ false)
    → ((x : A) → r x ≡ true → (p x ≡ false) × (q x ≡ false)) → (xs : List A) → list_any r xs ≡ true
    → length (filter p xs) + length (filter q xs) < length xs
filters_below p q r apart neither [] is = absurd (false≢true is)
filters_below p q r apart neither (x ∷ xs) is =
    step_below (p x) (q x) (r x) x (filter p xs) (filter q xs) (length xs) (list_any r xs) (apart x) (neither x) is (filters_within p q apart xs)
    (filters_below p q r apart neither xs)

-- frames in their order
pub not_lt_back : (a b : ℤ) → int_lt a b ≡ true → int_lt b a ≡ false
not_lt_back a b e = grind (arith, ints)

same_frames : (a b : ℤ) → int_eq a b ≡ true → (int_lt a b ≡ false) × (int_lt b a ≡ false)
same_frames a b e = (grind (arith, ints), grind (arith, ints))

pub through_frames : (a b c : ℤ) → IsTrue (int_lt a b) → IsTrue (int_lt b c) → IsTrue (int_lt a c)
through_frames a b c e h = grind (arith, ints)

module _ {K : Type 0} (frame_of : K → ℤ) where
  -- the keys before and after another
  abbrev before : K → List K → List K
  before key keys = filter (λ k. int_lt (frame_of k) (frame_of key)) keys

  abbrev behind : K → List K → List K
  behind key keys = filter (λ k. int_lt (frame_of key) (frame_of k)) keys

  -- a key in its place is one more, where none has its frame
  pub length-put_key : (key : K) (keys : List K) (has : Bool) → list_any (λ k. int_eq (frame_of k) (frame_of key)) keys ≡ has
      → length (put_key frame_of key keys) ≤ length keys + cond has 0 1
  length-put_key key keys has is =
      let whole : length (put_key frame_of key keys) ≡ length (before key keys) + suc (length (behind key keys)) = length-append _ _ in
      omega (arith, whole, by has is)
    where
      apart : (k : K) → int_lt (frame_of k) (frame_of key) ≡ true → int_lt (frame_of key) (frame_of k) ≡ false
      apart k = not_lt_back (frame_of k) (frame_of key)

      by : (has : Bool) → list_any (λ k. int_eq (frame_of k) (frame_of key)) keys ≡ has
          → length (before key keys) + suc (length (behind key keys)) ≤ length keys + cond has 0 1
      by true is = omega (arith, filters_below _ _ (λ k. int_eq (frame_of k) (frame_of key)) apart (λ k. same_frames (frame_of k) (frame_of key)) keys is)
      by false is = omega (arith, filters_within _ _ apart keys)

  -- what each key and the new one promise
  pub All-put_key : (P : K → Type 0) (key : K) (keys : List K) → P key → All P keys → All P (put_key frame_of key keys)
  All-put_key P key keys here old =
      All-append P _ _ (All-filter (λ k. int_lt (frame_of k) (frame_of key)) P keys old)
      (All-cons P key _ here (All-filter (λ k. int_lt (frame_of key) (frame_of k)) P keys old))

  pub all_pairs : (keys : List K) → IsTrue (are_frames_rising frame_of keys) → AllPairs (λ j k. IsTrue (int_lt (frame_of j) (frame_of k))) keys
  all_pairs keys rise =
      pairs_from_rising (λ j k. int_lt (frame_of j) (frame_of k)) (λ i j k. through_frames (frame_of i) (frame_of j) (frame_of k)) keys rise

  -- frames rise still
  pub rising-put_key : (key : K) (keys : List K) → IsTrue (are_frames_rising frame_of keys)
      → IsTrue (are_frames_rising frame_of (put_key frame_of key keys))
  rising-put_key key keys rise =
      let Rises : K → K → Type 0 = λ j k. IsTrue (int_lt (frame_of j) (frame_of k)) in
      let above : All (Rises key) (behind key keys) = filter_passes (λ k. int_lt (frame_of key) (frame_of k)) keys in
      rising_pairs (λ j k. int_lt (frame_of j) (frame_of k)) (put_key frame_of key keys)
      (AllPairs-append Rises (before key keys) (key ∷ behind key keys) (AllPairs-filter Rises _ keys (all_pairs keys rise))
      (AllPairs-cons Rises key (behind key keys) above (AllPairs-filter Rises _ keys (all_pairs keys rise)))
      (All-weaker (λ j. Rises j key) (λ j. All (Rises j) (key ∷ behind key keys))
      (λ j e. All-cons (Rises j) key (behind key keys) e
      (All-weaker (Rises key) (Rises j) (λ k. through_frames (frame_of j) (frame_of key) (frame_of k) e) (behind key keys) above))
      (before key keys) (filter_passes (λ k. int_lt (frame_of k) (frame_of key)) keys)))

  pub rising-drop_key : (frame : ℤ) (keys : List K) → IsTrue (are_frames_rising frame_of keys)
      → IsTrue (are_frames_rising frame_of (drop_key frame_of frame keys))
  rising-drop_key frame keys rise =
      rising_pairs (λ j k. int_lt (frame_of j) (frame_of k)) (drop_key frame_of frame keys)
      (AllPairs-filter (λ j k. IsTrue (int_lt (frame_of j) (frame_of k))) _ keys (all_pairs keys rise))

  -- no more keys than there were
  pub length-drop_key : (frame : ℤ) (keys : List K) → length (drop_key frame_of frame keys) ≤ length keys
  length-drop_key frame keys =
      omega (arith, filters_within (λ k. not (int_eq (frame_of k) frame)) (λ k. false) (λ k e. refl) keys)

-- What a source in memory gives, and which of its calls fail.
use Rattle.std.proofs.Common.{◌≡◌, ℕ, ◌+◌, ◌-◌, ◌≤◌, ◌<◌, ◌||◌, nat_le, List, ◌++◌, length, take, drop, Bool, false, IsTrue, sym, ◌∙◌, ap, subst, arith}
use Rattle.std.proofs.lemmas.List.{take-append-drop, length-take-le, length-drop, drop-drop}
use Rattle.std.proofs.Math.Seq.{take-append_seam}
use Rattle.std.proofs.lemmas.Bool.Decides.{nat_tests}

-- what lies before a seam
pub prefix_of : (n : ℕ) (xs ys : List ℕ) → length xs ≡ n → take n (xs ++ ys) ≡ xs
prefix_of n xs ys e = subst (λ (k : ℕ). take k (xs ++ ys) ≡ xs) e (take-append_seam xs ys)

-- a piece that was copied over a buffer's prefix
pub prefix_copied : (bytes buf copied : List ℕ) (at n : ℕ) → at + n ≤ length bytes →
    copied ≡ take (at + n - at) (drop at bytes) → take n (copied ++ drop n buf) ≡ take n (drop at bytes)
prefix_copied bytes buf copied at n h k =
    let m : at + n - at ≡ n = omega arith in
    let is : copied ≡ take n (drop at bytes) = rw m at k in
    let fits : n ≤ length (drop at bytes) = omega (arith, length-drop at bytes) in
    let long : length copied ≡ n = ap length is ∙ length-take-le n (drop at bytes) fits in
    prefix_of n copied (drop n buf) long ∙ is

-- a piece from an index on, and what comes after it
pub piece_and_rest : (left bytes buf : List ℕ) (at n : ℕ) → drop at bytes ≡ left →
    take n buf ≡ take n (drop at bytes) → left ≡ take n buf ++ drop (at + n) bytes
piece_and_rest left bytes buf at n e k =
    sym e ∙ sym (take-append-drop n (drop at bytes)) ∙ ap (λ (xs : List ℕ). xs ++ drop n (drop at bytes)) (sym k) ∙
    ap (λ (xs : List ℕ). take n buf ++ xs) (drop-drop n at bytes)

-- a test that failed did not hold
pub not_true : (b : Bool) → b ≡ false → (P : Type 0) → IsTrue b → P
not_true b e P h = cc

-- neither of two tests holds
pub neither : (b : Bool) (room long : ℕ) → b ≡ false → long < room → (b || nat_le room long) ≡ false
neither b room long e h = rw e (grind (arith, nat_tests))

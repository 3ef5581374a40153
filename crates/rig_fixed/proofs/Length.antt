-- The length of four numbers: it is at least each of them, and 0 for four zeros alone.
use Rattle.std.proofs.Common.{◌≡◌, ◌∙◌, ap, ℕ, ◌+◌, ◌*◌, ◌≤◌, refl, sym, arith, FitsSigned, to_z, of_z}
use Rattle.std.specs.Prelude.{◌==◌, ◌&&◌, if◌then◌else◌}
use Rattle.std.proofs.Math.Bool.{Bool, true, false}
use Rattle.std.proofs.lemmas.Bool.{eqb-true}
use Rattle.std.proofs.Math.IntN.{ℤ, pos, negsuc, ◌*ℤ◌}
use Rattle.std.specs.Int.RustNames.{unsigned_abs}
use Rattle.std.proofs.lemmas.Int.{to_z-of_z}
use mir.Syntax.{Width}
use Rattle.rig_fixed.specs.Number.{isqrt, rdiv}
use Rattle.rig_fixed.specs.Rotation.{Rotation, no_rotation, square_of, length_of, is_zero, unit_rotation, over_length}
use Rattle.rig_fixed.specs.Bounds.{squares_bound, length_bound}
use Rattle.rig_fixed.proofs.Root.{isqrt-meets, below_root}
use Rattle.rig_fixed.proofs.Values.{sums_same}

abbrev pub four : ℤ → ℤ → ℤ → ℤ → Rotation
four w x y z = record { w = w; x = x; y = y; z = z }

pub four_same : (w x y z W X Y Z : ℤ) → W ≡ w → X ≡ x → Y ≡ y → Z ≡ z → four W X Y Z ≡ four w x y z
four_same w x y z W X Y Z ew ex ey ez = cc

-- a number that fits is told by its bits
pub told_by : (w : Width) (z : ℤ) (n : ℕ) → FitsSigned w z → of_z w z ≡ n → z ≡ to_z w n
told_by w z n f h = sym (to_z-of_z w z f) ∙ ap (to_z w) h

square_is : (a : ℤ) → a *ℤ a ≡ pos (unsigned_abs a * unsigned_abs a)
square_is (pos n) = refl
square_is (negsuc n) = refl

abbrev pub square_sum : Rotation → ℕ
square_sum q = unsigned_abs q.w * unsigned_abs q.w + unsigned_abs q.x * unsigned_abs q.x + unsigned_abs q.y * unsigned_abs q.y + unsigned_abs q.z * unsigned_abs q.z

pub square_of_is : (q : Rotation) → square_of q ≡ pos (square_sum q)
square_of_is q = sums_same _ _ _ _ (q.w *ℤ q.w) (q.x *ℤ q.x) (q.y *ℤ q.y) (q.z *ℤ q.z) (square_is q.w) (square_is q.x) (square_is q.y) (square_is q.z)

pub length_is : (q : Rotation) → length_of q ≡ pos (isqrt (square_sum q * 1000000000000))
length_is q = ap (λ (s : ℤ). pos (isqrt (unsigned_abs (s *ℤ pos 1000000000000)))) (square_of_is q)

pub root_above : (sum part : ℕ) → part * part ≤ sum → part * 1000000 ≤ isqrt (sum * 1000000000000)
root_above sum part h =
    let low : (part * 1000000) * (part * 1000000) ≤ sum * 1000000000000 = omega arith in
    let root = isqrt-meets (sum * 1000000000000) in
    below_root (sum * 1000000000000) (part * 1000000) (isqrt (sum * 1000000000000)) low root.1

pub root_within : (sum : ℕ) → sum ≤ squares_bound → isqrt (sum * 1000000000000) ≤ length_bound
root_within sum h =
    let root = isqrt-meets (sum * 1000000000000) in
    below_root (sum * 1000000000000) (isqrt (sum * 1000000000000)) length_bound root.0 (omega arith)

both : (a b : Bool) → (a && b) ≡ true → (a ≡ true) × (b ≡ true)
both true true h = (refl, refl)
both true false h = cc
both false true h = cc
both false false h = cc

zeros : (W X Y Z : ℕ) → ((W == 0) && (X == 0) && (Y == 0) && (Z == 0)) ≡ true → W * W + X * X + Y * Y + Z * Z ≡ 0
zeros W X Y Z h =
    let p = both ((W == 0) && (X == 0) && (Y == 0)) (Z == 0) h in
    let q = both ((W == 0) && (X == 0)) (Y == 0) p.0 in
    let r = both (W == 0) (X == 0) q.0 in
    let ew : W ≡ 0 = eqb-true W 0 r.0 in
    let ex : X ≡ 0 = eqb-true X 0 r.1 in
    let ey : Y ≡ 0 = eqb-true Y 0 q.1 in
    let ez : Z ≡ 0 = eqb-true Z 0 p.1 in
    rw (ew, ex, ey, ez) refl

all_zero : (W X Y Z : ℕ) → W ≡ 0 → X ≡ 0 → Y ≡ 0 → Z ≡ 0 → ((W == 0) && (X == 0) && (Y == 0) && (Z == 0)) ≡ true
all_zero W X Y Z ew ex ey ez = rw (ew, ex, ey, ez) refl

-- four zeros
pub unit_rotation_zero : (q : Rotation) → length_of q ≡ pos 0 → unit_rotation q ≡ no_rotation
unfolding unit_rotation
unit_rotation_zero q h =
    let s = square_sum q in
    let e : isqrt (s * 1000000000000) ≡ 0 = let k : pos (isqrt (s * 1000000000000)) ≡ pos 0 = sym (length_is q) ∙ h in cc in
    let hw = root_above s (unsigned_abs q.w) (omega arith) in
    let hx = root_above s (unsigned_abs q.x) (omega arith) in
    let hy = root_above s (unsigned_abs q.y) (omega arith) in
    let hz = root_above s (unsigned_abs q.z) (omega arith) in
    let is : is_zero q ≡ true =
    all_zero (unsigned_abs q.w) (unsigned_abs q.x) (unsigned_abs q.y) (unsigned_abs q.z) (omega arith) (omega arith) (omega arith) (omega arith) in
    ap (λ (b : Bool). if b then no_rotation else over_length (length_of q) q) is

not_zero : (q : Rotation) → (length_of q ≡ pos 0 → ⊥) → (b : Bool) → is_zero q ≡ b → b ≡ false
not_zero q h false e = refl
not_zero q h true e =
    absurd (h (length_is q ∙ ap (λ (s : ℕ). pos (isqrt (s * 1000000000000))) (zeros (unsigned_abs q.w) (unsigned_abs q.x) (unsigned_abs q.y) (unsigned_abs q.z) e)))

-- any other four
pub unit_rotation_plain : (q : Rotation) → (length_of q ≡ pos 0 → ⊥) → unit_rotation q ≡ over_length (length_of q) q
unfolding unit_rotation
unit_rotation_plain q h = ap (λ (b : Bool). if b then no_rotation else over_length (length_of q) q) (not_zero q h (is_zero q) refl)

-- a component over the length, as the code computes it
pub part_is : (w W r L l : ℤ) (width : Width) → FitsSigned width r → W ≡ w → L ≡ l → r ≡ rdiv (W *ℤ pos 1000000000000) L
    → to_z width (of_z width r) ≡ rdiv (w *ℤ pos 1000000000000) l
part_is w W r L l width f ew el e =
    to_z-of_z width r f ∙ e ∙ ap (λ (a : ℤ). rdiv (a *ℤ pos 1000000000000) L) ew ∙ ap (λ (d : ℤ). rdiv (w *ℤ pos 1000000000000) d) el

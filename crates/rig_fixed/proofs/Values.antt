-- What the code's sums and products of numbers that fit their types are.
use Rattle.std.proofs.Common.{◌≡◌, ◌∙◌, ap, ℕ, ◌+◌, ◌*◌, ◌^◌, ◌<◌, ◌≤◌, arith, FitsSigned, to_z, of_z, w64}
use Rattle.std.proofs.Math.IntN.{ℤ, ◌+ℤ◌, ◌-ℤ◌, ◌*ℤ◌}
use mir.Val.{hbits}
use Rattle.std.specs.Int.{w128}
use Rattle.std.specs.Int.RustNames.{unsigned_abs}
use Rattle.std.proofs.lemmas.Int.{to_z-of_z, fits_signed_from_abs}
use Rattle.rig_fixed.proofs.Bounds.{mul_within, add_within, sub_within}
use mir.Syntax.{Width}

pub settle : (w : Width) (X x : ℤ) → FitsSigned w x → X ≡ x → to_z w (of_z w X) ≡ x
settle w X x f e = ap (λ (z : ℤ). to_z w (of_z w z)) e ∙ to_z-of_z w x f

pub fits64 : (z : ℤ) (n : ℕ) → unsigned_abs z ≤ n → n < 9223372036854775808 → FitsSigned w64 z
fits64 z n h k = fits_signed_from_abs w64 z (omega arith)

pub fits128 : (z : ℤ) (n : ℕ) → unsigned_abs z ≤ n → n < 170141183460469231731687303715884105728 → FitsSigned w128 z
fits128 z n h k = fits_signed_from_abs w128 z (omega arith)

pub widened : (z : ℤ) → FitsSigned w64 z → to_z w128 (of_z w128 (to_z w64 (of_z w64 z))) ≡ z
widened z f = settle w128 (to_z w64 (of_z w64 z)) z (record { sfits = let h = f.sfits in omega arith }) (to_z-of_z w64 z f)

pub difference_is : (w : Width) (A B C D a b c d : ℤ) → A ≡ a → B ≡ b → C ≡ c → D ≡ d
    → FitsSigned w (a *ℤ b) → FitsSigned w (c *ℤ d) → FitsSigned w (a *ℤ b -ℤ c *ℤ d)
    → to_z w (of_z w (to_z w (of_z w (A *ℤ B)) -ℤ to_z w (of_z w (C *ℤ D)))) ≡ a *ℤ b -ℤ c *ℤ d
difference_is w A B C D a b c d ea eb ec ed f g h =
    let first : to_z w (of_z w (A *ℤ B)) ≡ a *ℤ b = settle w (A *ℤ B) (a *ℤ b) f cc in
    let second : to_z w (of_z w (C *ℤ D)) ≡ c *ℤ d = settle w (C *ℤ D) (c *ℤ d) g cc in
    settle w (to_z w (of_z w (A *ℤ B)) -ℤ to_z w (of_z w (C *ℤ D))) (a *ℤ b -ℤ c *ℤ d) h cc

pub difference_within : (a b c d : ℤ) (m n : ℕ) → unsigned_abs a ≤ m → unsigned_abs b ≤ n → unsigned_abs c ≤ m → unsigned_abs d ≤ n
    → unsigned_abs (a *ℤ b -ℤ c *ℤ d) ≤ m * n + m * n
difference_within a b c d m n ha hb hc hd = sub_within (a *ℤ b) (c *ℤ d) (m * n) (m * n) (mul_within a b m n ha hb) (mul_within c d m n hc hd)

-- a product in 128 bits of two numbers of 64 bits
pub product_is : (a b : ℤ) (m n : ℕ) → FitsSigned w64 a → FitsSigned w64 b → unsigned_abs a ≤ m → unsigned_abs b ≤ n → m * n < 170141183460469231731687303715884105728
    → to_z w128 (of_z w128 (to_z w128 (of_z w128 (to_z w64 (of_z w64 a))) *ℤ to_z w128 (of_z w128 (to_z w64 (of_z w64 b))))) ≡ a *ℤ b
product_is a b m n fa fb ha hb h =
    let ea = widened a fa in
    let eb = widened b fb in
    settle w128 (to_z w128 (of_z w128 (to_z w64 (of_z w64 a))) *ℤ to_z w128 (of_z w128 (to_z w64 (of_z w64 b)))) (a *ℤ b)
    (fits128 (a *ℤ b) (m * n) (mul_within a b m n ha hb) h) cc

-- ---- sums of up to four numbers, each from a step of its own, as the code computes them

abbrev pub sum2 : Width → ℤ → ℤ → ℤ
sum2 w a b = to_z w (of_z w a) +ℤ to_z w (of_z w b)

abbrev pub sum3 : Width → ℤ → ℤ → ℤ → ℤ
sum3 w a b c = to_z w (of_z w (sum2 w a b)) +ℤ to_z w (of_z w c)

abbrev pub sum4 : Width → ℤ → ℤ → ℤ → ℤ → ℤ
sum4 w a b c d = to_z w (of_z w (sum3 w a b c)) +ℤ to_z w (of_z w d)

pub sums_same : (a b c d A B C D : ℤ) → A ≡ a → B ≡ b → C ≡ c → D ≡ d → A +ℤ B +ℤ C +ℤ D ≡ a +ℤ b +ℤ c +ℤ d
sums_same a b c d A B C D ea eb ec ed = cc

sum_is : (w : Width) (S s d : ℤ) → S ≡ s → FitsSigned w d → S +ℤ to_z w (of_z w d) ≡ s +ℤ d
sum_is w S s d es fd = let ed = to_z-of_z w d fd in cc

fits_same : (w : Width) (S s : ℤ) → S ≡ s → FitsSigned w s → FitsSigned w S
fits_same w S s e f = rw e f

-- what four numbers of at most m in magnitude give
pub record SumOfFour (w : Width) (m : ℕ) (a b c d : ℤ) : Type 0 where
  pub fits2 : FitsSigned w (sum2 w a b)
  pub fits3 : FitsSigned w (sum3 w a b c)
  pub fits4 : FitsSigned w (sum4 w a b c d)
  pub value : to_z w (of_z w (sum4 w a b c d)) ≡ a +ℤ b +ℤ c +ℤ d
  pub within : unsigned_abs (a +ℤ b +ℤ c +ℤ d) ≤ 4 * m

pub sum_of_four : (w : Width) (m : ℕ) → 4 * m < 2 ^ hbits w → (a b c d : ℤ)
    → unsigned_abs a ≤ m → unsigned_abs b ≤ m → unsigned_abs c ≤ m → unsigned_abs d ≤ m → SumOfFour w m a b c d
sum_of_four w m room a b c d ha hb hc hd =
    let fits = λ (z : ℤ) (h : unsigned_abs z ≤ 4 * m). fits_signed_from_abs w z (omega arith) in
    let within2 : unsigned_abs (a +ℤ b) ≤ 2 * m = omega (arith, add_within a b m m ha hb) in
    let within3 : unsigned_abs (a +ℤ b +ℤ c) ≤ 3 * m = omega (arith, add_within (a +ℤ b) c (2 * m) m within2 hc) in
    let within4 : unsigned_abs (a +ℤ b +ℤ c +ℤ d) ≤ 4 * m = omega (arith, add_within (a +ℤ b +ℤ c) d (3 * m) m within3 hd) in
    let fits_a = fits a (omega arith) in
    let fits_b = fits b (omega arith) in
    let fits_ab = fits (a +ℤ b) (omega arith) in
    let fits_c = fits c (omega arith) in
    let fits_abc = fits (a +ℤ b +ℤ c) (omega arith) in
    let fits_d = fits d (omega arith) in
    let fits_all = fits (a +ℤ b +ℤ c +ℤ d) within4 in
    let is2 : sum2 w a b ≡ a +ℤ b = sum_is w (to_z w (of_z w a)) a b (to_z-of_z w a fits_a) fits_b in
    let is3 : sum3 w a b c ≡ a +ℤ b +ℤ c = sum_is w _ (a +ℤ b) c (settle w (sum2 w a b) (a +ℤ b) fits_ab is2) fits_c in
    let is4 : sum4 w a b c d ≡ a +ℤ b +ℤ c +ℤ d = sum_is w _ (a +ℤ b +ℤ c) d (settle w (sum3 w a b c) (a +ℤ b +ℤ c) fits_abc is3) fits_d in
    record {
      fits2 = fits_same w _ _ is2 fits_ab;
      fits3 = fits_same w _ _ is3 fits_abc;
      fits4 = fits_same w _ _ is4 fits_all;
      value = settle w (sum4 w a b c d) (a +ℤ b +ℤ c +ℤ d) fits_all is4;
      within = within4;
    }

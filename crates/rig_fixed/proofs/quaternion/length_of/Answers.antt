use Rattle.std.proofs.Common.{arith, ◌≡◌, ◌∙◌, ap, sym, ℕ, ◌*◌, ◌≤◌, ℤ, pos, ◌*ℤ◌, unsigned_abs, FitsSigned, to_z, of_z}
use Rattle.std.specs.Int.{w128}
use Rattle.std.proofs.lemmas.Int.{to_z_pos, ints}
use Rattle.rig_fixed.specs.Number.{isqrt}
use Rattle.rig_fixed.proofs.Length.{square_sum, square_of_is, length_is, root_above, root_within}
use Rattle.rig_fixed.proofs.Values.{fits128}
use Rattle.rig_fixed.proofs.quaternion.length_of.Goals as goal

scaled_is : (a : ℤ) (s : ℕ) → a ≡ pos s → s ≤ 64000256000384000256000064
    → to_z w128 (of_z w128 (to_z w128 (of_z w128 a) *ℤ pos 1000000000000)) ≡ pos (s * 1000000000000)
scaled_is a s e h = omega (arith, ints)

scaled_fits : (a : ℤ) → unsigned_abs a ≤ 64000256000384000256000064 → FitsSigned w128 (to_z w128 (of_z w128 a) *ℤ pos 1000000000000)
scaled_fits a h =
    let e : to_z w128 (of_z w128 a) *ℤ pos 1000000000000 ≡ a *ℤ pos 1000000000000 = omega (arith, ints) in
    rw e (fits128 (a *ℤ pos 1000000000000) 64000256000384000256000064000000000000 (omega (arith, ints)) (omega arith))

pub overflow_mul-square_of : goal.overflow_mul-square_of
overflow_mul-square_of c = scaled_fits c.square_of.result c.square_of.ensures.within

abbrev sum_in : goal.After-isqrt → ℕ
sum_in c = square_sum c.args.q

sum_is : (c : goal.After-isqrt) → c.square_of.result ≡ pos (sum_in c)
sum_is c = c.square_of.ensures.value ∙ square_of_is c.args.q

bound_of : (a : ℤ) (s : ℕ) → a ≡ pos s → unsigned_abs a ≤ 64000256000384000256000064 → s ≤ 64000256000384000256000064
bound_of a s e h = omega (arith, ints)

sum_within : (c : goal.After-isqrt) → sum_in c ≤ 64000256000384000256000064
sum_within c = bound_of c.square_of.result (sum_in c) (sum_is c) c.square_of.ensures.within

root_is : (c : goal.After-isqrt) → c.isqrt.result ≡ isqrt (sum_in c * 1000000000000)
root_is c =
    c.isqrt.ensures ∙ ap isqrt (c.unsigned_abs.ensures.value ∙ ap unsigned_abs (scaled_is c.square_of.result (sum_in c) (sum_is c) (sum_within c)))

root_low : (c : goal.After-isqrt) → c.isqrt.result ≤ 9000000000000000000
root_low c = rw (root_is c) (root_within (sum_in c) (sum_within c))

plain : (n : ℕ) → n ≤ 9000000000000000000 → to_z w128 n ≡ pos n
plain n h = to_z_pos w128 n (omega arith)

part_within : (n s p : ℕ) → n ≡ isqrt (s * 1000000000000) → n ≤ 9000000000000000000 → p * p ≤ s → p * 1000000 ≤ unsigned_abs (to_z w128 n)
part_within n s p e h k = let r = root_above s p k in rw (plain n h) (rw e r)

pub overflow_cast-result : goal.overflow_cast-result
overflow_cast-result c = fits128 (pos c.isqrt.result) 9000000000000000000 (root_low c) (omega arith)

pub returns-clause-value : goal.returns-clause-value
returns-clause-value c =
    plain c.isqrt.result (root_low c) ∙ ap pos (root_is c) ∙ sym (length_is c.args.q)

pub returns-clause-not_negative : goal.returns-clause-not_negative
returns-clause-not_negative c = rw (plain c.isqrt.result (root_low c)) (omega (arith, ints))

pub returns-clause-within : goal.returns-clause-within
returns-clause-within c = rw (plain c.isqrt.result (root_low c)) (root_low c)

pub returns-clause-w_part : goal.returns-clause-w_part
returns-clause-w_part c = part_within c.isqrt.result (sum_in c) (unsigned_abs c.args.q.w) (root_is c) (root_low c) (omega arith)

pub returns-clause-x_part : goal.returns-clause-x_part
returns-clause-x_part c = part_within c.isqrt.result (sum_in c) (unsigned_abs c.args.q.x) (root_is c) (root_low c) (omega arith)

pub returns-clause-y_part : goal.returns-clause-y_part
returns-clause-y_part c = part_within c.isqrt.result (sum_in c) (unsigned_abs c.args.q.y) (root_is c) (root_low c) (omega arith)

pub returns-clause-z_part : goal.returns-clause-z_part
returns-clause-z_part c = part_within c.isqrt.result (sum_in c) (unsigned_abs c.args.q.z) (root_is c) (root_low c) (omega arith)

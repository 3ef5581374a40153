-- What needs no work: a rotation about nothing, four numbers with no axis, and the scale of one unit.
use Rattle.std.proofs.Common.{◌≡◌, ◌∙◌, ap, ℕ, suc, ◌+◌, ◌*◌, sym, arith}
use Rattle.std.proofs.Math.IntN.{ℤ, pos, negsuc, ◌+ℤ◌, ◌-ℤ◌, ◌*ℤ◌}
use Rattle.std.specs.Int.{int_min, int_max}
use Rattle.std.proofs.lemmas.Int.{ints, int_min_is, int_max_is}
use Rattle.rig_fixed.specs.Fixed.{clamp, unit, IsWithinLimits}
use Rattle.rig_fixed.specs.Number.{rdiv, isqrt}
use Rattle.rig_fixed.specs.Rotation.{no_rotation, length_of, over_length, unit_rotation, turn, rotate}
use Rattle.rig_fixed.specs.Vector.{v3_multiple}
use Rattle.rig_fixed.specs.declared.vector.V3.{V3}
use Rattle.rig_fixed.proofs.Length.{four, four_same, length_is, unit_rotation_plain}
use Rattle.rig_fixed.proofs.Quotient.{rounded_is}
use Rattle.rig_fixed.proofs.Root.{root_unique}
use Rattle.rig_fixed.proofs.Turning.{v3_is}

pub within_stays : (z : ℤ) → IsWithinLimits z → clamp z ≡ z
within_stays z h =
    let low : int_min z (pos 1000000000000) ≡ z = let e = int_min_is z (pos 1000000000000) in omega (arith, ints) in
    ap (int_max (negsuc 999999999999)) low ∙ (let e = int_max_is (negsuc 999999999999) z in omega (arith, ints))

-- ---- no axis

root_of_square : (n : ℕ) → isqrt ((n * n + 0 * 0 + 0 * 0 + 0 * 0) * 1000000000000) ≡ n * 1000000
root_of_square n = sym (root_unique ((n * n + 0 * 0 + 0 * 0 + 0 * 0) * 1000000000000) (n * 1000000) (omega arith, omega arith))

length_of_scalar : (n : ℕ) → length_of (four (pos n) (pos 0) (pos 0) (pos 0)) ≡ pos (n * 1000000)
length_of_scalar n = length_is (four (pos n) (pos 0) (pos 0) (pos 0)) ∙ ap pos (root_of_square n)

whole_part : (n : ℕ) → rdiv (pos (suc n) *ℤ pos 1000000000000) (pos (suc n * 1000000)) ≡ pos 1000000
whole_part n = rounded_is (pos (suc n) *ℤ pos 1000000000000) (pos (suc n * 1000000)) (pos 1000000) (omega (arith, ints)) (omega (arith, ints)) (omega (arith, ints))

no_part : (n : ℕ) → rdiv (pos 0 *ℤ pos 1000000000000) (pos (suc n * 1000000)) ≡ pos 0
no_part n = rounded_is (pos 0 *ℤ pos 1000000000000) (pos (suc n * 1000000)) (pos 0) (omega (arith, ints)) (omega (arith, ints)) (omega (arith, ints))

pub unit_rotation_scalar : (n : ℕ) → unit_rotation (four (pos (suc n)) (pos 0) (pos 0) (pos 0)) ≡ no_rotation
unit_rotation_scalar n =
    let size = length_of_scalar (suc n) in
    unit_rotation_plain (four (pos (suc n)) (pos 0) (pos 0) (pos 0)) (λ k. let zero : pos (suc n * 1000000) ≡ pos 0 = sym size ∙ k in omega (arith, ints))
    ∙ ap (λ (l : ℤ). over_length l (four (pos (suc n)) (pos 0) (pos 0) (pos 0))) size
    ∙ four_same _ _ _ _ _ _ _ _ (whole_part n) (no_part n) (no_part n) (no_part n)

-- ---- a rotation about nothing

pub unturned_coordinate : (coordinate w once twice : ℤ) → IsWithinLimits coordinate → once ≡ pos 0 → twice ≡ pos 0 → clamp (coordinate +ℤ turn w once twice) ≡ coordinate
unturned_coordinate coordinate w once twice h eo et =
    let none : pos 2 *ℤ w *ℤ once +ℤ pos 2 *ℤ twice ≡ pos 0 = rw (eo, et) (omega (arith, ints)) in
    ap (λ (z : ℤ). clamp (coordinate +ℤ rdiv z (pos 1000000000000))) none ∙ within_stays (coordinate +ℤ pos 0) (omega (arith, ints), omega (arith, ints)) ∙ omega (arith, ints)

nothing : (a b : ℤ) → pos 0 *ℤ a -ℤ pos 0 *ℤ b ≡ pos 0
nothing a b = omega (arith, ints)

pub unturned_point : (w : ℤ) (v : V3) → IsWithinLimits v.x → IsWithinLimits v.y → IsWithinLimits v.z → v ≡ rotate (four w (pos 0) (pos 0) (pos 0)) v
unfolding rotate
unturned_point w v hx hy hz =
    let ox = nothing v.z v.y in
    let oy = nothing v.x v.z in
    let oz = nothing v.y v.x in
    sym (v3_is _ _ _ v.x v.y v.z
    (unturned_coordinate v.x w (pos 0 *ℤ v.z -ℤ pos 0 *ℤ v.y) _ hx ox (nothing (pos 0 *ℤ v.y -ℤ pos 0 *ℤ v.x) (pos 0 *ℤ v.x -ℤ pos 0 *ℤ v.z)))
    (unturned_coordinate v.y w (pos 0 *ℤ v.x -ℤ pos 0 *ℤ v.z) _ hy oy (nothing (pos 0 *ℤ v.z -ℤ pos 0 *ℤ v.y) (pos 0 *ℤ v.y -ℤ pos 0 *ℤ v.x)))
    (unturned_coordinate v.z w (pos 0 *ℤ v.y -ℤ pos 0 *ℤ v.x) _ hz oz (nothing (pos 0 *ℤ v.x -ℤ pos 0 *ℤ v.z) (pos 0 *ℤ v.z -ℤ pos 0 *ℤ v.y))))

-- ---- the scale of one unit

unscaled_coordinate : (c : ℤ) → IsWithinLimits c → clamp (rdiv (unit *ℤ c) unit) ≡ c
unscaled_coordinate c h =
    ap clamp (rounded_is (unit *ℤ c) unit c (omega (arith, ints)) (omega (arith, ints)) (omega (arith, ints))) ∙ within_stays c h

pub unscaled_point : (v : V3) → IsWithinLimits v.x → IsWithinLimits v.y → IsWithinLimits v.z → v ≡ v3_multiple unit v
unscaled_point v hx hy hz = sym (v3_is _ _ _ v.x v.y v.z (unscaled_coordinate v.x hx) (unscaled_coordinate v.y hy) (unscaled_coordinate v.z hz))

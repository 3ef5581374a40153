use Rattle.std.proofs.Common.{ℕ, ◌+◌, ◌*◌, ◌/◌, ◌<◌, ◌≤◌, arith}
use Rattle.std.proofs.Math.Nat.{mul-le-mul}
use Rattle.rig_fixed.proofs.Root.{below_root}
use Rattle.rig_fixed.proofs.number.+root_by_digits.Goals as goal

square_fits : (n half : ℕ) → n < 340282366920938463463374607431768211456 → half * half ≤ n / 4
    → (2 * half + 1) * (2 * half + 1) ≤ 340282366920938463426481119284349108225
square_fits n half fits low =
    let h : half ≤ 9223372036854775807 = below_root (n / 4) half 9223372036854775807 low (omega arith) in
    let k : 2 * half + 1 ≤ 18446744073709551615 = omega arith in
    mul-le-mul k k

pub overflow_mul-next-2 : goal.overflow_mul-next-2
overflow_mul-next-2 t c =
    let bound = square_fits c.args.n c.root_by_digits-half.result c.ranges.n.fits c.root_by_digits-half.ensures.0 in
    record { fits = omega arith }

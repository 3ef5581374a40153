use Rattle.std.proofs.Common.{rules, arith, ◌≡◌, ◌∙◌, ap, ℤ, ◌+ℤ◌, ◌-ℤ◌, ◌*ℤ◌, ◌≤ℤ◌, FitsSigned, to_z, of_z, w32, w64}
use Rattle.std.proofs.lemmas.Int.{ints, clamps}
use Rattle.rig_fixed.specs.Fixed.{lowest, highest}
use Rattle.rig_fixed.specs.Number.{rdiv}
use Rattle.rig_curves.proofs.Parts.{rdiv-same}
use Rattle.rig_curves.proofs.curve.value_on_line.Goals as goal

-- the part that was added is that of the definition
value : (c : goal.After-part_of) → c.part_of.result ≡ rdiv ((c.args.right.now.value -ℤ c.args.left.now.value) *ℤ (c.args.frame -ℤ c.args.left.now.frame)) (c.args.right.now.frame -ℤ c.args.left.now.frame)
value c =
    let start = c.get-start.ensures in
    let end = c.get.ensures in
    let frame_fits = c.ranges.frame in
    let left_fits : FitsSigned w32 c.args.left.now.frame = search rules in
    let right_fits : FitsSigned w32 c.args.right.now.frame = search rules in
    let rise : to_z w64 (of_z w64 (to_z w64 (of_z w64 c.get.result) -ℤ to_z w64 (of_z w64 c.get-start.result)))
    ≡ c.args.right.now.value -ℤ c.args.left.now.value = omega (arith, ints) in
    let elapsed : to_z w64 (of_z w64 (to_z w64 (of_z w64 (to_z w32 (of_z w32 c.args.frame))) -ℤ to_z w64 (of_z w64 (to_z w32 (of_z w32 c.args.left.now.frame)))))
    ≡ c.args.frame -ℤ c.args.left.now.frame = omega (arith, ints) in
    let span : to_z w64 (of_z w64 (to_z w64 (of_z w64 (to_z w32 (of_z w32 c.args.right.now.frame))) -ℤ to_z w64 (of_z w64 (to_z w32 (of_z w32 c.args.left.now.frame)))))
    ≡ c.args.right.now.frame -ℤ c.args.left.now.frame = omega (arith, ints) in
    c.part_of.ensures.value ∙ rdiv-same rise elapsed span

-- the sum is between the two values
between : (c : goal.After-part_of) → (lowest ≤ℤ (c.get-start.result +ℤ c.part_of.result)) × ((c.get-start.result +ℤ c.part_of.result) ≤ℤ highest)
between c =
    let start = c.get-start.ensures in
    let end = c.get.ensures in
    let above = c.part_of.ensures.above in
    let below = c.part_of.ensures.below in
    (omega (arith, ints, clamps), omega (arith, ints, clamps))

sum : (c : goal.After-part_of) → FitsSigned w64 (to_z w64 (of_z w64 c.get-start.result) +ℤ to_z w64 (of_z w64 c.part_of.result))
    × (to_z w64 (of_z w64 (to_z w64 (of_z w64 c.get-start.result) +ℤ to_z w64 (of_z w64 c.part_of.result))) ≡ (c.get-start.result +ℤ c.part_of.result))
sum c = let within = between c in (omega (arith, ints), omega (arith, ints))

pub overflow_add-result : goal.overflow_add-result
overflow_add-result c = (sum c).0

pub returns-clause-value : goal.returns-clause-value
returns-clause-value c =
    (sum c).1 ∙ ap (λ (z : ℤ). z +ℤ c.part_of.result) c.get-start.ensures.value ∙ ap (λ (z : ℤ). c.args.left.now.value +ℤ z) (value c)

pub returns-clause-limits : goal.returns-clause-limits
returns-clause-limits c = rw (sum c).1 (between c)

use Rattle.std.proofs.Common.{arith, ◌≡◌, ◌∙◌, pos, negsuc, ℤ, ◌*ℤ◌, ◌≤ℤ◌, FitsSigned, to_z, of_z, w64}
use Rattle.std.specs.Int.{w128, int_min, int_max}
use Rattle.std.proofs.lemmas.Int.{to_z-of_z, fits_signed_mul, ints, clamps}
use Rattle.rig_fixed.specs.Number.{rdiv}
use Rattle.rig_curves.proofs.Parts.{part-between}
use Rattle.rig_curves.proofs.curve.part_of.Goals as goal

-- what is divided fits 128 bits
value : (c : goal.After-rdiv) → c.rdiv.result ≡ rdiv (c.args.rise *ℤ c.args.elapsed) c.args.span
value c =
    let rise_fits = c.ranges.rise in
    let elapsed_fits = c.ranges.elapsed in
    let span_fits = c.ranges.span in
    let rise_fits_wide : FitsSigned w128 c.args.rise = omega (arith, ints) in
    let elapsed_fits_wide : FitsSigned w128 c.args.elapsed = omega (arith, ints) in
    let span_fits_wide : FitsSigned w128 c.args.span = omega (arith, ints) in
    let product_fits : FitsSigned w128 (c.args.rise *ℤ c.args.elapsed) =
    fits_signed_mul w128 c.args.rise c.args.elapsed 2000000000000 4294967295 (omega (arith, ints)) (omega (arith, ints)) (omega arith) in
    simp to_z-of_z at c.rdiv.ensures

-- the quotient is within the limits of a difference of two numbers, and fits 64 bits
kept : (rise part : ℤ) → negsuc 1999999999999 ≤ℤ rise → rise ≤ℤ pos 2000000000000 → (int_min (pos 0) rise ≤ℤ part) × (part ≤ℤ int_max (pos 0) rise)
    → FitsSigned w64 (to_z w128 (of_z w128 part)) × (to_z w64 (of_z w64 (to_z w128 (of_z w128 part))) ≡ part)
kept rise part lowest highest between = (omega (arith, ints, clamps), omega (arith, ints, clamps))

between : (c : goal.After-rdiv) → (int_min (pos 0) c.args.rise ≤ℤ c.rdiv.result) × (c.rdiv.result ≤ℤ int_max (pos 0) c.args.rise)
between c = rw (value c) (part-between c.args.rise c.args.elapsed c.args.span c.requires.begun c.requires.within)

same : (c : goal.After-rdiv) → to_z w64 (of_z w64 (to_z w128 (of_z w128 c.rdiv.result))) ≡ c.rdiv.result
same c = (kept c.args.rise c.rdiv.result c.requires.lowest c.requires.highest (between c)).1

pub overflow_cast-result : goal.overflow_cast-result
overflow_cast-result c = (kept c.args.rise c.rdiv.result c.requires.lowest c.requires.highest (between c)).0

pub returns-clause-value : goal.returns-clause-value
returns-clause-value c = same c ∙ value c

pub returns-clause-above : goal.returns-clause-above
returns-clause-above c = rw (same c) ((between c).0)

pub returns-clause-below : goal.returns-clause-below
returns-clause-below c = rw (same c) ((between c).1)

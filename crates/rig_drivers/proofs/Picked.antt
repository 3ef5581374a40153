-- The least and the greatest of a list of numbers, as iterators pick them.
use Rattle.std.proofs.Common.{◌≡◌, ap, ℤ, pos, Option, None, Some, option_map, unwrap_or, arith}
use Rattle.std.proofs.lemmas.Int.{ints}
use Rattle.std.specs.Int.{int_min, int_max}
use Rattle.std.specs.Ordering.{int_cmp, min_by_ordering, max_by_ordering}

pub min_by_ordering-int_cmp : (x y : ℤ) → min_by_ordering (int_cmp x y) x y ≡ int_min x y
min_by_ordering-int_cmp x y = grind (arith, ints)

pub max_by_ordering-int_cmp : (x y : ℤ) → max_by_ordering (int_cmp x y) x y ≡ int_max x y
max_by_ordering-int_cmp x y = grind (arith, ints)

-- where there is none, both are 0
pub or_zero : (picked expected : Option ℤ) → option_map (λ x. x) picked ≡ expected → unwrap_or picked (pos 0) ≡ unwrap_or expected (pos 0)
or_zero None expected is = ap (λ o. unwrap_or o (pos 0)) is
or_zero (Some x) expected is = ap (λ o. unwrap_or o (pos 0)) is

use Rattle.std.proofs.Common.{◌∙◌}
use Rattle.std.specs.Int.{int_min}
use Rattle.std.specs.List.{reduce}
use Rattle.std.specs.Ordering.{int_cmp, min_by_ordering}
use Rattle.std.proofs.lemmas.Iterator.{YieldsList-from_slice}
use Rattle.std.proofs.lemmas.Iterator.Consumers.{reduce_by_from_yields_List, YieldsList-from_copied}
use Rattle.rig_drivers.proofs.Picked.{min_by_ordering-int_cmp, or_zero}
use Rattle.rig_drivers.proofs.driver.least_of.Goals as goal

pub returns : goal.returns
returns c =
    let road = YieldsList-from_copied (YieldsList-from_slice c.args.values.now cc) in
    let least = reduce_by_from_yields_List (λ x y. min_by_ordering (int_cmp x y) x y) int_min c.copied.result c.min.result min_by_ordering-int_cmp c.min.ensures.ran road in
    c.unwrap_or.ensures ∙ or_zero c.min.result (reduce int_min c.args.values.now) least

use Rattle.std.proofs.Common.{◌∙◌}
use Rattle.std.specs.Int.{int_max}
use Rattle.std.specs.List.{reduce}
use Rattle.std.specs.Ordering.{int_cmp, max_by_ordering}
use Rattle.std.proofs.lemmas.Iterator.{YieldsList-from_slice}
use Rattle.std.proofs.lemmas.Iterator.Consumers.{reduce_by_from_yields_List, YieldsList-from_copied}
use Rattle.rig_drivers.proofs.Picked.{max_by_ordering-int_cmp, or_zero}
use Rattle.rig_drivers.proofs.driver.greatest_of.Goals as goal

pub returns : goal.returns
returns c =
    let road = YieldsList-from_copied (YieldsList-from_slice c.args.values.now cc) in
    let greatest = reduce_by_from_yields_List (λ x y. max_by_ordering (int_cmp x y) x y) int_max c.copied.result c.max.result max_by_ordering-int_cmp c.max.ensures.ran road in
    c.unwrap_or.ensures ∙ or_zero c.max.result (reduce int_max c.args.values.now) greatest

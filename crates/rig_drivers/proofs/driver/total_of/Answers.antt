use Rattle.std.proofs.Common.{arith, ◌≡◌, ◌∙◌, ap, sym, ℤ, pos, ◌+ℤ◌, to_z, of_z, w64, take}
use Rattle.std.proofs.lemmas.Int.{ints}
use Rattle.std.proofs.lemmas.List.Sums.{fold_more}
use Rattle.rig_scene.specs.Combine.{total_of}
use Rattle.rig_drivers.proofs.driver.total_of.Goals as goal

-- a step adds the item
step : (c : goal.After-get-total) → to_z w64 (of_z w64 (to_z w64 c.loop-value.total-bits +ℤ to_z w64 (of_z w64 c.get-total.result))) ≡ c.loop-value.total +ℤ c.value-item.result
step c =
    let is = c.loop-value.total-is in
    let value = c.get-total.ensures in
    let invariant = c.loop-value.invariant in
    let below = c.loop-value-test.true in
    let few = c.requires in
    omega (arith, ints)

pub loop-value-preserved : goal.loop-value-preserved
loop-value-preserved c =
    let values = c.args.values.now in
    let index = c.loop-value.value-index in
    let item = c.value-item.result in
    let invariant = c.loop-value.invariant in
    let added = step c in
    let total = c.loop-value.total-is in
    let value = c.get-total.ensures in
    record {
      so_far = added ∙ ap (λ (t : ℤ). t +ℤ item) (sym total ∙ invariant.so_far) ∙ ap (λ (n : ℤ). total_of (take index values) +ℤ n) c.value-item.is
          ∙ sym (fold_more (λ (t n : ℤ). t +ℤ n) (pos 0) values index item c.loop-value-test.true);
      above = rw added (omega (arith, ints));
      below = rw added (omega (arith, ints));
    }

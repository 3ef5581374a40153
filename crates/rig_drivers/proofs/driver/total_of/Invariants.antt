use Rattle.std.proofs.Common.{◌≡◌, pos, ◌*ℤ◌, ◌≤ℤ◌, take}
use Rattle.rig_fixed.specs.Fixed.{lowest, highest}
use Rattle.rig_scene.specs.Combine.{total_of}
use Rattle.rig_drivers.proofs.driver.total_of.Given as goal

abbrev pub invariant-loop-value : goal.invariant-loop-value
invariant-loop-value l = record {
  so_far : l.total ≡ total_of (take l.value-index l.values);
  above : (lowest *ℤ pos l.value-index) ≤ℤ l.total;
  below : l.total ≤ℤ (highest *ℤ pos l.value-index);
}

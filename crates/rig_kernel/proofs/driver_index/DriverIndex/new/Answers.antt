use Rattle.std.proofs.Common.{◌≡◌, [], length, map, ap, ◌∙◌, arith}
use Rattle.indexmap.specs.IndexSet.{insert_all}
use Rattle.rig_scene.specs.contracts.operation.OpIdPartialEq.TheImpl.{eq-value}
use Rattle.rig_scene.specs.declared.driver.Driver.{Driver as DriverRecord}
use Rattle.rig_scene.specs.declared.operation.OpId.TheVariants.{Driver}
use Rattle.rig_scene.specs.FactsHold.{scene_facts}
use Rattle.rig_kernel.proofs.Inserted.{inserted}
use Rattle.rig_kernel.proofs.DriverOps.{driver_ops_once, driver_ops_few}
use Rattle.rig_kernel.proofs.SameOperation.{same-operation}
use Rattle.rig_kernel.proofs.driver_index.DriverIndex.new.Goals as goal

module _ (c : goal.In_ok-index_set) where
  listed : c.in_ok-index_set.field-0.keys ≡ map (λ (d : DriverRecord). Driver d.id d.path) c.args.scene.now.drivers
  listed =
      c.in_ok-index_set.ensures
      ∙ ap (insert_all (eq-value).it []) c.in_ok-ops.ensures.list
      ∙ inserted (eq-value).it same-operation (map (λ (d : DriverRecord). Driver d.id d.path) c.args.scene.now.drivers)
      (driver_ops_once c.args.scene.now (scene_facts c.args.scene.now c.driver_ops.ensures.scene))

pub invariant_of-result : goal.invariant_of-result
invariant_of-result c = omega (arith, ap length (listed c), driver_ops_few c.args.scene.now (scene_facts c.args.scene.now c.driver_ops.ensures.scene))

pub returns : goal.returns
returns c = listed c

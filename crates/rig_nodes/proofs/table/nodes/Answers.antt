use Rattle.std.proofs.Common.{◌≡◌, [], length, ap, ◌∙◌, arith}
use Rattle.indexmap.specs.IndexSet.{insert_all}
use Rattle.rig_scene.specs.contracts.operation.OpIdPartialEq.TheImpl.{eq-value}
use Rattle.rig_scene.specs.Counts.{operations_count}
use Rattle.rig_scene.specs.FactsHold.{scene_facts}
use Rattle.rig_scene.specs.OneOfEach.{operations_once}
use Rattle.rig_scene.specs.Operations.{operations}
use Rattle.rig_nodes.proofs.Inserted.{inserted}
use Rattle.rig_nodes.proofs.Same.{same-operation}
use Rattle.rig_nodes.proofs.table.nodes.Goals as goal

module _ (c : goal.In_ok-index_set) where
  listed : c.in_ok-index_set.field-0.keys ≡ operations c.args.scene.now
  listed =
      c.in_ok-index_set.ensures
      ∙ ap (insert_all (eq-value).it []) c.in_ok-list.ensures.list
      ∙ inserted (eq-value).it same-operation (operations c.args.scene.now) (operations_once c.args.scene.now (scene_facts c.args.scene.now c.operation_list.ensures.scene))

pub invariant_of-result : goal.invariant_of-result
invariant_of-result c = omega (arith, ap length (listed c), operations_count c.args.scene.now (scene_facts c.args.scene.now c.operation_list.ensures.scene))

pub returns : goal.returns
returns c = listed c

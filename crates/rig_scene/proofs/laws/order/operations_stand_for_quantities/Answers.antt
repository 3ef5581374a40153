use Rattle.rig_scene.specs.Order.{quantity_of-operation_of, quantity_of-is, operation_of-injective, quantities_in_order}
use Rattle.rig_scene.proofs.laws.order.operations_stand_for_quantities.Goals as goal

pub returns : goal.returns
returns c = record {
  back = quantity_of-operation_of;
  exactly = quantity_of-is;
  one_each = operation_of-injective;
  in_order = quantities_in_order;
}

use Rattle.rig_touch.specs.KeepsShape.{keeps_shape}
use Rattle.rig_touch.specs.ShapeLinks.{cuts-shape, operations-shape, ins-shape}
use Rattle.rig_touch.proofs.laws.an_edit_may_keep_the_shape.Goals as goal

pub returns-clause-shape : goal.returns-clause-shape
returns-clause-shape c = keeps_shape

pub returns-clause-operations : goal.returns-clause-operations
returns-clause-operations c = operations-shape

pub returns-clause-in_links : goal.returns-clause-in_links
returns-clause-in_links c = ins-shape

pub returns-clause-cuts : goal.returns-clause-cuts
returns-clause-cuts c = cuts-shape

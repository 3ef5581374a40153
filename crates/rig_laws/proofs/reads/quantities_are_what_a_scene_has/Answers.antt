-- By the two lemmas.
use Rattle.rig_laws.specs.HasQuantity.{quantity_exactly}
use Rattle.rig_laws.proofs.reads.quantities_are_what_a_scene_has.Goals as goal

pub returns : goal.returns
returns c = quantity_exactly

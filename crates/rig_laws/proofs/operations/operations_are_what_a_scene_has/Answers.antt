-- By the two lemmas.
use Rattle.rig_laws.specs.HasOperation.{operation_exactly}
use Rattle.rig_laws.proofs.operations.operations_are_what_a_scene_has.Goals as goal

pub returns : goal.returns
returns c = operation_exactly

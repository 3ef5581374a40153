use Rattle.std.proofs.Common.{arith}
use Rattle.rig_quantities.proofs.SlotFacts.{row_count}
use Rattle.rig_quantities.proofs.quantity.add_pencil.Goals as goal

pub add_chans-requires-clause-slot : goal.add_chans-requires-clause-slot
add_chans-requires-clause-slot c =
    let long = row_count c.args.scene.now c.args.rows.now c.requires.rows in
    let pencil = c.requires.pencil in
    omega arith

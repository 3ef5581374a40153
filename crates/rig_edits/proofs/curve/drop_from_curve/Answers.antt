use Rattle.std.proofs.Common.{arith}
use Rattle.std.specs.Int.{from_bool}
use Rattle.rig_edits.proofs.KeyCounts.{keys_put}
use Rattle.rig_edits.proofs.curve.drop_from_curve.Goals as goal

pub returns-clause-count : goal.returns-clause-count
returns-clause-count c =
    omega (
      arith,
      keys_put c.args.actions.now c.args.place.action c.args.place.curve c.get_mut.result.now c.get_mut-curve.result.now c.drop_key.new.keys
          (from_bool c.drop_key.result) 0 c.get_mut.ensures.value c.get_mut-curve.ensures.value (omega (arith, c.drop_key.ensures.count)),
    )

use Rattle.std.proofs.Common.{arith}
use Rattle.std.specs.Int.{from_bool}
use Rattle.rig_edits.proofs.KeyCounts.{layer_keys_put}
use Rattle.rig_edits.proofs.layer.drop_from_layer.Goals as goal

pub returns-clause-count : goal.returns-clause-count
returns-clause-count c =
    omega (
      arith,
      layer_keys_put c.args.pencils.now c.args.place.pencil c.args.place.layer c.get_mut.result.now c.get_mut-layer.result.now c.drop_key.new.keys
          (from_bool c.drop_key.result) 0 c.get_mut.ensures.value c.get_mut-layer.ensures.value (omega (arith, c.drop_key.ensures.count)),
    )

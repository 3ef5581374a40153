use Rattle.std.proofs.Common.{arith}
use Rattle.rig_edits.proofs.LayersKept.{delete_layer_key_kept}
use Rattle.rig_edits.proofs.layer.delete_layer_key.Goals as goal

pub invariant_of-scene : goal.invariant_of-scene
invariant_of-scene c =
    let at = c.in_ok-place in
    record {
      is_scene = delete_layer_key_kept _ c.args.scene.now c.scene.view_is c.scene.invariant.is_scene c.args.pencil.now c.args.layer.now at.place at.ensures.1.0
          c.drop_from_layer-less.new.pencils _ at.ensures.0 at.frame at.ensures.1.1 c.drop_from_layer-less.ensures.pencils;
      counts_keys = c.scene.invariant.counts_keys;
      counts_layer_keys = omega (arith, c.scene.invariant.counts_layer_keys, c.drop_from_layer-less.ensures.count);
    }

use Rattle.std.proofs.Common.{arith}
use Rattle.rig_edits.proofs.CurvesKept.{delete_key_kept}
use Rattle.rig_edits.proofs.curve.delete_key.Goals as goal

pub invariant_of-scene : goal.invariant_of-scene
invariant_of-scene c =
    let at = c.in_ok-place in
    record {
      is_scene = delete_key_kept _ c.args.scene.now c.scene.view_is c.scene.invariant.is_scene c.args.action.now c.args.path.now at.place at.ensures.1.0
          c.drop_from_curve-less.new.actions _ at.ensures.0 at.frame at.ensures.1.1 c.drop_from_curve-less.ensures.actions;
      counts_keys = omega (arith, c.scene.invariant.counts_keys, c.drop_from_curve-less.ensures.count);
      counts_layer_keys = c.scene.invariant.counts_layer_keys;
    }

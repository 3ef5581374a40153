use Rattle.std.proofs.Common.{arith}
use Rattle.rig_scene.specs.FactsHold.{scene_facts}
use Rattle.rig_edits.proofs.KeyCounts.{one_more}
use Rattle.rig_edits.proofs.CurvesKept.{set_key_kept}
use Rattle.rig_edits.proofs.curve.set_key.Goals as goal

pub overflow_add-scene : goal.overflow_add-scene
overflow_add-scene c =
    omega (arith, one_more c.in_ok-more.more, c.scene.invariant.counts_keys, (scene_facts _ c.scene.invariant.is_scene).actions.keys)

pub invariant_of-scene-2 : goal.invariant_of-scene-2
invariant_of-scene-2 c =
    let at = c.in_ok-place in
    record {
      is_scene = set_key_kept _ c.args.scene.now c.scene.view_is c.scene.invariant.is_scene c.args.action.now c.args.path.now at.place at.ensures.1.0
          c.put_into_curve.new.actions _ _ c.args.interp at.ensures.0 at.key at.ensures.1.1 c.in_ok-more.ensures.ok;
      counts_keys = omega (arith, c.scene.invariant.counts_keys, c.in_ok-more.ensures.count);
      counts_layer_keys = c.scene.invariant.counts_layer_keys;
    }

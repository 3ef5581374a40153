use Rattle.std.proofs.Common.{◌∙◌, ap, sym, get_or}
use Rattle.rig_scene.specs.declared.action.Curve.{Curve}
use Rattle.rig_scene.specs.Path.{same_path}
use Rattle.rig_kernel.specs.ChannelCurves.{found_or}
use Rattle.rig_kernel.proofs.FirstCurves.{position-take_more}
use Rattle.rig_kernel.proofs.action_curves.action_curves.Goals as goal

pub loop-index-preserved : goal.loop-index-preserved
loop-index-preserved c path =
    c.in_ok-add.ensures path
    ∙ ap (λ o. found_or o (same_path (get_or c.args.curves.now c.loop-index.index c.index-curves-index.result).path path) c.loop-index.index) (c.loop-index.invariant path)
    ∙ sym (position-take_more (λ p. same_path p path) (λ (x : Curve). x.path) c.args.curves.now c.loop-index.index c.index-curves-index.result c.loop-index-test.true)

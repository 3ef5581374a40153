use Rattle.std.proofs.Common.{◌∙◌, ap, sym, get_or}
use Rattle.rig_scene.specs.declared.armature.RestBone.{RestBone}
use Rattle.rig_scene.specs.Text.{same_text}
use Rattle.rig_kernel.specs.ChannelCurves.{found_or}
use Rattle.rig_kernel.proofs.FirstCurves.{position-take_next}
use Rattle.rig_kernel.proofs.bone_names.bone_names.Goals as goal

pub loop-index-preserved : goal.loop-index-preserved
loop-index-preserved c name =
    c.in_ok-add.ensures name
    ∙ ap (λ o. found_or o (same_text (get_or c.args.bones.now c.loop-index.index c.index-bones-index.result).name name) c.loop-index.index) (c.loop-index.invariant name)
    ∙ sym (position-take_next (λ (b : RestBone). same_text b.name name) c.args.bones.now c.loop-index.index c.index-bones-index.result c.loop-index-test.true)

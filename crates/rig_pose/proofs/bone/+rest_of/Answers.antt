use Rattle.std.proofs.Common.{◌∙◌, ap, arith}
use Rattle.rig_fixed.specs.Transform.{Transform, compose}
use Rattle.rig_pose.specs.Chains.{earlier, root_rest, child_rest}
use Rattle.rig_pose.proofs.bone.+rest_of.Goals as goal

pub rest_of-requires : goal.rest_of-requires
rest_of-requires t c =
    let bones = c.args.bones.now in
    let bone = c.get-bone.result.now in
    let is = c.get-bone.ensures in
    let before = earlier bones c.args.index bone c.in-Some.parent c.requires.parents is c.in-Some.is in
    (omega arith, (omega arith, c.requires.parents))

pub returns-in-Some : goal.returns-in-Some
returns-in-Some t c = λ depth enough.
    let bones = c.args.bones.now in
    let bone = c.get-bone.result.now in
    let is = c.get-bone.ensures in
    let before = earlier bones c.args.index bone c.in-Some.parent c.requires.parents is c.in-Some.is in
    c.compose.ensures
    ∙ ap (λ (x : Transform). compose c.rest_of.result x) c.local_of-local.ensures
    ∙ child_rest bones c.args.index c.in-Some.parent bone c.rest_of.result is c.in-Some.is before c.rest_of.ensures depth enough

pub returns-in-None : goal.returns-in-None
returns-in-None t c = λ depth enough.
    let bones = c.args.bones.now in
    let bone = c.get-bone.result.now in
    let is = c.get-bone.ensures in
    c.local_of-local.ensures ∙ root_rest bones c.args.index bone is c.in-None.is depth enough

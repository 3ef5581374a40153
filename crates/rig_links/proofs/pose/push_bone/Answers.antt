use Rattle.std.proofs.Common.{length, refl}
use Rattle.std.proofs.lemmas.Option.{slice_get_read}
use Rattle.rig_links.proofs.PoseNumbers.{parent_fits, bone_numbered}
use Rattle.rig_links.proofs.Pushed.{three_pushed}
use Rattle.rig_links.proofs.pose.push_bone.Goals as goal

pub push_parent_bone-requires : goal.push_parent_bone-requires
push_parent_bone-requires c =
    let bones = c.args.bones.now in
    parent_fits c.args.scene.now c.requires.scene c.args.object c.args.start bones c.requires.numbers c.requires.bones c.args.b c.index-bones-b.result
    (slice_get_read bones (length bones) c.args.b c.index-bones-b.result refl c.requires.bone c.index-bones-b.is)

pub returns : goal.returns
returns c =
    let bones = c.args.bones.now in
    three_pushed c.push_parent_bone.result _ _ _ _ _ _ _ _ c.in_ok-push_between.ensures c.in_ok-push_bone_channels.ensures
    (bone_numbered c.args.scene.now c.requires.scene c.args.object c.args.start bones c.requires.numbers c.requires.bones c.args.b c.index-bones-b.result
    (slice_get_read bones (length bones) c.args.b c.index-bones-b.result refl c.requires.bone c.index-bones-b.is))
    c.push_parent_bone.ensures

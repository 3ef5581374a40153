use Rattle.std.proofs.Common.{length}
use Rattle.rig_links.proofs.PoseNumbers.{pose_numbers}
use Rattle.rig_links.proofs.pose.pose_start.Goals as goal

pub returns : goal.returns
returns c = pose_numbers c.args.scene.now c.requires.scene c.args.object c.args.bones.now (length c.args.bones.now) c.number.result c.requires.bones c.requires.pose c.number.ensures

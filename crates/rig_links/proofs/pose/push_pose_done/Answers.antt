use Rattle.std.proofs.Common.{◌≡◌, ◌+◌, ◌++◌, ap, map, ◌∙◌, arith}
use Rattle.std.specs.List.{range_with_len}
use Rattle.rig_links.specs.Numbers.{between}
use Rattle.rig_links.proofs.Pushed.{one_more_link}
use Rattle.rig_links.proofs.pose.push_pose_done.Goals as goal

pub loop-bone-preserved : goal.loop-bone-preserved
loop-bone-preserved c =
    one_more_link (λ b. between (c.args.start + 1 + c.args.bones) (c.args.start + 1 + b)) 0 c.loop-bone.bone c.loop-bone.bone _ _ _ (omega arith) c.loop-bone.invariant c.in_ok-push_between.ensures

pub returns : goal.returns
returns c =
    let all : c.loop-bone.bone ≡ c.args.bones = omega arith in
    c.loop-bone.invariant
    ∙ ap (λ n. c.args.links.now.items ++ map (λ b. between (c.args.start + 1 + c.args.bones) (c.args.start + 1 + b)) (range_with_len 0 n)) all

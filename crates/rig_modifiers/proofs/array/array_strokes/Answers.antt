use Rattle.std.proofs.Common.{◌<◌, ◌++◌, ◌∙◌, ap, arith}
use Rattle.rig_fixed.specs.Vector.{v3_sum}
use Rattle.rig_scene.specs.Layer.{map_points}
use Rattle.rig_scene.specs.Modify.{times, array_strokes}
use Rattle.rig_modifiers.proofs.Copying.{one_more_copy, copy_by}
use Rattle.rig_modifiers.proofs.array.array_strokes.Goals as goal

pub loop-k-preserved : goal.loop-k-preserved
loop-k-preserved c =
    let ss = c.args.strokes.now in
    let offset = c.args.offset.now in
    let k = c.loop-k.k in
    let added = c.in_ok-append.ensures.ok ∙ ap (λ ss. c.loop-k.new.items ++ map_points (λ p. v3_sum p c.times.result) ss) c.new-source.ensures in
    let within : k < c.args.count = omega arith in
    one_more_copy (λ k. map_points (λ p. v3_sum p (times k offset)) ss) k c.args.count c.loop-k.new.items c.append.new.new.items (array_strokes c.args.count offset ss) within
    (copy_by c.loop-k.new.items c.append.new.new.items ss (times k offset) c.times.result c.times.ensures added)
    c.loop-k.invariant

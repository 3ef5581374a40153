use Rattle.std.specs.Option.{option_to_list}
use Rattle.std.specs.Vec.Iter.{into_iter_items}
use Rattle.std.proofs.Common.{◌≡◌, ◌<◌, length, drop, Some, ◌+◌, ◌++◌, sym, ap, ◌∙◌, arith}
use Rattle.std.proofs.lemmas.List.{length-set}
use Rattle.rig_copies.specs.Copies.{put_each}
use Rattle.rig_copies.specs.Put.{put_next}
use Rattle.rig_copies.proofs.copies.Copies.put_all.Goals as goal

pub loop-node-preserved : goal.loop-node-preserved
loop-node-preserved c =
    let rest = into_iter_items c.next.new.self in
    let within : c.loop-node.node < length c.args.plan.now = omega (arith, c.loop-node-test.true, c.len-node-end.ensures) in
    let one : length (option_to_list c.next.result) ≡ 1 = ap (λ o. length (option_to_list o)) c.unwrap-out.ensures in
    record {
      kept = ap (λ kept. put_each kept (drop (c.loop-node.node + 1) c.args.plan.now) rest) c.put.ensures.kept
          ∙ put_next c.loop-node.self.kept c.args.plan.now c.loop-node.node c.op.result c.unwrap-out.result rest within c.op.ensures
          ∙ ap (λ outs. put_each c.loop-node.self.kept (drop c.loop-node.node c.args.plan.now) outs) (sym (c.next.ensures.items ∙ ap (λ o. option_to_list o ++ rest) c.unwrap-out.ensures))
          ∙ c.loop-node.invariant.kept;
      left = omega (arith, c.next.ensures.len, one, c.loop-node.invariant.left);
      length = ap length c.put.ensures.kept ∙ length-set c.loop-node.self.kept c.op.result (Some c.unwrap-out.result) ∙ c.loop-node.invariant.length;
      spare = omega (arith, c.put.ensures.spare, c.loop-node.invariant.spare);
    }

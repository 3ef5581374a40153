use Rattle.std.proofs.Common.{◌+◌, ◌++◌, drop, ap, ◌∙◌}
use Rattle.std.specs.Prelude.{nat_eq}
use Rattle.std.specs.List.{list_any}
use Rattle.rig_cut.specs.MemberTests.{member_decides}
use Rattle.rig_graph.specs.AddedOnce.{added_once}
use Rattle.rig_graph.proofs.scene_copy.add_each.Goals as goal

pub loop-n-preserved : goal.loop-n-preserved
loop-n-preserved c = record {
  count = c.add.ensures.count ∙ c.loop-n.invariant.count;
  members = ap (λ l. l ++ drop (c.loop-n.n-index + 1) c.args.numbers.now) c.add.ensures.members
      ∙ added_once (λ xs n. list_any (nat_eq n) xs) (λ xs n t. (member_decides xs n).0 t) c.loop-n.set.members c.args.numbers.now
      (c.args.set.now.members ++ c.args.numbers.now) c.loop-n.n-index 0 c.loop-n-test.true c.requires.once c.loop-n.invariant.members;
}

use Rattle.std.proofs.Common.{sym, subst}
use Rattle.std.specs.List.{Contains}
use Rattle.std.proofs.lemmas.List.Elements.{All-get_or}
use Rattle.rig_flush.proofs.shown.numbers_of.Goals as goal

pub number_of-requires : goal.number_of-requires
number_of-requires c =
    subst (Contains c.args.nodes.now) (sym c.op-item.is)
    (All-get_or (Contains c.args.nodes.now) c.args.ops.now c.loop-op.op-index c.op-item.result c.loop-op-test.true c.requires)

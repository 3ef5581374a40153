use Rattle.std.proofs.Common.{rules}
use Rattle.rig_scene.proofs.Splits.{split_from}
use Rattle.rig_scene.proofs.keys.index_from.Goals as goal

pub returns-clause-before : goal.returns-clause-before
returns-clause-before g c =
    (split_from g.K.Keyframe.frame c.args.frame c.args.keys.now c.partition_point.result c.partition_point.ensures.bound
    c.partition_point.ensures.partitioned c.requires (λ a r q k. search rules)).0

pub returns-clause-next : goal.returns-clause-next
returns-clause-next g c =
    (split_from g.K.Keyframe.frame c.args.frame c.args.keys.now c.partition_point.result c.partition_point.ensures.bound
    c.partition_point.ensures.partitioned c.requires (λ a r q k. search rules)).1

pub returns-clause-rest : goal.returns-clause-rest
returns-clause-rest g c =
    (split_from g.K.Keyframe.frame c.args.frame c.args.keys.now c.partition_point.result c.partition_point.ensures.bound
    c.partition_point.ensures.partitioned c.requires (λ a r q k. search rules)).2

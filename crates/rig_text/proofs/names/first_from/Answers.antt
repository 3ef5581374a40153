use Rattle.std.proofs.Common.{rules}
use Rattle.rig_text.proofs.Ids.{first_no_lower}
use Rattle.rig_text.proofs.names.first_from.Goals as goal

pub returns : goal.returns
returns c =
    first_no_lower c.args.id c.args.objects.now c.partition_point.result c.partition_point.ensures.bound c.partition_point.ensures.partitioned
    c.requires (λ a r q k. search rules)

use Rattle.std.proofs.Common.{nat_lt, rules, sym}
use Rattle.std.proofs.lemmas.List.Sorted.{IsPartitionPoint-from_clause, IsPartitionedBy-ltb}
use Rattle.rig_scene.specs.declared.object.Object.{Object}
use Rattle.rig_nodes.proofs.Ids.{ids_sorted, lower_searched}
use Rattle.rig_nodes.proofs.drivers.first_not_below.Goals as goal

pub returns : goal.returns
returns c =
    sym (lower_searched c.args.id.0 c.args.objects.now c.partition_point.result c.partition_point.ensures.bound
    (IsPartitionPoint-from_clause (λ (o : Object). nat_lt o.id.0 c.args.id.0) c.args.objects.now c.partition_point.result c.partition_point.ensures.partitioned
    (IsPartitionedBy-ltb (λ (o : Object). o.id.0) c.args.objects.now c.args.id.0 (ids_sorted c.args.objects.now c.requires)) (λ a r q k. search rules)))

use Rattle.std.proofs.Common.{nat_lt, rules}
use Rattle.std.proofs.lemmas.List.Sorted.{IsPartitionPoint-from_clause, IsPartitionedBy-ltb}
use Rattle.rig_scene.specs.declared.object.Object.{Object}
use Rattle.rig_kernel.proofs.Ids.{ids_sorted, stands_at}
use Rattle.rig_kernel.proofs.records.index_of.Goals as goal

pub returns : goal.returns
returns c =
    stands_at c.args.objects.now c.requires.rise c.args.id c.requires.there c.partition_point.result c.partition_point.ensures.bound
    (IsPartitionPoint-from_clause (λ (o : Object). nat_lt o.id.0 c.args.id.0) c.args.objects.now c.partition_point.result c.partition_point.ensures.partitioned
    (IsPartitionedBy-ltb (λ (o : Object). o.id.0) c.args.objects.now c.args.id.0 (ids_sorted c.args.objects.now c.requires.rise)) (λ a r q k. search rules))

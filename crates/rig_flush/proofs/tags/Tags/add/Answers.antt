use Rattle.std.proofs.Common.{ap, ◌∙◌}
use Rattle.indexmap.specs.IndexSet.{insert_key}
use Rattle.rig_links.specs.Numbers.{same_operation}
use Rattle.rig_flush.proofs.SameByEq.{by_eq}
use Rattle.rig_flush.proofs.tags.Tags.add.Goals as goal

pub returns-clause-ok : goal.returns-clause-ok
returns-clause-ok c =
    c.in_ok-insert.ensures.keys
    ∙ ap (λ same. insert_key same c.self.inside.ops.keys c.args.op) by_eq
    ∙ ap (λ ops. insert_key same_operation ops c.args.op) c.self.view_is

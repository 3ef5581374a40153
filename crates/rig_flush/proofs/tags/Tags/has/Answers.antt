use Rattle.std.proofs.Common.{ap, ◌∙◌}
use Rattle.std.specs.List.{list_any}
use Rattle.rig_flush.specs.Retag.{is_one_of}
use Rattle.rig_flush.proofs.SameByEq.{by_eq}
use Rattle.rig_flush.proofs.tags.Tags.has.Goals as goal

pub returns : goal.returns
returns c =
    c.contains.ensures
    ∙ ap (λ same. list_any (same c.args.op.now) c.self.inside.ops.keys) by_eq
    ∙ ap (λ ops. is_one_of ops c.args.op.now) c.self.view_is

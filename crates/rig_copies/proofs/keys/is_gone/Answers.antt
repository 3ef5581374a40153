use Rattle.std.proofs.Common.{not, ap, ◌∙◌}
use Rattle.rig_copies.proofs.Renumbered.{gone_at}
use Rattle.rig_copies.proofs.keys.is_gone.Goals as goal

pub returns-else-n-len : goal.returns-else-n-len
returns-else-n-len c =
    λ gone. gone_at c.args.old.now c.args.new.now c.args.n c.op.result.now c.op.ensures c.number.result c.number.ensures.none (c.is_none.ensures ∙ ap not gone)

use Rattle.std.proofs.Common.{◌∙◌}
use Rattle.rig_kernel.proofs.DrivenInputs.{among_so_many}
use Rattle.rig_kernel.proofs.driven.driven_among.Goals as goal

pub returns : goal.returns
returns g c = c.driven_until.ensures ∙ among_so_many _ c.args.from c.args.most c.args.place

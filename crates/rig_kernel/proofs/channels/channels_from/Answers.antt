use Rattle.std.proofs.Common.{ap, drop, ◌∙◌}
use Rattle.std.specs.Prelude.{not}
use Rattle.std.specs.Option.{option_copied}
use Rattle.rig_kernel.proofs.OriginalNumbers.{none_of, original_from}
use Rattle.rig_kernel.proofs.channels.channels_from.Goals as goal

pub returns-then-is_none : goal.returns-then-is_none
returns-then-is_none g c =
    original_from (option_copied c.args.curves) (ap option_copied (none_of c.args.curves (c.is_none.ensures ∙ ap not c.if-is_none.true)))
    c.args.numbers.now c.args.drivers c.if-drivers-eq0.true (drop c.args.from (g.I.Inputs.list c.args.inputs.now)) c.args.base.now

use Rattle.std.proofs.Common.{◌≡◌, ◌∙◌, ap, sym}
use Rattle.std.specs.Prelude.{Err}
use Rattle.rig_play.specs.declared.command.CommandStop.TheVariants.{Refused}
use Rattle.rig_play.specs.Command.{command_line_of}
use Rattle.rig_play.proofs.Lines.{line_read, no_line, ok_line, refused_line}
use Rattle.rig_play.proofs.command.command_line.Goals as goal

pub returns-in-Ok-clause-ok : goal.returns-in-Ok-clause-ok
returns-in-Ok-clause-ok c =
    let said : command_line_of c.args.words.now ≡ c.line_in.result = line_read _ _ c.in-Ok.ensures.ok _ c.line_in.ensures.line in
    rw c.ok_or.ensures.value (ok_line _ _ said)

pub returns-in-Ok-clause-refused : goal.returns-in-Ok-clause-refused
returns-in-Ok-clause-refused c refused =
    let said : command_line_of c.args.words.now ≡ c.line_in.result = line_read _ _ c.in-Ok.ensures.ok _ c.line_in.ensures.line in
    refused_line _ _ said (sym c.ok_or.ensures.value ∙ refused)

pub returns-in-Err-clause-refused : goal.returns-in-Err-clause-refused
returns-in-Err-clause-refused c refused =
    let stop : c.in-Err.stop ≡ Refused = cc in
    no_line _ (c.in-Err.ensures.refused (ap Err stop))

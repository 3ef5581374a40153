use Rattle.std.proofs.Common.{◌≡◌, ◌∙◌, ap, subst}
use Rattle.std.specs.Prelude.{IfOk}
use Rattle.rig_links.specs.Report.{reads_of_rows}
use Rattle.rig_links.proofs.report.cycle_report.Goals as goal

pub returns : goal.returns
returns c =
    subst (λ wanted. IfOk c.cut_reads.result (λ list. list ≡ wanted))
    (ap (λ ops. reads_of_rows ops c.in_ok-links.links.ins) c.in_ok-nodes.ensures ∙ c.in_ok-links.ensures.cuts)
    c.cut_reads.ensures.reads

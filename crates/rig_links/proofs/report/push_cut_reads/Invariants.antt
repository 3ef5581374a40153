use Rattle.std.proofs.Common.{◌≡◌, ◌++◌, drop}
use Rattle.rig_links.specs.Report.{reads_of_row}
use Rattle.rig_links.proofs.report.push_cut_reads.Given as goal

abbrev pub invariant-loop-link : goal.invariant-loop-link
invariant-loop-link l = l.cuts ++ reads_of_row l.nodes l.reader (drop l.link-index l.ins) ≡ l.initial.cuts ++ reads_of_row l.nodes l.reader l.ins

use Rattle.std.proofs.Common.{◌∙◌, ap, arith}
use Rattle.rig_links.specs.Report.{reads_of_rows}
use Rattle.rig_links.proofs.CutReads.{one_row_more, all_rows, reads_are_cuts}
use Rattle.rig_links.proofs.table.LinkTable.cut_reads.Goals as goal

pub loop-n-preserved : goal.loop-n-preserved
loop-n-preserved c =
    one_row_more c.args.nodes.now c.args.self.now.ins c.loop-n.n c.op.result.now c.ins.result.now c.loop-n.cuts c.push_cut_reads.new.cuts (reads_of_rows c.args.nodes.now c.args.self.now.ins)
    (omega arith) c.ins.ensures.row c.op.ensures c.loop-n.invariant c.in_ok-push_cut_reads.ensures

pub returns-clause-reads : goal.returns-clause-reads
returns-clause-reads c =
    all_rows c.args.nodes.now c.args.self.now.ins c.loop-n.n c.loop-n.cuts (reads_of_rows c.args.nodes.now c.args.self.now.ins) (omega arith) c.loop-n.invariant

pub returns-clause-cuts : goal.returns-clause-cuts
returns-clause-cuts c = λ s met is are.
    all_rows c.args.nodes.now c.args.self.now.ins c.loop-n.n c.loop-n.cuts (reads_of_rows c.args.nodes.now c.args.self.now.ins) (omega arith) c.loop-n.invariant
    ∙ ap (λ ops. reads_of_rows ops c.args.self.now.ins) is
    ∙ reads_are_cuts s met c.args.self.now.ins are

use Rattle.std.proofs.Common.{◌+◌, ◌&&◌, false, sym, ap, ◌∙◌, arith}
use Rattle.rig_links.specs.declared.table.In.{In}
use Rattle.rig_flush.proofs.SameRows.{rows_apart, row_step, rows_done, same_from}
use Rattle.rig_flush.proofs.edited.are_same.Goals as goal

abbrev no_link : In
no_link = record { source = 0; cut = false }

pub returns-then-old-new : goal.returns-then-old-new
returns-then-old-new c =
    sym (rows_apart c.args.old_nodes.now c.args.new_nodes.now c.args.old.now c.args.new.now c.requires.old c.requires.new c.if-old-new.true)

pub returns-then-not-is_same : goal.returns-then-not-is_same
returns-then-not-is_same c =
    sym (c.loop-index.invariant
    ∙ row_step c.args.old_nodes.now c.args.new_nodes.now c.args.old.now c.args.new.now c.requires.old c.requires.new c.loop-index.index no_link c.is_same.result (omega arith) (omega arith) c.is_same.ensures
    ∙ ap (λ r. r && same_from c.args.old_nodes.now c.args.new_nodes.now c.args.old.now c.args.new.now c.requires.old c.requires.new (c.loop-index.index + 1)) c.if-not-is_same.true)

pub loop-index-preserved : goal.loop-index-preserved
loop-index-preserved c =
    c.loop-index.invariant
    ∙ row_step c.args.old_nodes.now c.args.new_nodes.now c.args.old.now c.args.new.now c.requires.old c.requires.new c.loop-index.index no_link c.is_same.result (omega arith) (omega arith) c.is_same.ensures
    ∙ ap (λ r. r && same_from c.args.old_nodes.now c.args.new_nodes.now c.args.old.now c.args.new.now c.requires.old c.requires.new (c.loop-index.index + 1)) c.if-not-is_same.false

pub returns : goal.returns
returns c =
    sym (c.loop-index.invariant
    ∙ rows_done c.args.old_nodes.now c.args.new_nodes.now c.args.old.now c.args.new.now c.requires.old c.requires.new c.loop-index.index (omega arith) (omega arith))

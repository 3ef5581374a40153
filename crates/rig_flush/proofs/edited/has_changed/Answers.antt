use Rattle.std.proofs.Common.{not, ap, ◌∙◌}
use Rattle.rig_flush.proofs.SameRows.{had_before, new_since}
use Rattle.rig_flush.proofs.edited.has_changed.Goals as goal

pub returns-in-Some : goal.returns-in-Some
returns-in-Some c before after tables new_tables =
    ap not c.are_same.ensures
    ∙ had_before before after c.args.old_nodes.now c.args.new_nodes.now c.args.old_links.now c.args.new_links.now tables new_tables c.args.op.now
    c.in-Some.old c.args.n c.ins-old_row.result.now c.ins-new_row.result.now c.in-Some.ensures.some c.requires.number c.ins-old_row.ensures.row c.ins-new_row.ensures.row

pub returns-in-None : goal.returns-in-None
returns-in-None c before after tables new_tables =
    new_since before after c.args.old_nodes.now c.args.new_nodes.now c.args.old_links.now c.args.new_links.now tables new_tables c.args.op.now c.in-None.ensures.none

use Rattle.std.proofs.Common.{◌≡◌, drop}
use Rattle.rig_flush.specs.Retag.{same_links}
use Rattle.rig_flush.proofs.SameRows.{named}
use Rattle.rig_flush.proofs.edited.are_same.Given as goal

abbrev pub invariant-loop-index : goal.invariant-loop-index
invariant-loop-index l =
    same_links (named l.old_nodes l.old) (named l.new_nodes l.new) ≡ same_links (named l.old_nodes (drop l.index l.old)) (named l.new_nodes (drop l.index l.new))

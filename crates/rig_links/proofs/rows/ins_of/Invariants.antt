use Rattle.std.proofs.Common.{◌≡◌, map, take}
use Rattle.rig_links.specs.ByKey.{in_of}
use Rattle.rig_links.proofs.rows.ins_of.Given as goal

abbrev pub invariant-loop-index : goal.invariant-loop-index
invariant-loop-index l = l.list.items ≡ map (in_of l.links) (take l.index l.links)

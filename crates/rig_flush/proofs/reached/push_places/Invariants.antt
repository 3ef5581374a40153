use Rattle.std.proofs.Common.{◌≡◌, ◌++◌, take}
use Rattle.rig_flush.specs.Tables.{places_in}
use Rattle.rig_flush.proofs.reached.push_places.Given as goal

abbrev pub invariant-loop-link : goal.invariant-loop-link
invariant-loop-link l = l.list.items ≡ l.initial.list.items ++ places_in l.positions.members (take l.link-index l.row)

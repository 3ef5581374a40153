use Rattle.std.proofs.Common.{◌≡◌, map, take}
use Rattle.rig_flush.specs.Search.{node_of}
use Rattle.rig_flush.proofs.reached.planned.Given as goal

abbrev pub invariant-loop-node : goal.invariant-loop-node
invariant-loop-node l = l.plan ≡ map (node_of l.links.ins l.order) (take l.node-index l.order)

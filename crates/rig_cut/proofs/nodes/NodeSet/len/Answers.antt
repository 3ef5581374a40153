use Rattle.std.proofs.Common.{ap, arith}
use Rattle.std.specs.Vec.{vec_capacity}
use Rattle.rig_cut.proofs.Members.{members_within}
use Rattle.rig_cut.proofs.nodes.NodeSet.len.Goals as goal

pub returns-clause-within : goal.returns-clause-within
returns-clause-within c =
    let s = c.self.inside in
    let within = members_within s.members.items s.positions.items (vec_capacity s.members) c.self.invariant in
    let count = ap (λ n. n.count) c.self.view_is in
    omega arith

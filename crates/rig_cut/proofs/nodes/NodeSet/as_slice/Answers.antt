use Rattle.std.proofs.Common.{sym, subst}
use Rattle.std.specs.Prelude.{nat_eq}
use Rattle.std.specs.List.{IsDistinct}
use Rattle.std.specs.Vec.{vec_capacity}
use Rattle.rig_cut.proofs.Members.{distinct}
use Rattle.rig_cut.proofs.nodes.NodeSet.as_slice.Goals as goal

pub returns-clause-once : goal.returns-clause-once
returns-clause-once c =
    let s = c.self.inside in
    subst (λ members. IsDistinct nat_eq members) (sym c.as_slice.ensures.value)
    (distinct s.members.items s.positions.items (vec_capacity s.members) c.self.invariant)

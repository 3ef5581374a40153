use Rattle.std.proofs.Common.{◌≡◌, ◌<◌, false, take, length, ap, subst, arith}
use Rattle.std.specs.Prelude.{nat_eq}
use Rattle.std.specs.List.{list_any}
use Rattle.std.specs.Vec.{vec_capacity}
use Rattle.std.proofs.lemmas.List.{get_or_read}
use Rattle.rig_cut.proofs.Members.{once}
use Rattle.rig_cut.proofs.nodes.NodeSet.get.Goals as goal

pub returns-clause-once : goal.returns-clause-once
returns-clause-once c =
    let s = c.self.inside in
    let same = ap (λ v. length v.members) c.self.view_is in
    let h : c.args.index < length s.members.items = omega arith in
    let at = get_or_read s.members.items c.args.index c.index.result.now h c.index.ensures 0 in
    subst (λ v. list_any (nat_eq c.index.result.now) (take c.args.index v.members) ≡ false) c.self.view_is
    (rw at (once s.members.items s.positions.items (vec_capacity s.members) c.self.invariant c.args.index h))

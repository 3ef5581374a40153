use Rattle.std.proofs.Common.{◌≡◌, ◌<◌, ◌++◌, ◌∷◌, [], false, length, ap, subst, sym, ◌∙◌, arith}
use Rattle.std.specs.Prelude.{nat_eq, slice_set}
use Rattle.std.specs.List.{list_any}
use Rattle.std.specs.Vec.{vec_capacity}
use Rattle.rig_cut.specs.NodeSets.{IsNodeSet}
use Rattle.rig_cut.proofs.Members.{members_within, one_more_within, one_more}
use Rattle.rig_cut.proofs.nodes.NodeSet.add.Goals as goal

pub overflow_cast-len : goal.overflow_cast-len
overflow_cast-len c =
    let s = c.self.inside in
    let within = members_within s.members.items s.positions.items (vec_capacity s.members) c.self.invariant in
    omega arith

pub push_reserved-requires : goal.push_reserved-requires
push_reserved-requires c =
    let s = c.self.inside in
    let count = ap (λ v. v.count) c.self.view_is in
    let node : c.args.node < length s.positions.items = omega arith in
    let new : list_any (nat_eq c.args.node) s.members.items ≡ false = ap (λ v. list_any (nat_eq c.args.node) v.members) c.self.view_is ∙ sym c.contains.ensures ∙ c.if-not-contains.true in
    let within = one_more_within s.members.items s.positions.items (vec_capacity s.members) c.self.invariant c.args.node node new in
    omega arith

pub invariant_of-self : goal.invariant_of-self
invariant_of-self c =
    let s = c.self.inside in
    let count = ap (λ v. v.count) c.self.view_is in
    let node : c.args.node < length s.positions.items = omega arith in
    let new : list_any (nat_eq c.args.node) s.members.items ≡ false = ap (λ v. list_any (nat_eq c.args.node) v.members) c.self.view_is ∙ sym c.contains.ensures ∙ c.if-not-contains.true in
    let len : length s.members.items ≡ c.len.result = omega arith in
    subst (λ n. IsNodeSet n (slice_set s.positions.items c.args.node c.len.result) (vec_capacity c.push_reserved.new.self)) (sym c.push_reserved.ensures.items)
    (subst (λ n. IsNodeSet (s.members.items ++ c.args.node ∷ []) (slice_set s.positions.items c.args.node n) (vec_capacity c.push_reserved.new.self)) len
    (subst (λ n. IsNodeSet (s.members.items ++ c.args.node ∷ []) (slice_set s.positions.items c.args.node (length s.members.items)) n) (sym c.push_reserved.ensures.capacity)
    (one_more s.members.items s.positions.items (vec_capacity s.members) c.self.invariant c.args.node node new)))

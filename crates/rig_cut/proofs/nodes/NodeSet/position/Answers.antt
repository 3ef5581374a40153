use Rattle.std.proofs.Common.{◌≡◌, ◌<◌, Some, length, ap, sym, subst, ◌∙◌, arith}
use Rattle.std.specs.Prelude.{nat_eq}
use Rattle.std.specs.List.{list_any, position}
use Rattle.std.specs.Vec.{vec_capacity}
use Rattle.std.proofs.lemmas.List.{get_or_read}
use Rattle.rig_cut.specs.Positions.{position_none}
use Rattle.rig_cut.proofs.Members.{is_position}
use Rattle.rig_cut.proofs.nodes.NodeSet.position.Goals as goal

pub returns-then-contains : goal.returns-then-contains
returns-then-contains c =
    let s = c.self.inside in
    let count = ap (λ v. v.count) c.self.view_is in
    let node : c.args.node < length s.positions.items = omega arith in
    let at = get_or_read s.positions.items c.args.node c.index.result.now node c.index.ensures 0 in
    let there = sym c.contains.ensures ∙ c.if-contains.true in
    subst (λ v. Some c.index.result.now ≡ position (nat_eq c.args.node) v.members) c.self.view_is
    (sym (is_position s.members.items s.positions.items (vec_capacity s.members) c.self.invariant c.args.node c.index.result.now at
    (ap (λ v. list_any (nat_eq c.args.node) v.members) c.self.view_is ∙ there)))

pub returns-else-contains : goal.returns-else-contains
returns-else-contains c = sym (position_none (nat_eq c.args.node) c.args.self.now.members 0 (sym c.contains.ensures ∙ c.if-contains.false))
